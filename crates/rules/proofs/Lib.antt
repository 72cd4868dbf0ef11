-- The machine gives what the rules give: Theorem. Of the rules alone: AtOne, OneAnswer, Records, Sums and Cuts. The paper's cases:
-- Cases. Each file rests on those above it.
pub mod Apart
pub mod Sums
pub mod Cuts
pub mod Rows
pub mod Tests
pub mod Latch
pub mod Defect
pub mod Stood
pub mod Availability
pub mod Records
pub mod Turn
pub mod Holds
pub mod Readings
pub mod Histories
pub mod Theorem
pub mod Sound
pub mod Decide
pub mod Found
pub mod Declared
pub mod OneAnswer
pub mod AtOne
pub mod Numbers
pub mod Cases
