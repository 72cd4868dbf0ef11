-- The rules first, as the paper has them; then the machine, what is claimed of it, and the paper's cases.
pub mod Counts
pub mod Rules
pub mod Paper
pub mod Machine
pub mod History
pub mod Claim
pub mod Cases
