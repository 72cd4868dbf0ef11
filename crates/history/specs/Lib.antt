-- The calls and the worlds that they reach; the theorem and what follows from it; then examples and the paper's cases.
pub mod Calls
pub mod Theorem
pub mod Allowed
pub mod Corollaries
pub mod Cases
pub mod Examples
