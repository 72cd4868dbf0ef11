pub mod Sums
pub mod Outcomes
pub mod View
pub mod Steady
pub mod Promises
