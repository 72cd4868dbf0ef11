pub mod Outcomes
pub mod Image
pub mod Law
pub mod Promises
