pub mod Calls
pub mod Records
pub mod Promises
pub mod Theorem
