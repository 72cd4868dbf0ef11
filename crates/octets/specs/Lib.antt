pub mod Number
pub mod Parts
pub mod Law
pub mod Promises
