pub mod Field
pub mod Law
pub mod Promises
