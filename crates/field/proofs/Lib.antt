pub mod Codes
pub mod Laid
pub mod Taken
pub mod Tested
pub mod Law
pub mod Promises
