pub mod Lists
pub mod Views
pub mod Steady
pub mod Promises
