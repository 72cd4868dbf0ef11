pub mod Places
pub mod Outcomes
pub mod Promises
pub mod Laws
pub mod Lawful
