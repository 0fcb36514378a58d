-- What is found.
pub mod Places
