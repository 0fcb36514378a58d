-- What numbers in bytes are, and their laws.
pub mod Fields
pub mod Signs
pub mod Laws
