pub mod State
pub mod Faults
pub mod Steps
pub mod Actions
pub mod Laws
