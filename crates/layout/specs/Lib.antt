pub mod Read
pub mod Real
pub mod Plans
pub mod Chains
pub mod Volumes
pub mod Lives
pub mod Example
pub mod Laws
