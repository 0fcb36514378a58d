pub mod Matching
pub mod Chunks
pub mod Covered
pub mod Lays
pub mod Walking
