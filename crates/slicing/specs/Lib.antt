pub mod Slices
pub mod Sized
