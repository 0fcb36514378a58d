pub mod Cells
pub mod Memories
pub mod Sized
