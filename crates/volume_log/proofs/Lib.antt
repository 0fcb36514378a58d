pub mod Outcomes
pub mod Rows
pub mod Ordered
pub mod Window
pub mod Backwards
