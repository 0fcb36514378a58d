pub mod Shift
pub mod Lent
