pub mod Banks
pub mod Whole
