pub mod Positions
pub mod Laid
pub mod Heads
pub mod Whole
pub mod Chained
