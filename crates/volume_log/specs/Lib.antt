pub mod Faults
pub mod Sectors
pub mod Seeking
