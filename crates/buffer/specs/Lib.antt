pub mod Runs
pub mod Bits
pub mod Walk
pub mod Cases
