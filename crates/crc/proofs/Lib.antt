-- The lemmas on the checksum.
pub mod Rules
pub mod Linear
pub mod Sums
