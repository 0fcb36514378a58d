-- What the checksum is, and its laws.
pub mod Crc
pub mod Laws
