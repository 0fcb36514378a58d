-- The lemmas on numbers in bytes.
pub mod Numbers
pub mod Puts
pub mod Allbytes
pub mod Padding
