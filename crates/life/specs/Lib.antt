pub mod Disk
pub mod Items
pub mod Log
pub mod Format
pub mod Calls
pub mod Life
