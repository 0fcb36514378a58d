-- Histories and cuts
pub mod Lists
pub mod Disk
-- The log's ends
pub mod Log
pub mod Tiles
-- Laying, and what items ask for in words
pub mod Lay
pub mod Words
pub mod Intents
pub mod Bytes
pub mod Inside
-- The dead and the live phase
pub mod Dead
pub mod Replay
pub mod Live
pub mod Ends
-- The steps
pub mod Label
pub mod Calls
pub mod Clear
-- The whole
pub mod Whole
pub mod Second
-- A small format and a life in it
pub mod Example
