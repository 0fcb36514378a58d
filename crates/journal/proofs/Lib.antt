pub mod Acting
pub mod Clearing
pub mod Deciding
pub mod Labelling
pub mod Effects
pub mod Labelled
