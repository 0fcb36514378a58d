-- When keys are the same.
pub mod Keys
