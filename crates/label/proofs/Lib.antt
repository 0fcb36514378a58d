-- The lemmas on labels and positions.
pub mod Back
