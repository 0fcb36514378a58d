-- The lemmas on what a search finds.
pub mod Firsts
