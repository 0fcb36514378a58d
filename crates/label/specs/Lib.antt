-- The label of a volume, and the positions of its log.
pub mod Label
pub mod Position
pub mod Laws
