-- Lemmas for the laws and for the crates above, which no function of this crate needs.
pub mod FreeNames
pub mod InFront
pub mod ReadBack
