-- Lemmas that the laws and the crates above use, but no function of this crate.
pub mod Arriving
pub mod Few
pub mod Keeping
pub mod Limits
pub mod Scripted
pub mod Valid
pub mod Wanting
