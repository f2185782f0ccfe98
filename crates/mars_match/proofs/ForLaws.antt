-- Lemmas for the laws and for the crates above, which no function of this crate needs.
pub mod FullCores
pub mod Partitions
pub mod RoundCounts
pub mod Survivors
