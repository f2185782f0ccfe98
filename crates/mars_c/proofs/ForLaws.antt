-- Lemmas that the laws use, but no function of this crate.
pub mod ByRounds
pub mod Equal
pub mod Recurring
pub mod Rounds
