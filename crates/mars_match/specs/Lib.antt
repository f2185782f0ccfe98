-- The specification of placements, matches, leagues and their results, in reading order. It is part of the trusted
-- base. `Laws` follows from it, and `Examples` has cases of it. Only internal functions and proofs use `Code`.
pub mod Placement
pub mod Tables
pub mod Battles
pub mod Rounds
pub mod Leagues
pub mod Populations
pub mod Counts
pub mod Fates
pub mod Results
pub mod CallResults
pub mod Laws
pub mod Examples
pub mod Code
