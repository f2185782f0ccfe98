-- Examples. The check computes each of them.
pub mod Placements
pub mod Listings
pub mod Rounds
pub mod Contests
pub mod Populations
pub mod Fates
