pub mod CallerLemmas
pub mod Digits
pub mod FirstLine
pub mod ForLaws
pub mod Heads
pub mod Listings
pub mod PartsOf
