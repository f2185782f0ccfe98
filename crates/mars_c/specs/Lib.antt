-- The specification of the library for C, in reading order. It is part of the trusted base. `Laws` follows from it, and
-- `Examples` has cases of it.
pub mod Settings
pub mod Cells
pub mod Entrants
pub mod Programs
pub mod Battles
pub mod Contests
pub mod Records
pub mod Touches
pub mod Blocks
pub mod Following
pub mod Ancestors
pub mod Debugging
pub mod Refusals
pub mod Outcomes
pub mod Laws
pub mod Codes
pub mod Examples
