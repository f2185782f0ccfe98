-- The specification of a session: its history, its commands and its tapes, in reading order. It is part of the trusted
-- base. `Laws` follows from it, and `Examples` has cases of it. Only internal functions and proofs use `Code`.
pub mod Limits
pub mod History
pub mod Retention
pub mod Commands
pub mod Script
pub mod Tapes
pub mod Examples
pub mod Laws
pub mod Code
