-- The specification of battles: turns, edits, records and searches, in reading order. It is part of the trusted base.
-- `Laws` follows from it, and `Examples` has cases of it. Only internal functions and proofs use `Code`.
pub mod Limits
pub mod Queue
pub mod State
pub mod Addresses
pub mod Writes
pub mod Operand
pub mod Effect
pub mod Turn
pub mod Edit
pub mod Validity
pub mod Start
pub mod Block
pub mod BlockFaults
pub mod Shape
pub mod Leads
pub mod Record
pub mod Past
pub mod Touched
pub mod Marks
pub mod Search
pub mod Moments
pub mod Ancestors
-- Definitions that only laws use, the laws, the examples, and how the code represents the definitions.
pub mod Moved
pub mod Reach
pub mod Apart
pub mod ReferenceCode
pub mod Laws
pub mod Examples
pub mod Code
