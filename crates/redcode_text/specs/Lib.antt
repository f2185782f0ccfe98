-- The specification of how a source is read, in reading order. It is part of the trusted base. `Laws` follows from it,
-- and `Examples` has cases of it. Only internal functions and proofs use `Code`.
pub mod Bytes
pub mod Results
pub mod Spans
pub mod Tokens
pub mod Expression
pub mod Trees
pub mod Source
pub mod Equates
pub mod Lines
pub mod Expansion
pub mod Programs
pub mod Views
pub mod Outcomes
pub mod Laws
pub mod Examples
pub mod Code
