-- The specification of the assembler and of score formulas, in reading order. It is part of the trusted base. `Laws`
-- follows from it, and `Examples` has cases of it. Only internal functions and proofs use `Code`.
pub mod Formula
pub mod Assembly
pub mod LoadFiles
pub mod SourceLines
pub mod Laws
pub mod Outcomes
pub mod Examples
pub mod Code
