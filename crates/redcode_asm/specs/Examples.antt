-- Examples of the specification, each of which the check computes.
pub mod Warriors
pub mod Tokens
pub mod Formulas
pub mod LoadFiles
pub mod SourceLines
pub mod Names
