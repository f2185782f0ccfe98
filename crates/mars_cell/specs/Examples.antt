-- Examples of the specification, each of which the check computes.
pub mod Cells
pub mod LoadFiles
pub mod Parameters
