-- Examples of the specification, each of which the check computes.
pub mod Tokens
pub mod Expressions
pub mod Trees
pub mod Lines
pub mod Expansion
pub mod Faults
