-- How the code represents what the specification defines, for internal functions, proofs, and values of `PackedCell`.
pub mod Operands
pub mod Opcodes
pub mod Turns
pub mod Marks
pub mod Runs
pub mod Records
pub mod Distances
pub mod Tags
pub mod Words
pub mod Frequent
pub mod Searches
pub mod Ancestors
pub mod Lanes
pub mod Blocks
