-- How the code represents and computes what the specification defines. Only internal functions and proofs use these definitions.
pub mod Problems
pub mod Kinds
pub mod Rows
pub mod Pairs
pub mod Scanning
pub mod Progress
pub mod Climbing
pub mod Positions
pub mod Labels
pub mod Readings
pub mod Comments
pub mod Used
pub mod Heads
pub mod Loops
pub mod Counters
pub mod SourceLoops
