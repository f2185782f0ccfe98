-- How the code represents and computes what the specification defines. Only internal functions and proofs use these definitions.
pub mod Problems
pub mod Sources
pub mod Labels
pub mod Lines
