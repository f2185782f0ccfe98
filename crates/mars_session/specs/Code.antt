-- The storage of each tape as a history, and appends. Only internal functions and proofs use these definitions.
pub mod Whole
pub mod Journals
pub mod Appending
