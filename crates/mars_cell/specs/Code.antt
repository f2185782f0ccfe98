-- How the code represents what the specification defines. Only internal functions and proofs use these definitions.
pub mod Listing
