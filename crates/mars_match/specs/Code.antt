-- How the code represents and computes what the specification defines. Only internal functions and proofs use these definitions.
pub mod Tallies
pub mod LeagueSteps
pub mod Levels
pub mod Lineups
pub mod Keeping
pub mod Deeds
