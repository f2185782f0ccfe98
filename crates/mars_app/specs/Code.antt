-- Options, errors, ends of runs and steps of the debugger, for the contracts of internal functions and for proofs.
pub mod Plays
pub mod Allowed
pub mod Blames
pub mod Words
pub mod WordTables
pub mod LineBuffer
pub mod Steps
pub mod Waiting
