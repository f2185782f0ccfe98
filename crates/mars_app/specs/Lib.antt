-- The specification of the program and its debugger, in reading order. It is part of the trusted base. `Laws` follows
-- from it, and `Examples` has cases of it. Only internal functions and proofs use `Code`.
pub mod Limits
pub mod CommandLine
pub mod Options
pub mod Loading
pub mod Contests
pub mod Streams
pub mod Debugger
pub mod Debugging
pub mod Runs
pub mod Faults
pub mod Status
pub mod Laws
pub mod Examples
pub mod Code
