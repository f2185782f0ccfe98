-- Examples. The check computes each of them.
pub mod CommandLines
pub mod Requests
pub mod Replies
pub mod Transcripts
pub mod Contests
pub mod Failures
