-- Lemmas that the laws use, but no function of this crate.
pub mod Broken
pub mod Failing
pub mod Given
pub mod Pauses
pub mod Recurring
pub mod Replies
