-- The debugger: what its lines request, what it replies, and what it has written, in this order.
pub mod Words
pub mod Requests
pub mod Lines
pub mod Replies
pub mod Readings
pub mod Transcript
