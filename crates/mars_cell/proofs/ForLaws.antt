-- Lemmas that the laws and the crates above depend on. They concern no function of this crate.
pub mod CutShort
pub mod RoundTrip
pub mod Values
pub mod WrittenLines
