-- Lemmas that the laws and the crates above depend on. They concern no function of this crate.
pub mod Alike
pub mod Apart
pub mod ApartAlone
pub mod ApartPairs
pub mod Births
pub mod Copied
pub mod MovedStart
pub mod Near
pub mod ReferenceCode
pub mod Relative
pub mod Touched
pub mod Written
