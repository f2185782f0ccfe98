-- Lemmas for the laws and for the crates above, which no function of this crate needs.
pub mod ResultValues
pub mod BehindEnd
pub mod PrintedNames
pub mod ShapedTrees
pub mod Unread
