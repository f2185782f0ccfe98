pub mod Bounds
pub mod LinesOf
pub mod Reading
pub mod Waits
pub mod Texts
