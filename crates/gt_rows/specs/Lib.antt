pub mod Agrees
pub mod Lent
pub mod Rows
pub mod Frames
