pub mod Counts
pub mod Bytes
pub mod Sure
pub mod Buffer
pub mod Tried
