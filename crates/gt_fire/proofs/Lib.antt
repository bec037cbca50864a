pub mod Heads
pub mod Sleeping
pub mod Deriving
