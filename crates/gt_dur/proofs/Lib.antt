pub mod Runs
pub mod Sums
pub mod Progress
pub mod Reading
pub mod Splitting
