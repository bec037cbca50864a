pub mod Ahead
pub mod LineLemmas
