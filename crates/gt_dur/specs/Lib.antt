pub mod Pairs
pub mod Duration
