pub mod Notes
pub mod Workers
pub mod Heaps
pub mod Seats
pub mod Known
pub mod Splits
