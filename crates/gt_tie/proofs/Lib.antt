pub mod Moves
pub mod Stores
pub mod Known
pub mod Puts
pub mod Splits
