pub mod Moves
pub mod Shown
pub mod Room
pub mod Numbers
pub mod Callers
