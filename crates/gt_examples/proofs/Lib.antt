pub mod Idle
pub mod Choices
