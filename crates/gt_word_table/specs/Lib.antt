pub mod Views
pub mod Shown
pub mod Rule
pub mod Steps
pub mod Opening
