pub mod Task
pub mod Exit
