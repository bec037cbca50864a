pub mod Ends
pub mod Faults
pub mod Help
pub mod Answered
