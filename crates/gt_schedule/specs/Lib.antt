pub mod Counts
pub mod Schedule
pub mod Scheduler
