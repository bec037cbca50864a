pub mod Duration
pub mod Statements
pub mod Deeds
pub mod Progress
pub mod Faults
pub mod Grammar
