pub mod Machines
pub mod Codes
pub mod Channels
pub mod Syncs
pub mod Applied
pub mod Faults
pub mod Trees
