pub mod Run
pub mod Served
pub mod Settled
pub mod Calls
pub mod Serves
pub mod Begun
