pub mod Receive
pub mod Kinds
