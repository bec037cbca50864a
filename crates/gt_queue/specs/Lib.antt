pub mod Contents
pub mod Links
pub mod Nodes
