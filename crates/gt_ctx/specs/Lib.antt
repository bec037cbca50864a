pub mod Decls
pub mod Tree
pub mod Contents
pub mod Calls
pub mod Links
pub mod Walk
pub mod Kept
pub mod Rules
