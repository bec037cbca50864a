pub mod Quiet
pub mod Still
pub mod Formed
