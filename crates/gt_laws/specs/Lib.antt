pub mod Told
pub mod Contexts
pub mod GoesOn
pub mod Laws
pub mod Ends
pub mod Broken
pub mod Unrolled
