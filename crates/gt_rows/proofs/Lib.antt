pub mod Frames
pub mod Owns
pub mod Keeping
pub mod Tickers
