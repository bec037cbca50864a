pub mod Fronts
pub mod ScriptNames
mod Decimals
