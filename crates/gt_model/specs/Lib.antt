pub mod Tables
pub mod Times
pub mod Script
pub mod Good
pub mod Parts
pub mod Named
