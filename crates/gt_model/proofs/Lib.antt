pub mod Tables
pub mod Items
pub mod GoodCode
pub mod Declared
pub mod Changes
