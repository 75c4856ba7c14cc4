pub mod Served
pub mod Images
pub mod InPlace
pub mod Turns
pub mod Members
