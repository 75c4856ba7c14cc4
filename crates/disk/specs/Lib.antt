pub mod Meaning
pub mod Image
pub mod Join
pub mod Asked
pub mod Turns
