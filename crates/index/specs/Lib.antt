pub mod Maps
pub mod Places
pub mod Slots
pub mod Probes
