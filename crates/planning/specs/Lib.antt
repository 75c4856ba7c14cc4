pub mod Replay
pub mod Frames
pub mod Schedules
pub mod Minimum
pub mod Chosen
pub mod Plan
pub mod Bounds
pub mod Lists
