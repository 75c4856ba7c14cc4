pub mod Distances
pub mod Recency
pub mod Curve
pub mod Points
