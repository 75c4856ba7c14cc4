pub mod Refusals
pub mod Results
pub mod Geometries
pub mod Keys
pub mod Lists
pub mod Rings
pub mod VolumeCodes
