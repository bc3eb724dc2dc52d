pub mod Granules
pub mod Lines
pub mod Stamps
pub mod Laws
