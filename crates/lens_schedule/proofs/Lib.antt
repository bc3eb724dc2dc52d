pub mod NextParts
pub mod LawProofs
pub mod LaneLists
pub mod Joins
pub mod Bounds
