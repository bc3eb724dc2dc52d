pub mod granules
pub mod StampLines
pub mod Answer
pub mod Safely
pub mod Stamping
