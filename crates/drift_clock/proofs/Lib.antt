pub mod Drifts
pub mod Histories
pub mod Readings
pub mod Sums
pub mod ExactSegments
pub mod transparent_lemmas
