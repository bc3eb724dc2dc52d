-- Where in the cycle rows have a place.
pub mod Offsets
pub mod Ways
pub mod Placing
pub mod Trying
pub mod Scoring
pub mod Best
pub mod There
pub mod Fitting
pub mod Filling
pub mod InOrder
pub mod Limits
pub mod Ordering
pub mod Moving
pub mod Planning
pub mod Spacing
pub mod Same
