pub mod summary
pub mod Answer
pub mod Safely
pub mod Spreads
pub mod Counts
pub mod Storms
pub mod Laws
