pub mod Existence
pub mod captures
pub mod stamps
pub mod votes
