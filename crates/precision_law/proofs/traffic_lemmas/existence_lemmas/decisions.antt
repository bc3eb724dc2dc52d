-- Whether a record is due at a place is decided, rank by rank.
pub mod Places
pub mod Changes
pub mod Dispatches
pub mod Ranks
