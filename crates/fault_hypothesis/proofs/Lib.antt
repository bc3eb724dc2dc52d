pub mod Keeping
pub mod Ordering
pub mod storm_lemmas
