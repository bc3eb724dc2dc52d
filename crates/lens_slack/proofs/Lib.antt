pub mod Taken
pub mod Spots
pub mod Files
pub mod Verdict
pub mod Named
pub mod least_lemmas
