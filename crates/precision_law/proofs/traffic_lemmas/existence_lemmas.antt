pub mod Sweep
pub mod bounds
pub mod decisions
pub mod Existence
pub mod worked_lemmas
