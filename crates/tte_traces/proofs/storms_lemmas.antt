pub mod summary_lemmas
pub mod Ends
pub mod Summed
pub mod Locals
pub mod Drawn
