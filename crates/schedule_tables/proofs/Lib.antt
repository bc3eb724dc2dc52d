pub mod SlotLemmas
pub mod Margins
pub mod Search
