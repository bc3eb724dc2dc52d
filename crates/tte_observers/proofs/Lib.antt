pub mod Existing
pub mod captures_lemmas
pub mod stamps_lemmas
pub mod votes_lemmas
