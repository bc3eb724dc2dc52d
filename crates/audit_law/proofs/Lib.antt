pub mod law_lemmas
pub mod events_lemmas
pub mod collections_lemmas
