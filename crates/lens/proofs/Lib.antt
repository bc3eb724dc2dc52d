pub mod draw_lemmas
pub mod events_lemmas
pub mod FormLemmas
