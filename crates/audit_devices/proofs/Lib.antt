pub mod Tells
pub mod Kept
pub mod Follows
pub mod KeptAll
pub mod Words
pub mod stretches_lemmas
pub mod clocks_lemmas
pub mod permanence_lemmas
