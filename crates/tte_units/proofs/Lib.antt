pub mod general_lemmas
pub mod Means
pub mod Amounts
