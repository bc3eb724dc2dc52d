pub mod Made
pub mod traced_lemmas
