pub mod machines_lemmas
pub mod exact_lemmas
pub mod devices_lemmas
pub mod Earlier
pub mod Drives
pub mod Words
