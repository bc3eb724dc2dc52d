pub mod AscendingPlaces
pub mod Numbered
pub mod Bodies
pub mod wires_lemmas
pub mod dispatches_lemmas
