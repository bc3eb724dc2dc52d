-- The sizes of an accepted network leave room, and so the instants of a cycle come in order.
pub mod Instants
pub mod Few
