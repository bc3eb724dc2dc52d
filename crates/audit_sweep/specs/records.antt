pub mod places
pub mod Keeping
pub mod wires
pub mod dispatches
