pub mod Signals
pub mod Receptions
pub mod Departings
pub mod Entrances
