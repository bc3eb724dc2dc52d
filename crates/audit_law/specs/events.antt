pub mod Readings
pub mod Settings
pub mod Clocks
pub mod Reaches
pub mod Beginnings
pub mod Remembering
