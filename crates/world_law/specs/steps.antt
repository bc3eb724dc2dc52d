pub mod Steps
pub mod Ripening
pub mod Acting
pub mod Repeating
pub mod Befalling
pub mod Ending
pub mod Turns
