pub mod Puts
pub mod Pushes
pub mod Told
