pub mod device
pub mod source
pub mod world
pub mod steps
