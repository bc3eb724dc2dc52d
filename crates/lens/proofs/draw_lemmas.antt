pub mod Marking
pub mod Keeping
pub mod Naming
pub mod Reading
