-- How the records leave a device, and what it has done.
pub mod Own
pub mod Plain
pub mod Told
pub mod Left
pub mod Deeds
pub mod Acted
pub mod Growing
pub mod Ready
pub mod Takings
pub mod Recorded
