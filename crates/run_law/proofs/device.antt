-- Device.
pub mod States
