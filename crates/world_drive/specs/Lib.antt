pub mod machines
pub mod exact
pub mod devices
pub mod Sources
pub mod Observing
pub mod Seeing
pub mod Driving
