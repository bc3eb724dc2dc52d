-- How the records leave a device, as records come and time passes.
pub mod Leaps
pub mod Unmoved
pub mod Standing
pub mod Befalls
pub mod Deeds
pub mod Working
