pub mod Extremes
pub mod InStep
pub mod Passing
pub mod Apart
