pub mod Trips
pub mod Comings
pub mod Lines
pub mod Arrivals
pub mod Following
pub mod Seeing
pub mod Answer
pub mod Laws
