pub mod OneStorm
pub mod Storms
