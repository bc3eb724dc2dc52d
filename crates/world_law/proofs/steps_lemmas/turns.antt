-- The turns of a world.
pub mod Turns
