-- What a world keeps, and what its steps are made of.
pub mod World
pub mod Calls
pub mod Moves
pub mod Outcomes
