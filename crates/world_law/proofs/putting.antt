-- A source is worked off, and its records are put in among those to come.
pub mod Numberless
pub mod Near
pub mod Idle
pub mod PutIn
pub mod Moving
pub mod Putting
pub mod Placing
