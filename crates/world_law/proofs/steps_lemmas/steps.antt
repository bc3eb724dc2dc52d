-- The steps of a world.
pub mod Passed
pub mod LeftSteps
pub mod AppliedParts
pub mod Applied
