-- The text of a plan.
pub mod Lines
pub mod Blocks
pub mod Ids
pub mod Refusals
