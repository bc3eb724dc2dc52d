-- The first of what is to come is given.
pub mod GivenParts
pub mod Given
pub mod Storing
pub mod GivenAs
