-- How great the numbers in the places of records may be.
pub mod Weights
