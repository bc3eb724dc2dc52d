-- What holds of all runs.
pub mod Laws
pub mod FirstLaws
pub mod Safety
pub mod Spread
