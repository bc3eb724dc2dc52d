pub mod Lists
pub mod Naturals
pub mod Integers
pub mod Options
pub mod Bools
