pub mod Emissions
pub mod Firsts
pub mod Kept
