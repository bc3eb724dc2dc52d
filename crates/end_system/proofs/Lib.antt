pub mod Tasks
pub mod Corrections
pub mod Ripe
pub mod Arrivals
pub mod RowSearch
pub mod Words
