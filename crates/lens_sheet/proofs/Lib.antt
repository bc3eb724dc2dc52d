pub mod Texts
pub mod Rounding
pub mod Shares
pub mod Loaded
pub mod Sheets
