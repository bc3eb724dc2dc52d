pub mod Splits
pub mod Characters
pub mod Visible
pub mod Lines
pub mod SameReports
pub mod Counting
