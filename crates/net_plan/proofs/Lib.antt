pub mod Bearing
pub mod Padded
pub mod Amounts
pub mod Trees
pub mod SameIds
pub mod InRange
