pub mod Orders
pub mod Counts
pub mod Telling
pub mod KeptDeliveries
pub mod Within
