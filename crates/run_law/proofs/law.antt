-- The first laws of all runs.
pub mod FirstDeliveries
pub mod FirstBroken
pub mod Ends
