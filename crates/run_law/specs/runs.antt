-- What the run is, and when a record is due.
pub mod Runs
pub mod DueRecords
