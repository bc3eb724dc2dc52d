-- There is one run, and it goes on by the next record that is due.
pub mod Places
pub mod Lacking
pub mod FrontOfRun
pub mod OneRun
pub mod Grow
pub mod SameSteps
pub mod Determined
pub mod NetworkRuns
