-- Where records come from, and how a run goes on.
pub mod Next
pub mod Sources
pub mod First
pub mod Agreeing
pub mod Applying
