-- A device by itself: what it was given and has done, what it has still to do, which calls may come, and what it
-- answers.
pub mod Nodes
pub mod Tasks
pub mod Calls
pub mod Answers
