-- The answer of `show`.
pub mod Frames
pub mod Answers
