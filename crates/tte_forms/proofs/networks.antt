-- The answer for a network file.
pub mod KeyLengths
pub mod Answers
