-- What `show` answers.
pub mod FrameLine
pub mod Answer
pub mod Law
