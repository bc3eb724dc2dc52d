-- What the lines of a file of messages mean.
pub mod Steps
pub mod Values
pub mod Words
pub mod Message
pub mod Reading
pub mod Lines
