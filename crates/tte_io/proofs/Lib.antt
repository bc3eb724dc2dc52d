pub mod Taken
pub mod Passing
pub mod Ranges
pub mod LineReading
pub mod Sizes
pub mod Spelling
