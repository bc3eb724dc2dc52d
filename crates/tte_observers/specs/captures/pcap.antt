pub mod Layout
pub mod Reading
pub mod ReadingLaw
pub mod Writing
pub mod RoundTrip
