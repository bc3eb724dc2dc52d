pub mod Splitting
pub mod WordsBack
pub mod Lowering
pub mod Finding
pub mod EventsBack
pub mod ReadTimes
