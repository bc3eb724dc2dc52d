pub mod unpaid_lemmas
pub mod records_lemmas
pub mod Lacks
pub mod StandingBehind
pub mod StandingPoints
pub mod Departures
pub mod Words
