-- Each record of a run has a source, and the run goes on by what is settled, or by an event.
pub mod Worlds
pub mod TaskPlaces
pub mod Over
pub mod Agreement
pub mod Foremost
pub mod FoundedAs
