-- A device that is on comes in: it has the common time a cycle later, and is synchronised after one more.
pub mod CommonTime
pub mod Arriving
