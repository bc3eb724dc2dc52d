pub mod KeyTexts
pub mod Steps
pub mod Values
pub mod Reading
pub mod Schema
pub mod Numbering
pub mod TextPlaces
