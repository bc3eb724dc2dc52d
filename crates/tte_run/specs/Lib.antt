pub mod Top
pub mod SecondFiles
pub mod Whole
