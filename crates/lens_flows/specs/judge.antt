pub mod Courses
pub mod Times
pub mod Flows
pub mod Fates
pub mod Beginnings
pub mod Values
pub mod Certain
