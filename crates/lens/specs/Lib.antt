pub mod Limit
pub mod draw
pub mod events
pub mod Forms
pub mod Questions
pub mod Top
