pub mod Small
pub mod Kept
pub mod Gathered
pub mod Rising
pub mod Steps
