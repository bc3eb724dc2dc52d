pub mod Changes
pub mod Points
pub mod Keeping
pub mod Standing
pub mod Rising
