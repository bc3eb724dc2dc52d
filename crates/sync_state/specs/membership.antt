pub mod Members
pub mod Hearing
pub mod BestFrame
pub mod Summary
pub mod Laws
