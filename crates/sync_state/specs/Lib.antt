pub mod membership
pub mod correction
pub mod Plan
pub mod Standing
pub mod Integration
pub mod Verdicts
pub mod Calls
pub mod Laws
