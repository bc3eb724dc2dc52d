-- What a device does at one moment comes in its order, and is bounded.
pub mod Growing
pub mod FewActs
