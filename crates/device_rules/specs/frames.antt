pub mod Made
pub mod traced
