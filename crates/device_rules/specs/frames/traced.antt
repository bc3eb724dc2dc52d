pub mod RecordOctets
pub mod Keeping
pub mod Delivery
