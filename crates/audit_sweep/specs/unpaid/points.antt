pub mod FirstUnpaid
pub mod Kept
pub mod Sent
pub mod Told
