pub mod FirstUnpaid
pub mod Owing
pub mod Examples
