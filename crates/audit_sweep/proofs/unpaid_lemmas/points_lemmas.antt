pub mod Telling
pub mod FirstUnpaid
pub mod Words
