pub mod Amount
pub mod Mean
pub mod Slip
pub mod OctetTime
pub mod Reading
