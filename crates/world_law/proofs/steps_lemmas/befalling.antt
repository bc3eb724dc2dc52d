-- What comes of the events of an instant is settled.
pub mod EventRecords
pub mod Befell
