-- What a device took by the records, and what it dispatches.
pub mod AtHand
pub mod Dispatching
