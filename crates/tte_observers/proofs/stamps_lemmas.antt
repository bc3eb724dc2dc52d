pub mod granules_lemmas
pub mod SameRecords
pub mod LineStamps
pub mod Stamped
pub mod EventLines
pub mod Words
