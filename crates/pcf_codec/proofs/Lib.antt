pub mod Zeros
pub mod Spellings
pub mod Sequences
pub mod Numbers
