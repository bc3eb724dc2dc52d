-- The words of the proofs: each module passes on what others declare.
pub mod Std
pub mod Plans
pub mod Runs
pub mod Laws
pub mod Clocks
pub mod Blocks
