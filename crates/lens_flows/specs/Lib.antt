pub mod judge
pub mod counts
pub mod Lines
pub mod Sums
pub mod Answer
pub mod Writing
pub mod Laws
