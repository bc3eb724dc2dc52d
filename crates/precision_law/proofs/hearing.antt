-- What devices hear: frames of compression masters, in time, and in the block of their cycle.
pub mod Heard
pub mod Timely
pub mod InBlocks
pub mod GoodFrames
