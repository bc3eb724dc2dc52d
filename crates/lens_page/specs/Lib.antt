pub mod Opening
pub mod Closing
pub mod Lines
pub mod Pages
pub mod Answer
pub mod Laws
