-- What a device does by itself is a task of its node.
pub mod Acting
pub mod Ready
pub mod Dues
