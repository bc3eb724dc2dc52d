-- What the fault hypothesis leaves of channels, switches and senders.
pub mod GoodDevices
pub mod Channels
