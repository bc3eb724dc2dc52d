-- What the fault hypothesis leaves: enough good masters, and one channel that loses nothing.
pub mod Masters
pub mod Sound
pub mod Turned
