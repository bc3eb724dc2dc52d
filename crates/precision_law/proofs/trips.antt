-- One frame: it goes from link to link, takes dmax, and is permanent; the sound channel delivers it.
pub mod Links
pub mod Travels
pub mod Upward
pub mod Legs
pub mod Gates
pub mod Sound
pub mod SoundChannel
