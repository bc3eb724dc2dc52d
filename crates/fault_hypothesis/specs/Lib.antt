pub mod SoundMasters
pub mod Watching
pub mod Own
pub mod storm
