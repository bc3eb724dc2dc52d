-- The compression master of the sound channel sends one frame of the cycle, with all first masters.
pub mod SoundMaster
pub mod Aimed
pub mod WholeMaster
