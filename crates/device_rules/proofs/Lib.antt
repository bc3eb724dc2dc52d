pub mod least_key_lemmas
pub mod frames_lemmas
pub mod Numbers
pub mod Takings
pub mod Verdicts
pub mod AtPlace
pub mod FirstKinds
