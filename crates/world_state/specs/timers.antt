pub mod SlotKeys
pub mod Times
