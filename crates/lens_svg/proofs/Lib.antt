pub mod NoteTexts
pub mod Order
pub mod Painting
pub mod Hues
pub mod Folds
pub mod Windows
