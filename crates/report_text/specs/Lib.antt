pub mod NoteWords
pub mod NoteLine
pub mod Ranges
pub mod Laws
