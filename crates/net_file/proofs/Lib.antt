pub mod Numbers
pub mod Documents
pub mod Tops
pub mod FirstBearers
pub mod TextMoves
