pub mod Words
pub mod growing
pub mod acting
pub mod steps
pub mod befalling
pub mod hearing
pub mod ripening
pub mod turns
