pub mod messages
pub mod places
pub mod text
pub mod joining
pub mod Reading
pub mod Answer
pub mod Laws
