pub mod Words
pub mod Choosing
pub mod Striking
pub mod Events
pub mod Known
pub mod Progress
pub mod Laws
