pub mod Headline
pub mod Laws
pub mod Under
