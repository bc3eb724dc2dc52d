pub mod ShapeRules
pub mod Elements
pub mod NameLemmas
pub mod WindowLemmas
pub mod AtPlace
