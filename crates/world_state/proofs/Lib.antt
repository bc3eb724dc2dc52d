pub mod queue_lemmas
pub mod WorldSteps
pub mod Queues
pub mod Befalls
pub mod Placings
pub mod Mapped
