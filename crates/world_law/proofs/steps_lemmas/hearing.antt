-- A frame on a wire arrives: its device hears it.
pub mod Calling
pub mod Receptions
pub mod Called
pub mod HeardSteps
pub mod OneMaster
