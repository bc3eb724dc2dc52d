-- A device acts: how it stands then, and what is due.
pub mod ActedSteps
pub mod Correcting
pub mod Complete
pub mod CorrectStep
pub mod CorrectSteps
pub mod Kept
pub mod Dispatching
pub mod OneAct
pub mod Ends
pub mod FirstStep
pub mod Work
pub mod JoinSteps
pub mod Points
pub mod Over
pub mod SendSteps
