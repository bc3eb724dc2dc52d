-- A frame that waits is permanent.
pub mod Called
pub mod Judged
pub mod Ripens
pub mod Clustered
pub mod Answered
pub mod RipenedSteps
