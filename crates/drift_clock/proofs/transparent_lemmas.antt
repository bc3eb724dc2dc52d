pub mod HopLaw
pub mod WaitLaw
