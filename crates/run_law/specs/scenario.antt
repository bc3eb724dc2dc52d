-- What a run is of: the network, its devices and ways, the clocks' rates, the events and the fault hypothesis.
pub mod Scenarios
pub mod Rates
pub mod Faults
pub mod Hypothesis
pub mod Ways
pub mod Devices
