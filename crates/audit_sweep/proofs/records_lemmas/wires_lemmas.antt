pub mod Wires
