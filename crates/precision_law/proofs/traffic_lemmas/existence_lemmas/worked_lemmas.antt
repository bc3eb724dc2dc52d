pub mod WorkedNetwork
