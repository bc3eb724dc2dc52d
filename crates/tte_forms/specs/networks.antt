-- What is answered for a network file.
pub mod NetworkLine
pub mod Accepting
pub mod NoNetworks
pub mod Checking
