pub mod Ordered
pub mod FlowLists
pub mod PartLists
pub mod Greatest
pub mod Counted
pub mod Nearest
pub mod Deliveries
pub mod Told
