-- What compression masters collect and send: its base lies in the hull, and one frame a cycle has a good member.
pub mod Clusters
pub mod Frames
pub mod Counted
