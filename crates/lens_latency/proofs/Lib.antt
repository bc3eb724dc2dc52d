pub mod Latencies
pub mod Givings
pub mod Departures
pub mod SeenTimes
pub mod OneReport
