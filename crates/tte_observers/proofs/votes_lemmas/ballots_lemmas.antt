pub mod Ballots
