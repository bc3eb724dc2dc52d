pub mod Ballots
pub mod Voting
pub mod Outvoting
