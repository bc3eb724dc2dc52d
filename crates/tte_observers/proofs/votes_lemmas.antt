pub mod tmr_lemmas
pub mod law_lemmas
pub mod ballots_lemmas
pub mod VoteLines
pub mod Safely
pub mod Words
