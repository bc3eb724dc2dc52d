pub mod judge_lemmas
pub mod counts_lemmas
pub mod Summing
pub mod AllTold
