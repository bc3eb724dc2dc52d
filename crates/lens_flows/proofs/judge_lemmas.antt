pub mod Firsts
pub mod Judging
pub mod Comings
