pub mod Outvoted
