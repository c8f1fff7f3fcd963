pub mod Answers
pub mod Circuits
pub mod Matchings
pub mod Growths
pub mod Levels
pub mod Tables
pub mod TableLaws
pub mod MatchingLaws
