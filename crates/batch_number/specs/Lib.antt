pub mod Tallies
pub mod TallyLaws
pub mod Kinds
