pub mod Words
pub mod Links
pub mod WordLaws
pub mod LinkLaws
