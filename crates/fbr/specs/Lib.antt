pub mod Fronts
pub mod FrontLaws
pub mod Named
pub mod Totals
pub mod Occupancy
pub mod Comparison
