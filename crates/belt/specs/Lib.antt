pub mod Belt
pub mod BeltLaws
pub mod Cycles
pub mod CycleLaws
