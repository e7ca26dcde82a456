pub mod Opt
pub mod Ins
pub mod Bare
pub mod Schemes
pub mod Optimal
