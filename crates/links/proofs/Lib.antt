pub mod Sll
pub mod Ends
pub mod Chains
