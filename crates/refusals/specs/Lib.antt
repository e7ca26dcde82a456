pub mod Refusals
pub mod RefusalLaws
