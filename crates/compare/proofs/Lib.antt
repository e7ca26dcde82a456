pub mod Examples
pub mod CompareLaws
pub mod Laws
pub mod NumberLaws
