pub mod LinksLaws
pub mod EntriesLaws
pub mod FieldsLaws
pub mod CompleteLaws
pub mod WholeLaws
