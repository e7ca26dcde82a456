pub mod Examples
pub mod ModifiedWordLaws
pub mod SoundLaws
pub mod FreshWordLaws
pub mod FreshKindLaws
pub mod FreshLaws
pub mod FreshAtLaws
