-- Lemmas on words and their entries.
pub mod EntryLemmas
pub mod MinuteLemmas
pub mod NumberLemmas
pub mod NameLemmas
