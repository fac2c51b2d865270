pub mod SeenLemmas
pub mod StoredLemmas
pub mod OnceLaws
