pub mod Counts
pub mod DateLemmas
pub mod MomentLemmas
pub mod PartLemmas
pub mod PrintLemmas
pub mod ReadLemmas
pub mod Numbers
pub mod MinuteLemmas
