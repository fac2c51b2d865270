pub mod EditRuleLaws
pub mod EditLemmas
pub mod EditLaws
pub mod EditRows
