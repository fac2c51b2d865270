-- What contracts of public calls say.
pub mod Flaws
pub mod Mentions
pub mod Listed
pub mod Reports
-- What functions inside say to one another.
pub mod Known
pub mod Ties
pub mod Contents
