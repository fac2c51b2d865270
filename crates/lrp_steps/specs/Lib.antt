-- What the steps on one table do, and what patterns of rows stand for.
-- What contracts of public calls say.
pub mod Conditions
pub mod Patterns
pub mod Rows
pub mod Tables
pub mod Gathered
-- What functions inside say to one another.
pub mod Columns
pub mod Comparisons
pub mod Fillings
pub mod Tuples
