-- What a table has not, or not with another one, cell by cell. All of it is what functions inside say to one another.
pub mod Absences
pub mod Beneath
pub mod Counts
pub mod Cutters
pub mod Filling
pub mod Taking
