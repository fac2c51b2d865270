-- What is proved of rows, queries and what is found.
mod Tied
mod Points
mod Holding
mod Walked
mod Found
mod Lines
mod Rooms
mod Emptied
mod Bounded
mod Ordered
mod Unique
mod Readable
mod TextSets
mod Mentioned
