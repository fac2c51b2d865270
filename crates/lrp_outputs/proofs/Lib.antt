-- Lemmas on lines and pages, on spots, and on the room that answers have.
mod LineLemmas
mod PageLemmas
mod RangeTexts
mod RoomLemmas
pub mod SmallAnswers
pub mod Spots
pub mod PartLeasts
