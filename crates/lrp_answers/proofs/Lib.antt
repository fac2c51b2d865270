-- The lemmas: the least answer, orders of tuples, tuples in head order, and the cells of an answer.
pub mod AnswerFirst
pub mod Orders
pub mod HeadOrder
pub mod Cells
-- The lemmas: the first tuples of zones, and what a listing keeps.
pub mod HeapLaws
pub mod Firsts
pub mod Placed
pub mod Moves
pub mod Passing
pub mod Filling
pub mod Told
pub mod Paging
pub mod TextsOrder
pub mod Few
pub mod Pauses
pub mod Given
pub mod MergeLaws
pub mod MergedPages
pub mod PartLaws
