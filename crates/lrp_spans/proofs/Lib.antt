-- What is proved of spans, by topic.
pub mod CutLaws
pub mod CutSteps
pub mod DifferenceLaws
pub mod EndLaws
pub mod EndSteps
pub mod GroupLaws
pub mod Lists
pub mod MergeLaws
pub mod OpenLaws
pub mod Repeats
pub mod ShiftLaws
pub mod Shifts
pub mod SpanLaws
pub mod SpanOrder
pub mod TurnLaws
pub mod Turning
