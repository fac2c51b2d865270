-- Lemmas on least answers, on what is kept while edits are made, and on constants.
mod NoAnswers
mod Known
mod Constants
mod Openings
mod Goings
mod Passings
mod Tellings
mod Headings
mod Replacing
mod Decisions
mod KnownTexts
mod Renewals
mod TellingAnew
mod SameSteps
mod KeptParts
mod ChangedRows
