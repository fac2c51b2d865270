-- What is noted of a shelf.
use Rattle.std.specs.Prelude.{List}
use Rattle.lrp_io.specs.Starts.{Start, with_given, with_start}
use Rattle.lrp_io.specs.declared.history.Note.{Note}
use Rattle.lrp_io.specs.declared.history.Note.TheVariants.{Started, Given, Same}

-- the starts with what is noted
abbrev pub noted : Note → List Start → List Start
noted (Started name) starts = with_start name.now starts
noted (Given count) starts = with_given count starts
noted Same starts = starts
