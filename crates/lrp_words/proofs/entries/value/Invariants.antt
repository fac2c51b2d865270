-- No word so far gives the key a value.
use Rattle.std.proofs.Common.{◌≡◌, None, map, take}
use Rattle.std.specs.Prelude.{string_bytes}
use Rattle.lrp_words.specs.Entries.{value_for}
use Rattle.lrp_words.proofs.entries.value.Given as goal

abbrev pub invariant-loop-word : goal.invariant-loop-word
invariant-loop-word l = value_for l.key (map string_bytes (take l.word-index l.words)) ≡ None
