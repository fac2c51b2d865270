use Rattle.std.proofs.Common.{◌≡◌, ◌++◌, codes}
use Rattle.std.specs.List.{flat_map, range_with_len}
use Rattle.std.specs.String.{string_bytes}
use Rattle.lrp_sample.specs.Texts.{trip_line}
use Rattle.lrp_sample.proofs.texts.database_text.Given as goal

abbrev pub invariant-loop-i : goal.invariant-loop-i
invariant-loop-i l = string_bytes l.text ≡ codes "relation trip(dep: time, arr: time, line: data) {\n" ++ flat_map (trip_line l.seed) (range_with_len 0 l.i)
