use Rattle.std.proofs.Common.{◌∙◌, ap, ◌++◌, codes}
use Rattle.lrp_sample.specs.Texts.{trip_line}
use Rattle.lrp_sample.proofs.Lines.{one_more}
use Rattle.lrp_sample.proofs.texts.database_text.Goals as goal

pub loop-i-preserved : goal.loop-i-preserved
loop-i-preserved c = c.in_ok-write_trip.ensures ∙ ap (λ l. l ++ trip_line c.args.seed c.loop-i.i) c.loop-i.invariant ∙ one_more (trip_line c.args.seed) (codes "relation trip(dep: time, arr: time, line: data) {\n") c.loop-i.i
