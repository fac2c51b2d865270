-- Another table stands there.
use Rattle.std.proofs.Common.{List, ap, ◌∙◌, ◌-◌}
use Rattle.std.specs.Prelude.{slice_set}
use Rattle.lrp_tables.specs.declared.table.Table.{Table}
use Rattle.lrp_eval.proofs.growing.taken_out.Goals as goal

pub returns-clause-left : goal.returns-clause-left
returns-clause-left c = (c.replace-table.new.dest, c.from_vec.ensures ∙ ap (λ (ts : List Table). slice_set ts (c.args.number - 1) c.replace-table.new.dest) (c.into_vec-left.ensures ∙ c.replace.ensures.value))
