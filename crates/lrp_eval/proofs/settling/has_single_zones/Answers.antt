-- There are as many zones as cells.
use Rattle.std.proofs.Common.{sym, ◌∙◌}
use Rattle.std.proofs.lemmas.Bool.{eqb-true}
use Rattle.lrp_store.proofs.ZoneCounts.{single_zones}
use Rattle.lrp_eval.proofs.settling.has_single_zones.Goals as goal

pub returns : goal.returns
returns c = λ e. single_zones c.args.store.now c.requires (sym c.zones.ensures ∙ eqb-true c.zones.result c.len.result e ∙ c.len.ensures)
