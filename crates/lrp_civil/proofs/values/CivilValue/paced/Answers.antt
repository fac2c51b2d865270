use Rattle.std.proofs.Common.{◌∙◌, sym}
use Rattle.lrp_civil.specs.declared.values.CivilValue.TheVariants.{Every}
use Rattle.lrp_civil.proofs.ValueLemmas.{as_civil, as_paced, match_both, no_paced}
use Rattle.lrp_civil.proofs.values.CivilValue.paced.Goals as goal

pub returns-then-takes_paces : goal.returns-then-takes_paces
returns-then-takes_paces c =
    match_both _ _ _ _ c.every.result (λ none pace date time s. none pace date time (as_civil c.args.kind c.args.bytes.now (Every pace date time) s))
    (λ value s. as_paced c.args.kind c.args.bytes.now value (sym c.takes_paces.ensures ∙ c.if-takes_paces.true) s) c.every.ensures

pub returns-else-takes_paces : goal.returns-else-takes_paces
returns-else-takes_paces c = no_paced c.args.kind c.args.bytes.now (sym c.takes_paces.ensures ∙ c.if-takes_paces.false)
