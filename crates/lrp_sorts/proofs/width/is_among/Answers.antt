use Rattle.std.proofs.Common.{◌∙◌, bytes_eq, rules, tests, Bor}
use Rattle.std.proofs.lemmas.Iterator.{YieldsList-from_slice}
use Rattle.std.proofs.lemmas.Iterator.Search.{any_from_yields_List}
use Rattle.lrp_model.specs.Texts.{Identifier}
use Rattle.lrp_sorts.proofs.Tallies.{among_after}
use Rattle.lrp_sorts.proofs.width.is_among.Goals as goal

pub returns : goal.returns
returns c =
    any_from_yields_List (λ (n : Bor Identifier). bytes_eq c.args.name.now n.now) _ _ _ c.any.ensures.ran (YieldsList-from_slice c.args.names.now (cc)) (λ x b q k. search (rules, tests))
    ∙ among_after c.args.names.now c.args.name.now
