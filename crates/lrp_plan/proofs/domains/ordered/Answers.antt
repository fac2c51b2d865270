use Rattle.std.proofs.Common.{◌∙◌, rules}
use Rattle.std.specs.Prelude.{IsPermutation}
use Rattle.lrp_model.proofs.Ascending.{sorted_once}
use Rattle.lrp_plan.proofs.domains.ordered.Goals as goal

pub returns : goal.returns
returns c =
    let moved : IsPermutation c.args.texts.now c.sort.new.self.items = search rules in
    c.from_vec.ensures ∙ sorted_once c.args.texts.now c.sort.new.self.items c.dedup.new.self.items moved c.in_ok-sort.ensures.sorted c.dedup.ensures.filtered
