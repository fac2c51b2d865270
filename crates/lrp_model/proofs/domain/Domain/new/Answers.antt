use Rattle.std.proofs.Common.{rules, ◌∙◌, sym, subst}
use Rattle.std.specs.Prelude.{IsPermutation}
use Rattle.std.specs.List.{AllByRecursion}
use Rattle.lrp_model.specs.Texts.{Ascends}
use Rattle.lrp_model.specs.DataTexts.{IsDataText}
use Rattle.lrp_model.proofs.DomainLaws.{in_order_ascends}
use Rattle.lrp_model.proofs.Ascending.{sorted_once}
use Rattle.lrp_model.proofs.domain.Domain.new.Goals as goal

pub returns : goal.returns
returns c =
    let moved : IsPermutation c.args.texts c.sort.new.self.items = search rules in
    c.from_vec.ensures ∙ sorted_once c.args.texts c.sort.new.self.items c.drop_doubles.new.texts.items moved c.in_ok-sort.ensures.sorted c.drop_doubles.ensures.kept

pub invariant_of-result : goal.invariant_of-result
invariant_of-result c = record { whole = subst (AllByRecursion IsDataText) (c.deref.ensures.value ∙ sym c.from_vec.ensures) c.are_whole.ensures; ascends = subst Ascends (sym (returns c)) (in_order_ascends c.args.texts); few = search rules }
