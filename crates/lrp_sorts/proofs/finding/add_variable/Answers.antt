use Rattle.std.proofs.Common.{◌≡◌, ◌++◌, None, Some, option_map, ap, sym, ◌∙◌, subst}
use Rattle.lrp_model.specs.Sorting.{binder_sort}
use Rattle.lrp_sorts.specs.Widths.{IsTally, added}
use Rattle.lrp_sorts.proofs.RawNodes.{then_ok}
use Rattle.lrp_sorts.proofs.SeenTerms.{name_bound}
use Rattle.lrp_sorts.proofs.Tallies.{counts_nowhere}
use Rattle.lrp_sorts.proofs.finding.add_variable.Goals as goal

pub returns : goal.returns
returns c =
    let name = c.in-Some.name.now in
    let own = ap added (sym c.in-Some.is) ∙ c.term_name.ensures in
    then_ok c.add.result _ _ c.add.ensures (λ added_is bs names seen k.
    let bound : binder_sort bs name ≡ Some c.in-Some-bound.sort.now = sym (name_bound bs c.args.term.now name own) ∙ sym seen.bound ∙ sym c.bound.ensures ∙ ap (option_map (λ s. s.now)) c.in-Some-bound.is in
    subst (λ ns. IsTally bs c.args.quantifiers (names ++ ns) c.add.new.self) own (added_is bs names bound k))

pub returns-in_default-bound : goal.returns-in_default-bound
returns-in_default-bound c = λ bs names seen k.
    let name = c.in-Some.name.now in
    let own = ap added (sym c.in-Some.is) ∙ c.term_name.ensures in
    let free : binder_sort bs name ≡ None = sym (name_bound bs c.args.term.now name own) ∙ sym seen.bound ∙ sym c.bound.ensures ∙ ap (option_map (λ s. s.now)) c.in_default-bound.is in
    subst (λ ns. IsTally bs c.args.quantifiers (names ++ ns) c.args.variables.now) own (counts_nowhere bs c.args.quantifiers names c.args.variables.now name k free)
