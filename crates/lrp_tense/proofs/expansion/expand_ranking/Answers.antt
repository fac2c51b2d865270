use Rattle.std.proofs.Common.{◌∙◌, ap, subst}
use Rattle.std.specs.Prelude.{IsPermutation}
use Rattle.std.proofs.lemmas.List.Sorted.{IsNonDecreasingBy-from_sort}
use Rattle.lrp_model.specs.RawQueries.{raw_form_of}
use Rattle.lrp_tense.specs.Scopes.{expanded_in}
use Rattle.lrp_tense.proofs.Along.{ranked_is}
use Rattle.lrp_tense.proofs.Steps.{if_ok_then}
use Rattle.lrp_tense.proofs.expansion.expand_ranking.Goals as goal

pub ranking-scope-requires : goal.ranking-scope-requires
ranking-scope-requires c = IsNonDecreasingBy-from_sort (λ x. x) c.sort_unstable.new.self.items c.sort_unstable.ensures.sorted

pub returns : goal.returns
returns c =
    let f = raw_form_of c.args.f.now in
    if_ok_then c.expand_formula.result _ _ c.expand_formula.ensures.tree (λ made h.
    h ∙ ap (λ a. expanded_in a f) c.ranking-scope.ensures
    ∙ ranked_is f c.sort_unstable.new.self.items (record {
      same = subst (λ l. IsPermutation l c.sort_unstable.new.self.items) c.requires.same c.sort_unstable.ensures.permutation;
      order = IsNonDecreasingBy-from_sort (λ x. x) c.sort_unstable.new.self.items c.sort_unstable.ensures.sorted;
      small = c.requires.small;
      few = c.requires.few;
    }))
