use Rattle.std.proofs.Common.{◌++◌, ap, sym, ◌∙◌, subst, append_assoc}
use Rattle.lrp_model.specs.Sorting.{query_standing, term_names}
use Rattle.lrp_model.specs.Sooner.{sooner}
use Rattle.lrp_sorts.specs.Scopes.{binders}
use Rattle.lrp_sorts.specs.Widths.{IsTally, IsTallied}
use Rattle.lrp_sorts.proofs.finding.comparison.Goals as goal

pub returns : goal.returns
returns c = λ db place.
    let bs = binders c.args.scope.now in
    let l = term_names c.args.left.now in
    let r = term_names c.args.right.now in
    record {
      fault = c.sooner_of.ensures ∙ ap (sooner query_standing c.args.before.fault) (c.compare_fault-inside.ensures bs c.term_sort-one.ensures c.term_sort-other.ensures);
      free = λ names k.
          subst (λ ns. IsTallied c.args.scope.now ns c.add_variable-2.new.variables) (append_assoc names l r)
          (subst (λ q. IsTally bs q ((names ++ l) ++ r) c.add_variable-2.new.variables) c.quantifiers-quantifiers.ensures
          (c.in_ok-add_variable-2.ensures bs (names ++ l) c.term_sort-other.ensures
          (c.in_ok-add_variable.ensures bs names c.term_sort-one.ensures (subst (λ q. IsTally bs q names c.args.before.free) (sym c.quantifiers-quantifiers.ensures) k))));
    }
