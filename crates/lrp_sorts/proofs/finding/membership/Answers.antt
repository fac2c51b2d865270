use Rattle.std.proofs.Common.{◌++◌, ap, sym, ◌∙◌, subst}
use Rattle.lrp_model.specs.Sorting.{query_standing, term_names}
use Rattle.lrp_model.specs.Sooner.{sooner}
use Rattle.lrp_sorts.specs.Scopes.{binders}
use Rattle.lrp_sorts.specs.Widths.{IsTally}
use Rattle.lrp_sorts.proofs.finding.membership.Goals as goal

pub returns : goal.returns
returns c = λ db place point.
    let bs = binders c.args.scope.now in
    record {
      fault = c.sooner_of.ensures ∙ ap (sooner query_standing c.args.before.fault) (c.member_fault.ensures bs c.term_sort-sorted.ensures);
      free = λ names k.
          subst (λ q. IsTally bs q (names ++ term_names c.args.term.now) c.add_variable.new.variables) c.quantifiers.ensures
          (c.in_ok-add_variable.ensures bs names c.term_sort-sorted.ensures (subst (λ q. IsTally bs q names c.args.before.free) (sym c.quantifiers.ensures) k));
    }
