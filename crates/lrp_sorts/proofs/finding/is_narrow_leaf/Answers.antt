use Rattle.std.proofs.Common.{◌≤◌, subst, sym, length, arith}
use Rattle.std.proofs.lemmas.Bool.Decides.{nat_tests}
use Rattle.lrp_model.specs.RawQueries.{raw_kind}
use Rattle.lrp_model.specs.Sorting.{free_names}
use Rattle.lrp_sorts.specs.Leaves.{IsLeaf}
use Rattle.lrp_sorts.proofs.Leaves.{few_names}
use Rattle.lrp_sorts.proofs.finding.is_narrow_leaf.Goals as goal

pub returns-in-Atom : goal.returns-in-Atom
returns-in-Atom c = λ h.
    let size : c.len.result ≤ 8 = grind (arith, nat_tests, h) in
    record {
      leaf = subst IsLeaf (sym c.in-Atom.is) _;
      few = subst (λ k. length (free_names (raw_kind k c.args.f.now.place)) ≤ 8) (sym c.in-Atom.is) (omega (arith, few_names c.in-Atom.terms, size, c.len.ensures));
    }
