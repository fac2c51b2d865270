use Rattle.std.proofs.Common.{◌≡◌, ◌++◌, ap, sym, ◌∙◌, refl, subst, append_assoc, flat_map, take, length, option_map, arith}
use Rattle.std.proofs.Math.Seq.{take-length}
use Rattle.std.proofs.lemmas.List.{append-nil}
use Rattle.lrp_model.specs.Faults.{earliest}
use Rattle.lrp_model.specs.Sorting.{query_standing, term_sort, term_names, term_faults, column_faults}
use Rattle.lrp_model.specs.Sooner.{sooner}
use Rattle.lrp_sorts.specs.Scopes.{binders}
use Rattle.lrp_sorts.specs.Terms.{misfits}
use Rattle.lrp_sorts.specs.Widths.{IsTally, IsTallied}
use Rattle.lrp_sorts.proofs.ColumnFaults.{no_terms, column_further, column_at}
use Rattle.lrp_sorts.proofs.FaultLists.{one_further, one_more}
use Rattle.lrp_sorts.proofs.finding.terms_shown.Goals.{After-loop-i}
use Rattle.lrp_sorts.proofs.finding.terms_shown.Goals as goal

pub loop-i-init : goal.loop-i-init
loop-i-init c = record {
  fault = refl;
  misfit = ap (earliest query_standing) (sym (no_terms (binders c.args.scope.now) c.args.columns.now));
  free = λ names k. subst (λ ns. IsTally (binders c.args.scope.now) c.quantifiers-quantifiers.result ns c.args.before) (sym (append-nil names)) k;
}

pub loop-i-preserved : goal.loop-i-preserved
loop-i-preserved c =
    let bs = binders c.args.scope.now in
    let kept = c.loop-i.invariant in
    let t = c.index-terms-i.result in
    let seen = c.term_sort-sorted.ensures in
    record {
      fault =
          c.sooner_of-fault.ensures ∙ ap (λ f. sooner query_standing f c.fault.result) kept.fault ∙ ap (sooner query_standing _) (c.fault.ensures ∙ ap (earliest query_standing) seen.faults)
          ∙ one_more query_standing (term_faults bs) c.args.terms.now c.loop-i.i t c.loop-i-test.true c.index-terms-i.is;
      misfit =
          c.sooner_of-misfit.ensures ∙ ap (λ f. sooner query_standing f c.misfit.result) kept.misfit
          ∙ ap (sooner query_standing _) (c.misfit.ensures ∙ ap (λ s. earliest query_standing (misfits s t.place (option_map (λ x. x.now) c.get.result))) seen.sort ∙ ap (λ k. earliest query_standing (misfits (term_sort bs t) t.place k)) (column_at c.args.columns.now c.loop-i.i c.get.result c.get.ensures.lookup.1 c.get.ensures.lookup.3))
          ∙ column_further bs c.args.terms.now c.args.columns.now c.loop-i.i t c.loop-i-test.true c.index-terms-i.is;
      free =
          λ names k.
          subst (λ ns. IsTally bs c.quantifiers-quantifiers.result ns c.add_variable.new.variables)
          (append_assoc names (flat_map term_names (take c.loop-i.i c.args.terms.now)) (term_names t) ∙ ap (λ l. names ++ l) (one_further term_names c.args.terms.now c.loop-i.i t c.loop-i-test.true c.index-terms-i.is))
          (c.in_ok-add_variable.ensures bs _ seen (kept.free names k));
    }

-- all terms
all_terms : (c : After-loop-i) → take c.loop-i.i c.args.terms.now ≡ c.args.terms.now
all_terms c =
    let last : c.loop-i.i ≡ length c.args.terms.now = omega (arith, c.loop-i-test.false, c.loop-i.auto.i-end) in
    ap (λ i. take i c.args.terms.now) last ∙ take-length c.args.terms.now

pub returns-clause-fault : goal.returns-clause-fault
returns-clause-fault c =
    c.loop-i.invariant.fault ∙ ap (λ ts. earliest query_standing (flat_map (term_faults (binders c.args.scope.now)) ts)) (all_terms c)

pub returns-clause-misfit : goal.returns-clause-misfit
returns-clause-misfit c =
    c.loop-i.invariant.misfit ∙ ap (λ ts. earliest query_standing (column_faults (binders c.args.scope.now) ts c.args.columns.now)) (all_terms c)

pub returns-clause-free : goal.returns-clause-free
returns-clause-free c = λ names k.
    let bs = binders c.args.scope.now in
    subst (λ ts. IsTallied c.args.scope.now (names ++ flat_map term_names ts) c.loop-i.free) (all_terms c)
    (subst (λ q. IsTally bs q (names ++ flat_map term_names (take c.loop-i.i c.args.terms.now)) c.loop-i.free) c.quantifiers-quantifiers.ensures
    (c.loop-i.invariant.free names (subst (λ q. IsTally bs q names c.args.before) (sym c.quantifiers-quantifiers.ensures) k)))
