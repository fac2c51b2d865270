use Rattle.std.proofs.Common.{◌≡◌, ◌+◌, ◌-◌, suc, ap, sym, ◌∙◌, arith}
use Rattle.lrp_query.specs.Lawful.{formulas_in}
use Rattle.lrp_wide.specs.Limits.{depth_of}
use Rattle.lrp_wide.specs.Sizes.{compared_total}
use Rattle.lrp_wide.proofs.MeasureForms.{compared_use_depth, compared_use_formulas, inside, plain_use_depth, plain_use_formulas}
use Rattle.lrp_wide.proofs.MeasureNumbers.{sized}
use Rattle.lrp_wide.proofs.measures.use_size.Goals as goal

pub returns-then-terms-eq0 : goal.returns-then-terms-eq0
returns-then-terms-eq0 c = λ d ts a known s p k.
    let f = d.form (inside s p k d ts) in
    let none : compared_total d.columns ts ≡ 0 = sym a.compared ∙ c.if-terms-eq0.true in
    sized c.under.result _ _ _ _ (ap (λ m. formulas_in f + m) a.stars ∙ sym (plain_use_formulas s p k d ts none)) (ap (λ m. depth_of f + m) a.stars ∙ sym (plain_use_depth s p k d ts none))
    (c.under.ensures _ _ (known (inside s p k d ts)))

pub returns : goal.returns
returns c = λ d ts a known s p k.
    let n = c.args.terms.compared in
    let some : compared_total d.columns ts ≡ suc (n - 1) = omega (arith, a.compared, c.if-terms-eq0.false) in
    let formulas = compared_use_formulas s p k d ts (n - 1) some in
    let depth = compared_use_depth s p k d ts (n - 1) some in
    sized c.under-3.result _ _ _ _ (omega (arith, formulas, a.stars, c.if-terms-eq0.false)) (omega (arith, depth, a.stars, c.if-terms-eq0.false))
    (c.under-3.ensures _ _ (c.under-2.ensures _ _ (c.under-joined.ensures _ _ (c.with_leaves.ensures _ _ (known (inside s p k d ts))))))
