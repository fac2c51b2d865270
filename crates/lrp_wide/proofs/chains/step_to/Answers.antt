use Rattle.std.proofs.Common.{◌≡◌, IfSome, Some, ap, sym, subst}
use Rattle.lrp_wide.specs.Chains.{IsContinued, IsStepTo}
use Rattle.lrp_wide.specs.declared.chains.Chain.{Chain}
use Rattle.lrp_wide.proofs.ChainBodies.{step-further}
use Rattle.lrp_wide.proofs.Results.{if_ok_then}
use Rattle.lrp_wide.proofs.chains.step_to.Goals as goal

pub returns-in-Some : goal.returns-in-Some
returns-in-Some c =
    let cs = c.args.columns.now in
    let named : c.as_slice.result.now ≡ c.args.names.items = c.as_slice.ensures.value in
    let there : c.deref.result.now ≡ c.in-Some.further.value = c.deref.ensures in
    if_ok_then c.continued.result _ _ c.continued.ensures (λ made h.
    subst (λ o. IsStepTo cs c.args.names.items c.args.number o made) (sym c.in-Some.is)
    (step-further cs c.args.names.items c.args.number c.in-Some.further made (subst (λ x. IfSome made (λ l. IsContinued cs c.args.names.items x l.value)) there (subst (λ vs. IfSome made (λ l. IsContinued cs vs c.deref.result.now l.value)) named h))))

pub returns-in_ok-made-in-None : goal.returns-in_ok-made-in-None
returns-in_ok-made-in-None c =
    let one : Chain = record { end = c.args.number; steps = 1; names = c.args.names } in
    let made : c.in_ok-made-in-None.made.value ≡ one = c.in_ok-made-in-None.ensures.ok in
    subst (λ o. IsStepTo c.args.columns.now c.args.names.items c.args.number o (Some c.in_ok-made-in-None.made)) (sym c.in-None.is)
    (record { end = ap (λ (x : Chain). x.end) made; steps = ap (λ (x : Chain). x.steps) made; names = ap (λ (x : Chain). x.names.items) made })
