use Rattle.std.proofs.Common.{◌≡◌, ◌<◌, IfSome, Some, ap, length, refl, sym, subst, ◌∙◌, arith}
use Rattle.lrp_sorts.specs.Definitions.{definition_number}
use Rattle.lrp_wide.specs.Chains.{AreVariables, IsStepTo}
use Rattle.lrp_wide.proofs.ChainBodies.{chain-step}
use Rattle.lrp_wide.proofs.NumberKnown.{got}
use Rattle.lrp_wide.proofs.Results.{if_ok_then}
use Rattle.lrp_wide.proofs.chains.chain_of.Goals as goal

pub returns : goal.returns
returns c =
    if_ok_then c.step_to.result _ _ c.step_to.ensures (λ made h plain text chains at same.
    let d = c.args.definitions.now in
    let before = c.args.before.now in
    let j = c.in-Some.number in
    let r = c.at.result.now in
    let vs = c.in-Some-2.names.items in
    let number : definition_number d (length before) c.in-Atom.relation ≡ Some j = sym c.number.ensures.number ∙ c.in-Some.is in
    let lt : j < length before = c.in-Some.ensures.before in
    let found : AreVariables c.as_slice-columns.result.now c.as_slice.result.now vs = subst (λ o. IfSome o (λ ns. AreVariables c.as_slice-columns.result.now c.as_slice.result.now ns.items)) c.in-Some-2.is c.in_ok-names.ensures in
    let vars : AreVariables r.columns c.in-Atom.terms vs = subst (λ cs. AreVariables cs c.in-Atom.terms vs) c.as_slice-columns.ensures (subst (λ ts. AreVariables c.as_slice-columns.result.now ts vs) c.as_slice.ensures found) in
    let step : IsStepTo r.columns vs j c.index-before-number.result made = subst (λ cs. IsStepTo cs vs j c.index-before-number.result made) c.as_slice-columns.ensures h in
    chain-step d plain (length before) j text c.args.body.now c.in-Atom.relation c.in-Atom.terms vs r at same c.in-Atom.is number lt c.at.ensures vars c.index-before-number.result made
    (chains j c.index-before-number.result (got before j c.index-before-number.result lt c.index-before-number.is)) step)
