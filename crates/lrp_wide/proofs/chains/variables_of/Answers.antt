use Rattle.std.proofs.Common.{◌+◌, ◌++◌, [], ◌∷◌, ◌≤◌, ap, sym, subst, ◌∙◌, arith}
use Rattle.lrp_model.specs.declared.raw.RawTerm.{RawTerm}
use Rattle.lrp_wide.specs.Inlining.{plain_variable}
use Rattle.lrp_wide.specs.Meaning.{is_star}
use Rattle.lrp_wide.proofs.ChainTerms.{AreVariablesTo, variables-all, variables-more, variables-none}
use Rattle.lrp_wide.proofs.InlineScenes.{get_of}
use Rattle.lrp_wide.proofs.InlineTerms.{dropped}
use Rattle.lrp_wide.proofs.NumberKnown.{at_below}
use Rattle.lrp_wide.proofs.chains.variables_of.Goals as goal

pub loop-i-init : goal.loop-i-init
loop-i-init c = subst (AreVariablesTo c.args.columns.now c.args.terms.now 0) (sym c.new-names.ensures.items) (variables-none c.args.columns.now c.args.terms.now)

pub loop-i-preserved : goal.loop-i-preserved
loop-i-preserved c =
    let cs = c.args.columns.now in
    let ts = c.args.terms.now in
    let i = c.loop-i.i in
    let t = c.index-terms-i.result in
    let col = at_below cs i (omega (arith, c.loop-i-test.true, c.min-i-end.ensures)) in
    let dc = dropped cs i col.entry (omega (arith, c.loop-i-test.true, c.min-i-end.ensures)) (get_of cs i col.entry col.is) in
    let dt = dropped ts i t (omega (arith, c.loop-i-test.true, c.min-i-end.ensures)) c.index-terms-i.is in
    let star = sym c.is_star.ensures ∙ c.if-is_star.false in
    let kind = ap plain_variable c.in-Var.is in
    subst (AreVariablesTo cs ts (i + 1)) (sym (c.in_ok-push.ensures.items ∙ ap (λ n. c.loop-i.names.items ++ n ∷ []) c.in_ok-copy.ensures))
    (variables-more cs ts i c.loop-i.names.items col.entry t c.in-Var.name dc dt star kind c.loop-i.invariant)

pub returns : goal.returns
returns c = variables-all c.args.columns.now c.args.terms.now c.loop-i.i c.loop-i.names.items (subst (λ n. n ≤ c.loop-i.i) c.min-i-end.ensures c.loop-i-test.false) c.loop-i.invariant
