use Rattle.std.proofs.Common.{ap, bytes_eq, sym, ◌∙◌, arith}
use Rattle.lrp_model.specs.declared.relations.Column.{Column}
use Rattle.lrp_wide.proofs.ChainBodies.{variable-first, variable-next}
use Rattle.lrp_wide.proofs.InlineScenes.{get_of}
use Rattle.lrp_wide.proofs.InlineTerms.{dropped}
use Rattle.lrp_wide.proofs.NumberKnown.{at_below}
use Rattle.lrp_wide.proofs.chains.variable_of.Goals as goal

pub returns-then-eq : goal.returns-then-eq
returns-then-eq c = λ name k.
    let cs = c.args.columns.now in
    let vs = c.args.variables.now in
    let i = c.loop-i.i in
    let dc = dropped cs i c.index-columns-i.result (omega (arith, c.loop-i-test.true, c.min-i-end.ensures)) c.index-columns-i.is in
    let dv = dropped vs i c.index-variables-i.result (omega (arith, c.loop-i-test.true, c.min-i-end.ensures)) c.index-variables-i.is in
    c.loop-i.invariant name k ∙ variable-first name cs vs i c.index-columns-i.result c.index-variables-i.result k c.args.name.now dc dv (ap (λ (x : Column). bytes_eq x.name c.args.name.now) c.index-columns-i.is ∙ sym c.eq.ensures ∙ c.if-eq.true)

pub loop-i-preserved : goal.loop-i-preserved
loop-i-preserved c = λ name k.
    let cs = c.args.columns.now in
    let vs = c.args.variables.now in
    let i = c.loop-i.i in
    let v = at_below vs i (omega (arith, c.loop-i-test.true, c.min-i-end.ensures)) in
    let dc = dropped cs i c.index-columns-i.result (omega (arith, c.loop-i-test.true, c.min-i-end.ensures)) c.index-columns-i.is in
    let dv = dropped vs i v.entry (omega (arith, c.loop-i-test.true, c.min-i-end.ensures)) (get_of vs i v.entry v.is) in
    c.loop-i.invariant name k ∙ variable-next name cs vs i c.index-columns-i.result v.entry k c.args.name.now dc dv (ap (λ (x : Column). bytes_eq x.name c.args.name.now) c.index-columns-i.is ∙ sym c.eq.ensures ∙ c.if-eq.false)
