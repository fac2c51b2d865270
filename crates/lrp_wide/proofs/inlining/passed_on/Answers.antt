use Rattle.std.proofs.Common.{◌≤◌, ◌++◌, ◌∷◌, [], ap, refl, sym, subst, ◌∙◌, arith, append-nil}
use Rattle.lrp_model.specs.declared.relations.Column.{Column}
use Rattle.lrp_wide.specs.Chains.{as_themselves}
use Rattle.lrp_wide.specs.Settings.{passed_of, setting_of}
use Rattle.lrp_wide.proofs.ChainBodies.{passed-end, passed-more}
use Rattle.lrp_wide.proofs.InlineTerms.{dropped}
use Rattle.lrp_wide.proofs.inlining.passed_on.Goals as goal

pub loop-i-init : goal.loop-i-init
loop-i-init c = λ more h. subst (λ l. passed_of (as_themselves (setting_of c.args.setting.now).name c.args.columns.now c.args.variables.now) (l ++ more)) (sym c.in_ok-all.ensures.items) h

pub loop-i-preserved : goal.loop-i-preserved
loop-i-preserved c =
    let f = (setting_of c.args.setting.now).name in
    let cs = c.args.columns.now in
    let vs = c.args.variables.now in
    let i = c.loop-i.i in
    let dc = dropped cs i c.index-columns-i.result (omega (arith, c.loop-i-test.true, c.min-i-end.ensures)) c.index-columns-i.is in
    let dv = dropped vs i c.index-variables-i.result (omega (arith, c.loop-i-test.true, c.min-i-end.ensures)) c.index-variables-i.is in
    passed-more f cs vs i c.index-columns-i.result c.index-variables-i.result c.loop-i.all.items c.push.new.self.items _ dc dv c.in_ok-push.ensures.items (ap (λ (x : Column). x.name) (sym c.index-columns-i.is)) c.in_ok-name.ensures c.loop-i.invariant

pub returns : goal.returns
returns c =
    let f = (setting_of c.args.setting.now).name in
    passed-end f c.args.columns.now c.args.variables.now c.loop-i.i c.loop-i.all.items (subst (λ n. n ≤ c.loop-i.i) c.min-i-end.ensures c.loop-i-test.false) c.loop-i.invariant
