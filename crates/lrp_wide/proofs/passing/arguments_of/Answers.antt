use Rattle.std.proofs.Common.{◌+◌, ◌≤◌, ap, sym, subst, ◌∙◌, arith}
use Rattle.lrp_model.specs.declared.raw.RawTerm.{RawTerm}
use Rattle.lrp_wide.specs.Inlining.{column_added, set_term, plain_variable}
use Rattle.lrp_wide.specs.Inside.{IsItself}
use Rattle.lrp_wide.specs.Meaning.{is_star}
use Rattle.lrp_wide.specs.Settings.{setting_of}
use Rattle.lrp_wide.proofs.InlineArguments.{ArePassed, arguments_are, passed-begun, passed-compared, passed-itself, passed-star}
use Rattle.lrp_wide.proofs.InlineNames.{not_variable}
use Rattle.lrp_wide.proofs.InlineTerms.{dropped}
use Rattle.lrp_wide.proofs.passing.arguments_of.Goals as goal
use Rattle.lrp_wide.proofs.passing.arguments_of.Goals.{then-is_star+in_ok-star, else-is_star+in-Var+in_ok-name+in_ok-itself, else-is_star+in_default+in_ok-name-2+in_ok-binder+in_ok-term+in_ok-compare}

pub loop-i-init : goal.loop-i-init
loop-i-init c =
    let e = c.new-given.ensures in
    passed-begun (setting_of c.args.setting.now) c.args.met.place c.args.met.number c.args.columns.now c.args.met.terms.now c.new-given.result (e.next ∙ c.in_ok-plus.ensures.sum) e.stars e.columns e.comparisons e.passed

pub loop-i-preserved : goal.loop-i-preserved
loop-i-preserved c =
    let s = setting_of c.args.setting.now in
    let p = c.args.met.place in
    let k = c.args.met.number in
    let cs = c.args.columns.now in
    let ts = c.args.met.terms.now in
    let i = c.loop-i.i in
    let col = c.index-columns-i.result in
    let t = c.index-met-i.result in
    let dc = dropped cs i col (omega (arith, c.loop-i-test.true, c.min-i-end.ensures)) c.index-columns-i.is in
    let dt = dropped ts i t (omega (arith, c.loop-i-test.true, c.min-i-end.ensures)) c.index-met-i.is in
    let star = ap is_star c.index-met-i.is ∙ sym c.is_star.ensures in
    elim c.if-is_star.branch [
      | then-is_star+in_ok-star w ↦ subst (ArePassed s p k cs ts (i + 1)) (sym w.given-is) (passed-star s p k cs ts i col t dc dt c.loop-i.given w.star.new.self (star ∙ w.if-is_star.true) w.in_ok-star.ensures c.loop-i.invariant)
      | else-is_star+in-Var+in_ok-name+in_ok-itself w ↦
          let kind = ap (λ (x : RawTerm). plain_variable x.kind) c.index-met-i.is ∙ ap plain_variable w.in-Var.is in
          let more : IsItself c.loop-i.given col (s.name w.in-Var.name) w.itself.new.self = subst (λ n. IsItself c.loop-i.given col n w.itself.new.self) w.in_ok-name.ensures w.in_ok-itself.ensures in
          subst (ArePassed s p k cs ts (i + 1)) (sym w.given-is) (passed-itself s p k cs ts i col t dc dt c.loop-i.given w.itself.new.self w.in-Var.name (star ∙ w.if-is_star.false) kind more c.loop-i.invariant)
      | else-is_star+in_default+in_ok-name-2+in_ok-binder+in_ok-term+in_ok-compare w ↦
          let kind = ap (λ (x : RawTerm). plain_variable x.kind) c.index-met-i.is ∙ not_variable _ w.in_default.not-Var in
          let binder = w.in_ok-binder.ensures ∙ ap (λ n. column_added p n col.sort) w.in_ok-name-2.ensures in
          let term = w.in_ok-term.ensures ∙ ap (set_term s) (sym c.index-met-i.is) in
          subst (ArePassed s p k cs ts (i + 1)) (sym w.given-is) (passed-compared s p k cs ts i col t dc dt c.loop-i.given w.compare.new.self w.in_ok-binder.binder w.in_ok-term.term (star ∙ w.if-is_star.false) kind binder term w.in_ok-compare.ensures c.loop-i.invariant)
    ]

pub returns : goal.returns
returns c =
    arguments_are (setting_of c.args.setting.now) c.args.met c.args.columns.now c.loop-i.i c.loop-i.given (subst (λ n. n ≤ c.loop-i.i) c.min-i-end.ensures c.loop-i-test.false) c.loop-i.invariant
