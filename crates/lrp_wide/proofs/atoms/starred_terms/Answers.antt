use Rattle.std.proofs.Common.{◌≡◌, ◌+◌, suc, ◌++◌, ◌∷◌, [], ap, sym, ◌∙◌, arith}
use Rattle.lrp_model.specs.declared.relations.Column.{Column}
use Rattle.lrp_tense.specs.Expanding.{name_term}
use Rattle.lrp_wide.specs.Inlining.{column_added, set_term, star_columns, star_terms}
use Rattle.lrp_wide.specs.Meaning.{is_star}
use Rattle.lrp_wide.specs.Settings.{setting_of}
use Rattle.lrp_wide.proofs.InlineTerms.{dropped, starred-as, starred-after, starred-below, starred-binders, starred-star, starred-terms}
use Rattle.lrp_wide.proofs.atoms.starred_terms.Goals as goal
use Rattle.lrp_wide.proofs.atoms.starred_terms.Goals.{then-i-columns+then-is_star+in_ok-name+in_ok-next+in_ok-copy+in_ok-added+in_ok-push+in_ok-push-2, else-i-columns+in_ok-term+in_ok-push-3, else-i-columns-via-then-i-columns+else-is_star, else-i-columns-via-else-i-columns}

pub loop-i-init : goal.loop-i-init
loop-i-init c = record {
  terms = ap (λ l. l ++ star_terms (setting_of c.args.setting.now) c.args.met.place c.args.met.number c.args.columns.now c.args.met.terms.now) (c.from_vec-all.ensures ∙ c.in_ok-with_capacity.ensures.items);
  binders = ap (λ l. l ++ star_columns c.args.met.place c.args.met.number c.args.columns.now c.args.met.terms.now) c.new-binders.ensures.items;
}

pub loop-i-preserved : goal.loop-i-preserved
loop-i-preserved c =
    let s = setting_of c.args.setting.now in
    let p = c.args.met.place in
    let k = c.args.met.number in
    let cs = c.args.columns.now in
    let ts = c.args.met.terms.now in
    let i = c.loop-i.i in
    let t = c.index-met-i.result in
    let here = dropped ts i t c.loop-i-test.true c.index-met-i.is in
    elim c.if-i-columns.branch [
      | then-i-columns+then-is_star+in_ok-name+in_ok-next+in_ok-copy+in_ok-added+in_ok-push+in_ok-push-2 w ↦
          let col = w.index-columns-i.result in
          let columns = dropped cs i col w.if-i-columns.true w.index-columns-i.is in
          let star = ap is_star c.index-met-i.is ∙ sym w.is_star.ensures ∙ w.if-is_star.true in
          let next : w.in_ok-next.next ≡ c.loop-i.next + 1 = w.in_ok-next.ensures.sum in
          starred-as s p k cs ts (i + 1) (suc c.loop-i.next) _ _ _ _ _ (omega (arith, next, w.next-is))
          (w.all-is ∙ w.in_ok-push-2.ensures.ok ∙ ap (λ x. c.loop-i.all ++ x ∷ []) (w.variable.ensures ∙ ap (name_term p) w.in_ok-name.ensures))
          (ap (λ v. v.items) w.binders-is ∙ w.in_ok-push.ensures.items ∙ ap (λ x. c.loop-i.binders.items ++ x ∷ []) (w.in_ok-added.ensures ∙ ap (λ (x : Column). column_added p w.in_ok-copy.field-0 x.sort) (sym w.index-columns-i.is) ∙ ap (λ n. column_added p n col.sort) (w.in_ok-copy.ensures ∙ w.in_ok-name.ensures)))
          (starred-star s p k cs ts i c.loop-i.next c.loop-i.all c.loop-i.binders.items col t columns here star c.loop-i.invariant)
      | else-i-columns+in_ok-term+in_ok-push-3 w ↦
          let made = starred-as s p k cs ts (i + 1) c.loop-i.next _ (c.loop-i.all ++ set_term s t ∷ []) _ c.loop-i.binders.items _ w.next-is
          (w.all-is ∙ w.in_ok-push-3.ensures.ok ∙ ap (λ x. c.loop-i.all ++ x ∷ []) (w.in_ok-term.ensures ∙ ap (set_term s) (sym c.index-met-i.is))) (ap (λ v. v.items) w.binders-is) in
          elim w.else-i-columns.branch [
            | else-i-columns-via-then-i-columns+else-is_star v ↦ made (starred-below s p k cs ts i c.loop-i.next c.loop-i.all c.loop-i.binders.items t v.if-i-columns.true here (ap is_star c.index-met-i.is ∙ sym v.is_star.ensures ∙ v.if-is_star.false) c.loop-i.invariant)
            | else-i-columns-via-else-i-columns v ↦ made (starred-after s p k cs ts i c.loop-i.next c.loop-i.all c.loop-i.binders.items t v.if-i-columns.false here c.loop-i.invariant)
          ]
    ]

pub returns-clause-terms : goal.returns-clause-terms
returns-clause-terms c = starred-terms (setting_of c.args.setting.now) c.args.met.place c.args.met.number c.args.columns.now c.args.met.terms.now c.loop-i.i c.loop-i.next c.loop-i.all c.loop-i.binders.items c.loop-i-test.false c.loop-i.invariant

pub returns-clause-binders : goal.returns-clause-binders
returns-clause-binders c = starred-binders (setting_of c.args.setting.now) c.args.met.place c.args.met.number c.args.columns.now c.args.met.terms.now c.loop-i.i c.loop-i.next c.loop-i.all c.loop-i.binders.items c.loop-i-test.false c.loop-i.invariant
