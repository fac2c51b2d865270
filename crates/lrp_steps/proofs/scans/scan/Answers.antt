-- The table of the rows has the same assignments in less memory.
use Rattle.std.proofs.Common.{◌≡◌, ◌∙◌, ℕ, List, Ok, refl, ap, subst, sym, rules, SFits, to_z, of_z}
use Rattle.std.specs.Int.{w64}
use Rattle.std.specs.Prelude.{nat_abs}
use Rattle.std.proofs.lemmas.Int.{to_z-of_z}
use Rattle.lrp_model.specs.Satisfaction.{Assignment}
use Rattle.lrp_model.specs.Texts.{Text, Identifier}
use Rattle.lrp_store.specs.Stores.{HasReach}
use Rattle.lrp_store.specs.Tables.{AreNumbered, InTable}
use Rattle.lrp_tables.specs.declared.table.Table.{Table}
use Rattle.lrp_tables.specs.Columns.{scan_times, scan_texts}
use Rattle.lrp_tables.specs.Steps.{IsScanResult}
use Rattle.lrp_tables.specs.Tables.{IsScanned, IsTableOf}
use Rattle.lrp_steps.proofs.scans.scan.Goals as goal

-- a table of the same variables and an equal store
same_table : (domain : List Text) (times texts : List Identifier) (period : ℕ) (set : Assignment → Type 0) (made new : Table) → made.vars ≡ new.vars → made.store ≡ new.store → IsTableOf domain times texts period set made
    → IsTableOf domain times texts period set new
same_table domain times texts period set made new vars store is = record {
  times_are = ap (λ v. v.times) (sym vars) ∙ is.times_are;
  texts_are = ap (λ v. v.texts) (sym vars) ∙ is.texts_are;
  period_is = ap (λ s. s.period) (sym store) ∙ is.period_is;
  sound = λ env has. is.sound env (subst (λ s. InTable domain made.vars.times made.vars.texts s env) (sym store) (subst (λ v. InTable domain v.times v.texts new.store env) (sym vars) has));
  whole = λ env has. subst (λ v. InTable domain v.times v.texts new.store env) vars (subst (λ s. InTable domain made.vars.times made.vars.texts s env) store (is.whole env has));
  numbered = subst (AreNumbered domain) store is.numbered;
}

pub returns-in-Ok-compact : goal.returns-in-Ok-compact
returns-in-Ok-compact c =
    let same : to_z w64 (of_z w64 c.args.period) ≡ c.args.period = (let fits : SFits w64 c.args.period = search rules in to_z-of_z w64 c.args.period fits) in
    let given : IsScanResult c.args.setting.now.cap c.args.setting.now.domain.now (to_z w64 (of_z w64 c.args.period)) c.args.relation.now c.args.terms.now (Ok c.in-Ok.table) =
    subst (IsScanResult c.args.setting.now.cap c.args.setting.now.domain.now (to_z w64 (of_z w64 c.args.period)) c.args.relation.now c.args.terms.now) c.in-Ok.is c.scan_rows.ensures in
    let made : IsScanResult c.args.setting.now.cap c.args.setting.now.domain.now c.args.period c.args.relation.now c.args.terms.now (Ok c.in-Ok.table) =
    subst (λ p. IsScanResult c.args.setting.now.cap c.args.setting.now.domain.now p c.args.relation.now c.args.terms.now (Ok c.in-Ok.table)) same given in
    record {
      table = same_table c.args.setting.now.domain.now (scan_times c.args.terms.now) (scan_texts c.args.terms.now) (nat_abs c.args.period) (IsScanned c.args.setting.now.domain.now c.args.relation.now c.args.terms.now) c.in-Ok.table _ refl (sym c.compact.ensures) made.table;
      reach = λ high h. subst (λ s. HasReach s high) (sym c.compact.ensures) (made.reach high h);
      few = made.few;
      many = λ e. cc;
    }
