-- One part of the whole period is its own table; other parts are brought to it.
use Rattle.std.proofs.Common.{◌≡◌, ◌∷◌, [], List, length, sym, ap, subst, ◌∙◌, to_z, of_z, w64}
use Rattle.std.specs.Prelude.{pos}
use Rattle.lrp_periods.specs.Operations.{IsWholeResult}
use Rattle.lrp_tables.specs.declared.table.Table.{Table}
use Rattle.lrp_eval.specs.Grouped.{CanBeWhole, HaveFew}
use Rattle.lrp_eval.proofs.GroupLaws.{one_whole, whole_asks, whole_makes}
use Rattle.lrp_eval.proofs.groups.whole_of.Goals as goal

pub bound_of-requires : goal.bound_of-requires
bound_of-requires c = subst (λ (ps : List Table). CanBeWhole c.args.setting.now.domain.now c.args.step.now.period ps) (sym c.as_slice-then-is_one.ensures) c.requires

pub only-requires : goal.only-requires
only-requires c = let x = c.is_one.ensures c.if-is_one.true in ap (λ (ps : List Table). length ps) (sym c.as_slice.ensures ∙ x.1)

pub returns-in-Some : goal.returns-in-Some
returns-in-Some c =
    let x = c.is_one.ensures c.if-is_one.true in
    let same : x.0 ≡ c.only.result = (let e : x.0 ∷ [] ≡ c.only.result ∷ [] = sym x.1 ∙ c.as_slice.ensures ∙ c.only.ensures in cc) in
    one_whole c.args.setting.now.cap c.args.setting.now.domain.now c.args.step.now.period c.args.parts c.only.result c.requires c.only.ensures
    (subst (λ (t : Table). pos t.store.period ≡ c.args.step.now.period) same x.2)
    (subst (λ (ps : List Table). HaveFew c.args.setting.now.cap c.args.setting.now.domain.now c.args.step.now.period ps) c.as_slice-then-is_one.ensures c.in-Some.ensures)

pub whole-requires : goal.whole-requires
whole-requires c = whole_asks c.args.setting.now.domain.now c.args.step.now.period c.as_slice-2.result.now (subst (λ (ps : List Table). CanBeWhole c.args.setting.now.domain.now c.args.step.now.period ps) (sym c.as_slice-2.ensures) c.requires)

pub returns-in-Ok : goal.returns-in-Ok
returns-in-Ok c = whole_makes c.args.setting.now.cap c.args.setting.now.domain.now c.args.step.now.period c.args.parts c.whole.result c.in-Ok.table c.requires c.in-Ok.is
    (subst (λ (ps : List Table). IsWholeResult c.args.setting.now.cap c.args.setting.now.domain.now (to_z w64 (of_z w64 c.args.step.now.period)) ps c.whole.result) c.as_slice-2.ensures c.whole.ensures)
