-- Disjunct after disjunct is derived.
use Rattle.std.proofs.Common.{◌≡◌, ◌<◌, ◌+◌, Err, length, get_or, refl, sym, ap, subst, arith}
use Rattle.std.proofs.lemmas.Option.{slice_get_read}
use Rattle.lrp_tables.specs.declared.table.StepFault.TheVariants.{TooManyCells}
use Rattle.lrp_parts.specs.Derivations.{CanDerive, HasLargePart, IsDerivedFrom}
use Rattle.lrp_keep.specs.States.{ground_at}
use Rattle.lrp_keep.proofs.EachDerived.{AreDerivedBelow, all_derived, none_derived, one_derived}
use Rattle.lrp_keep.proofs.Lists.{contained_read}
use Rattle.lrp_keep.proofs.kept_query.KeptQuery.derive_all.Goals as goal

pub loop-disjunct-init : goal.loop-disjunct-init
loop-disjunct-init c =
    subst (AreDerivedBelow (ground_at c.args.self.now c.args.rows.now c.args.period.number) c.args.self.now.disjuncts.items 0) (sym c.new-all.ensures.items) (none_derived (ground_at c.args.self.now c.args.rows.now c.args.period.number) c.args.self.now.disjuncts.items)

pub derive_one-requires : goal.derive_one-requires
derive_one-requires c =
    let low : c.loop-disjunct.disjunct-index < length c.args.self.now.disjuncts.items = subst (λ xs. c.loop-disjunct.disjunct-index < length xs) c.deref-disjunct-items.ensures.value c.loop-disjunct-test.true in
    let is : c.disjunct-item.result ≡ get_or c.args.self.now.disjuncts.items c.loop-disjunct.disjunct-index c.disjunct-item.result = subst (λ xs. c.disjunct-item.result ≡ get_or xs c.loop-disjunct.disjunct-index c.disjunct-item.result) c.deref-disjunct-items.ensures.value c.disjunct-item.is in
    let here = slice_get_read c.args.self.now.disjuncts.items (length c.args.self.now.disjuncts.items) c.loop-disjunct.disjunct-index c.disjunct-item.result refl low is in
    subst (λ g. CanDerive g c.disjunct-item.result) (sym c.setting-setting.ensures) (c.requires c.loop-disjunct.disjunct-index c.disjunct-item.result here)

pub loop-disjunct-preserved : goal.loop-disjunct-preserved
loop-disjunct-preserved c =
    let low : c.loop-disjunct.disjunct-index < length c.args.self.now.disjuncts.items = subst (λ xs. c.loop-disjunct.disjunct-index < length xs) c.deref-disjunct-items.ensures.value c.loop-disjunct-test.true in
    let is : c.disjunct-item.result ≡ get_or c.args.self.now.disjuncts.items c.loop-disjunct.disjunct-index c.disjunct-item.result = subst (λ xs. c.disjunct-item.result ≡ get_or xs c.loop-disjunct.disjunct-index c.disjunct-item.result) c.deref-disjunct-items.ensures.value c.disjunct-item.is in
    let here = slice_get_read c.args.self.now.disjuncts.items (length c.args.self.now.disjuncts.items) c.loop-disjunct.disjunct-index c.disjunct-item.result refl low is in
    subst (AreDerivedBelow (ground_at c.args.self.now c.args.rows.now c.args.period.number) c.args.self.now.disjuncts.items (c.loop-disjunct.disjunct-index + 1)) (sym c.in-Ok.ensures.derived.are) (one_derived (ground_at c.args.self.now c.args.rows.now c.args.period.number) c.args.self.now.disjuncts.items c.loop-disjunct.disjunct-index c.disjunct-item.result c.loop-disjunct.all.items c.in-Ok.ensures.derived.derived here c.loop-disjunct.invariant (subst (λ g. IsDerivedFrom g c.disjunct-item.result c.in-Ok.ensures.derived.derived.levels.items) c.setting-setting.ensures c.in-Ok.ensures.derived.is))

pub returns-in-Err-clause-many : goal.returns-in-Err-clause-many
returns-in-Err-clause-many c =
    let low : c.loop-disjunct.disjunct-index < length c.args.self.now.disjuncts.items = subst (λ xs. c.loop-disjunct.disjunct-index < length xs) c.deref-disjunct-items.ensures.value c.loop-disjunct-test.true in
    let is : c.disjunct-item.result ≡ get_or c.args.self.now.disjuncts.items c.loop-disjunct.disjunct-index c.disjunct-item.result = subst (λ xs. c.disjunct-item.result ≡ get_or xs c.loop-disjunct.disjunct-index c.disjunct-item.result) c.deref-disjunct-items.ensures.value c.disjunct-item.is in
    λ e. let same : c.in-Err.fault ≡ TooManyCells = cc in record { disjunct = c.disjunct-item.result; listed = contained_read c.args.self.now.disjuncts.items c.loop-disjunct.disjunct-index c.disjunct-item.result low is; large = subst (λ g. HasLargePart g c.disjunct-item.result) c.setting-setting.ensures (c.in-Err.ensures.many (ap Err same)) }

pub returns-clause-derived : goal.returns-clause-derived
returns-clause-derived c =
    let own : length c.deref-disjunct-items.result.now ≡ length c.args.self.now.disjuncts.items = ap length c.deref-disjunct-items.ensures.value in
    let end : c.loop-disjunct.disjunct-index ≡ length c.args.self.now.disjuncts.items = omega (arith, own, c.loop-disjunct-test.false, c.loop-disjunct.auto.disjunct-index-end) in
    all_derived (ground_at c.args.self.now c.args.rows.now c.args.period.number) c.args.self.now.disjuncts.items c.loop-disjunct.all.items (subst (λ n. AreDerivedBelow (ground_at c.args.self.now c.args.rows.now c.args.period.number) c.args.self.now.disjuncts.items n c.loop-disjunct.all.items) end c.loop-disjunct.invariant)
