-- The rows are held one after another.
use Rattle.std.proofs.Common.{◌≡◌, ◌<◌, [], ◌∷◌, ◌++◌, length, take, get_or, refl, sym, ap, subst, ◌∙◌, arith}
use Rattle.std.proofs.lemmas.List.{take_all, take_more}
use Rattle.std.proofs.lemmas.Option.{slice_get_read}
use Rattle.lrp_plan_laws.proofs.Members.{all_of}
use Rattle.lrp_keep.specs.States.{AreHeldAlso}
use Rattle.lrp_kept.specs.Sketches.{CanBeSketched}
use Rattle.lrp_keep.proofs.Filling.{none_also, one_also}
use Rattle.lrp_keep.proofs.states.hold_all.Goals as goal
use Rattle.lrp_store.proofs.Held.{Contains-from_get}

pub loop-row-init : goal.loop-row-init
loop-row-init c = none_also c.args.of.now c.args.number c.args.rows.now c.requires.held

pub source-requires : goal.source-requires
source-requires c =
    let low : c.loop-row.row-index < length c.args.relation.now.rows = subst (λ xs. c.loop-row.row-index < length xs) c.as_slice-row-items.ensures c.loop-row-test.true in
    let is : c.row-item.result ≡ get_or c.args.relation.now.rows c.loop-row.row-index c.row-item.result = subst (λ xs. c.row-item.result ≡ get_or xs c.loop-row.row-index c.row-item.result) c.as_slice-row-items.ensures c.row-item.is in
    all_of (CanBeSketched c.args.of.now.disjuncts.items c.args.number) c.args.relation.now.rows c.row-item.result c.requires.can
    (Contains-from_get c.args.relation.now.rows c.loop-row.row-index c.row-item.result (slice_get_read c.args.relation.now.rows (length c.args.relation.now.rows) c.loop-row.row-index c.row-item.result refl low is))

pub hold-requires : goal.hold-requires
hold-requires c = omega (arith, c.in_ok-source.ensures.relation, c.loop-row.invariant.listed.count, c.requires.number)

pub loop-row-preserved : goal.loop-row-preserved
loop-row-preserved c =
    subst (λ all. AreHeldAlso c.args.of.now c.args.number all c.args.rows.now c.hold.new.self) (sym (take_more c.as_slice-row-items.result.now c.loop-row.row-index c.row-item.result c.loop-row-test.true ∙ ap (λ r. take c.loop-row.row-index c.as_slice-row-items.result.now ++ r ∷ []) (sym c.row-item.is)))
    (one_also c.args.of.now c.args.number (take c.loop-row.row-index c.as_slice-row-items.result.now) c.args.rows.now c.loop-row.rows c.hold.new.self c.requires.number c.requires.held c.loop-row.invariant c.in_ok-source.field-0 c.in_ok-hold.field-0 c.row-item.result
    c.in_ok-source.ensures.relation c.in_ok-source.ensures.row c.in_ok-source.ensures.sketches c.in_ok-hold.ensures.held)

pub returns : goal.returns
returns c =
    let whole = take_all c.loop-row.row-index c.as_slice-row-items.result.now (omega (arith, c.loop-row-test.false)) in
    subst (λ all. AreHeldAlso c.args.of.now c.args.number all c.args.rows.now c.loop-row.rows) (whole ∙ c.as_slice-row-items.ensures) c.loop-row.invariant
