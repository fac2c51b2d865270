-- The cell of the nearest number that no cover has.
use Rattle.std.proofs.Common.{◌≡◌, ◌<◌, ℕ, List, Option, refl, sym, ap, subst, ◌∙◌, to_z, of_z, w64}
use Rattle.std.specs.Prelude.{pos, nat_abs, IfSome}
use Rattle.lrp_cutting.proofs.Lists.{read}
use Rattle.lrp_store.specs.Growing.{IsAdded}
use Rattle.lrp_store.specs.Stores.{StoreView}
use Rattle.lrp_tables.specs.declared.table.Table.{Table}
use Rattle.lrp_tables.specs.declared.table.Vars.{Vars}
use Rattle.lrp_steps.proofs.Steps.{fresh_by}
use Rattle.lrp_periods.specs.Nearest.{AreCoversWithin, IsNearestOpen, IsOfResidue}
use Rattle.lrp_periods.specs.Parts.{part_times, part_texts}
use Rattle.lrp_periods.specs.Sieves.{CanSift}
use Rattle.lrp_periods.specs.declared.sieves.Cover.{Cover}
use Rattle.lrp_periods.proofs.NearestLaws.{nearest_is, within_of}
use Rattle.lrp_periods.proofs.PeriodLaws.{natural, whole_word}
use Rattle.lrp_periods.proofs.Sieved.{can_sift, line_store}
use Rattle.lrp_periods.proofs.nearest.nearest_left.Goals as goal

pub covers_of-requires-clause-lines : goal.covers_of-requires-clause-lines
covers_of-requires-clause-lines c = λ part k. line_store c.requires.operand c.requires.line.times c.requires.line.texts part k

pub covers_of-requires-clause-whole : goal.covers_of-requires-clause-whole
covers_of-requires-clause-whole c = c.requires.line.whole

pub nearest_open-found-requires-clause-within : goal.nearest_open-found-requires-clause-within
nearest_open-found-requires-clause-within c =
    let first = c.requires.operand.parts_are.each c.index-parts-0.result (read c.args.parts.now 0 c.index-parts-0.result c.requires.operand.parts_are.some c.index-parts-0.is) in
    let t : c.in_ok-vars.vars.times ≡ part_times c.args.parts.now = ap (λ (v : Vars). v.times) c.in_ok-vars.ensures ∙ ap (λ (q : Table). q.vars.times) (sym c.index-parts-0.is) ∙ first.times_are in
    let x : c.in_ok-vars.vars.texts ≡ part_texts c.args.parts.now = ap (λ (v : Vars). v.texts) c.in_ok-vars.ensures ∙ ap (λ (q : Table). q.vars.texts) (sym c.index-parts-0.is) ∙ first.texts_are in
    let e : pos (nat_abs (to_z w64 (of_z w64 c.args.period))) ≡ c.args.period = ap (λ z. pos (nat_abs z)) (whole_word c.requires.operand.period_is) ∙ natural c.args.period c.requires.operand.period_is.low in
    subst (λ (cs : List Cover). AreCoversWithin (nat_abs (to_z w64 (of_z w64 c.args.period))) cs) (sym c.as_slice.ensures)
    (within_of (can_sift c.requires.operand c.requires.line.times c.requires.line.texts c.in_ok-covers.ensures t x e c.store_over-store.ensures.valid c.store_over-store.ensures.made))

pub add_residue-requires-clause-line : goal.add_residue-requires-clause-line
add_residue-requires-clause-line c =
    let first = c.requires.operand.parts_are.each c.index-parts-0.result (read c.args.parts.now 0 c.index-parts-0.result c.requires.operand.parts_are.some c.index-parts-0.is) in
    let t : c.in_ok-vars.vars.times ≡ part_times c.args.parts.now = ap (λ (v : Vars). v.times) c.in_ok-vars.ensures ∙ ap (λ (q : Table). q.vars.times) (sym c.index-parts-0.is) ∙ first.times_are in
    let x : c.in_ok-vars.vars.texts ≡ part_texts c.args.parts.now = ap (λ (v : Vars). v.texts) c.in_ok-vars.ensures ∙ ap (λ (q : Table). q.vars.texts) (sym c.index-parts-0.is) ∙ first.texts_are in
    let e : pos (nat_abs (to_z w64 (of_z w64 c.args.period))) ≡ c.args.period = ap (λ z. pos (nat_abs z)) (whole_word c.requires.operand.period_is) ∙ natural c.args.period c.requires.operand.period_is.low in
    (can_sift c.requires.operand c.requires.line.times c.requires.line.texts c.in_ok-covers.ensures t x e c.store_over-store.ensures.valid c.store_over-store.ensures.made).line

pub add_residue-requires-clause-low : goal.add_residue-requires-clause-low
add_residue-requires-clause-low c =
    let period : c.store_over-store.result.period ≡ nat_abs (to_z w64 (of_z w64 c.args.period)) = ap (λ (s : StoreView). s.period) c.store_over-store.ensures.made in
    subst (λ (k : ℕ). IfSome c.nearest_open-found.result (λ (r : ℕ). r < k)) (sym period) c.nearest_open-found.ensures.low

pub returns-in-Ok : goal.returns-in-Ok
returns-in-Ok c =
    let first = c.requires.operand.parts_are.each c.index-parts-0.result (read c.args.parts.now 0 c.index-parts-0.result c.requires.operand.parts_are.some c.index-parts-0.is) in
    let t : c.in_ok-vars.vars.times ≡ part_times c.args.parts.now = ap (λ (v : Vars). v.times) c.in_ok-vars.ensures ∙ ap (λ (q : Table). q.vars.times) (sym c.index-parts-0.is) ∙ first.times_are in
    let x : c.in_ok-vars.vars.texts ≡ part_texts c.args.parts.now = ap (λ (v : Vars). v.texts) c.in_ok-vars.ensures ∙ ap (λ (q : Table). q.vars.texts) (sym c.index-parts-0.is) ∙ first.texts_are in
    let e : pos (nat_abs (to_z w64 (of_z w64 c.args.period))) ≡ c.args.period = ap (λ z. pos (nat_abs z)) (whole_word c.requires.operand.period_is) ∙ natural c.args.period c.requires.operand.period_is.low in
    let word : nat_abs (to_z w64 (of_z w64 c.args.period)) ≡ nat_abs c.args.period = ap nat_abs (whole_word c.requires.operand.period_is) in
    let period : c.store_over-store.result.period ≡ nat_abs (to_z w64 (of_z w64 c.args.period)) = ap (λ (s : StoreView). s.period) c.store_over-store.ensures.made in
    let fresh = fresh_by c.store_over-store.result c.in_ok-vars.vars.times (part_times c.args.parts.now) c.in_ok-vars.vars.texts (part_texts c.args.parts.now) (nat_abs (to_z w64 (of_z w64 c.args.period))) (nat_abs (to_z w64 (of_z w64 c.args.period))) c.store_over-store.ensures.made t x refl in
    let within : AreCoversWithin (nat_abs (to_z w64 (of_z w64 c.args.period))) c.in_ok-covers.covers =
    within_of (can_sift c.requires.operand c.requires.line.times c.requires.line.texts c.in_ok-covers.ensures t x e c.store_over-store.ensures.valid c.store_over-store.ensures.made) in
    let near : IsNearestOpen c.in_ok-covers.covers (nat_abs (to_z w64 (of_z w64 c.args.period))) c.nearest_open-found.result =
    (subst (λ (cs : List Cover). IsNearestOpen cs (nat_abs (to_z w64 (of_z w64 c.args.period))) c.nearest_open-found.result) c.as_slice.ensures c.nearest_open-found.ensures) in
    let added : IsAdded (IsOfResidue (nat_abs (to_z w64 (of_z w64 c.args.period))) c.nearest_open-found.result) c.args.setting.now.cap 0 c.store_over-store.result c.add_residue.new.out =
    subst (λ (k : ℕ). IsAdded (IsOfResidue k c.nearest_open-found.result) c.args.setting.now.cap 0 c.store_over-store.result c.add_residue.new.out) period c.in-Ok.ensures in
    nearest_is c.requires.operand c.requires.line.times c.requires.line.texts c.in_ok-covers.covers c.in_ok-covers.ensures c.len.ensures.ascending (nat_abs (to_z w64 (of_z w64 c.args.period))) c.args.setting.now.cap word
    within c.nearest_open-found.result near c.store_over-store.result c.add_residue.new.out fresh added _ t x refl
