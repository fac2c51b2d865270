-- A sieve of the period.
use Rattle.std.proofs.Common.{◌≡◌, List, Contains, refl, sym, ap, subst, ◌∙◌, to_z, of_z, w64}
use Rattle.std.specs.Prelude.{pos, nat_abs}
use Rattle.lrp_cutting.proofs.Lists.{read}
use Rattle.lrp_store.specs.Growing.{IsAdded}
use Rattle.lrp_tables.specs.declared.table.Table.{Table}
use Rattle.lrp_tables.specs.declared.table.Vars.{Vars}
use Rattle.lrp_steps.proofs.Steps.{fresh_by}
use Rattle.lrp_periods.specs.Parts.{part_times, part_texts}
use Rattle.lrp_periods.specs.Sieves.{CanSift, IsLeftOpen}
use Rattle.lrp_periods.specs.declared.sieves.Cover.{Cover}
use Rattle.lrp_periods.proofs.PeriodLaws.{natural, whole_word}
use Rattle.lrp_periods.proofs.Sieved.{can_sift, line_store, sifted_is, some_residues}
use Rattle.lrp_periods.proofs.sieves.sifted.Goals as goal

pub covers_of-requires-clause-lines : goal.covers_of-requires-clause-lines
covers_of-requires-clause-lines c = λ part k. line_store c.requires.operand c.requires.line.times c.requires.line.texts part k

pub covers_of-requires-clause-whole : goal.covers_of-requires-clause-whole
covers_of-requires-clause-whole c = c.requires.line.whole

pub leaves_many-requires : goal.leaves_many-requires
leaves_many-requires c = λ cover k. some_residues c.requires.operand c.requires.line.times c.requires.line.texts c.in_ok-covers.ensures cover (subst (λ (cs : List Cover). Contains cs cover) c.as_slice.ensures k)

pub fill-requires-clause-sift : goal.fill-requires-clause-sift
fill-requires-clause-sift c =
    let first = c.requires.operand.parts_are.each c.index-parts-0.result (read c.args.parts.now 0 c.index-parts-0.result c.requires.operand.parts_are.some c.index-parts-0.is) in
    let t : c.in_ok-vars.vars.times ≡ part_times c.args.parts.now = ap (λ (v : Vars). v.times) c.in_ok-vars.ensures ∙ ap (λ (q : Table). q.vars.times) (sym c.index-parts-0.is) ∙ first.times_are in
    let x : c.in_ok-vars.vars.texts ≡ part_texts c.args.parts.now = ap (λ (v : Vars). v.texts) c.in_ok-vars.ensures ∙ ap (λ (q : Table). q.vars.texts) (sym c.index-parts-0.is) ∙ first.texts_are in
    let e : pos (nat_abs (to_z w64 (of_z w64 c.args.period))) ≡ c.args.period = ap (λ z. pos (nat_abs z)) (whole_word c.requires.operand.period_is) ∙ natural c.args.period c.requires.operand.period_is.low in
    subst (λ (cs : List Cover). CanSift cs (nat_abs (to_z w64 (of_z w64 c.args.period))) c.store_over-store.result) (sym c.as_slice-2.ensures)
    (can_sift c.requires.operand c.requires.line.times c.requires.line.texts c.in_ok-covers.ensures t x e c.store_over-store.ensures.valid c.store_over-store.ensures.made)

pub returns-in-Ok : goal.returns-in-Ok
returns-in-Ok c =
    let first = c.requires.operand.parts_are.each c.index-parts-0.result (read c.args.parts.now 0 c.index-parts-0.result c.requires.operand.parts_are.some c.index-parts-0.is) in
    let t : c.in_ok-vars.vars.times ≡ part_times c.args.parts.now = ap (λ (v : Vars). v.times) c.in_ok-vars.ensures ∙ ap (λ (q : Table). q.vars.times) (sym c.index-parts-0.is) ∙ first.times_are in
    let x : c.in_ok-vars.vars.texts ≡ part_texts c.args.parts.now = ap (λ (v : Vars). v.texts) c.in_ok-vars.ensures ∙ ap (λ (q : Table). q.vars.texts) (sym c.index-parts-0.is) ∙ first.texts_are in
    let fresh = fresh_by c.store_over-store.result c.in_ok-vars.vars.times (part_times c.args.parts.now) c.in_ok-vars.vars.texts (part_texts c.args.parts.now) (nat_abs (to_z w64 (of_z w64 c.args.period))) (nat_abs c.args.period) c.store_over-store.ensures.made t x (ap nat_abs (whole_word c.requires.operand.period_is)) in
    let added : IsAdded (IsLeftOpen c.in_ok-covers.covers) c.args.setting.now.cap 0 c.store_over-store.result c.fill.new.out = subst (λ (cs : List Cover). IsAdded (IsLeftOpen cs) c.args.setting.now.cap 0 c.store_over-store.result c.fill.new.out) c.as_slice-2.ensures c.in-Ok.ensures in
    sifted_is c.requires.operand c.requires.line.times c.requires.line.texts c.in_ok-covers.covers c.in_ok-covers.ensures c.len.ensures.ascending c.args.setting.now.cap c.store_over-store.result c.fill.new.out fresh added _ t x refl
