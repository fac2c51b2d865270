-- The zones are read one after another.
use Rattle.std.proofs.Common.{◌≡◌, inl, inr, arith, refl, subst, sym, ◌∙◌, true, false}
use Rattle.std.proofs.lemmas.Bool.{cases_lt}
use Rattle.lrp_zone.specs.Pairs.{IsWithin}
use Rattle.lrp_store.specs.Stores.{tables_at, IsStore}
use Rattle.lrp_store.specs.Tidied.{nth_zone}
use Rattle.lrp_store.proofs.Aligning.{zone_valid}
use Rattle.lrp_store.proofs.Tidying.{nth_is, of_one_cell, seen_within, read_within, read_next, none_left, next_held, next_zone}
use Rattle.lrp_store.proofs.store.Store.is_covered.Goals as goal

pub unreachable-requires : goal.unreachable-requires
unreachable-requires c = none_left (tables_at c.args.self.now c.args.cell.now) c.loop-j.rest c.loop-j.j c.loop-j.invariant.left (omega (arith, c.loop-j-test.true, c.count-j-end.ensures.count)) (c.in_default-next.ensures).steps.0

pub loop-j-preserved-then-j-i : goal.loop-j-preserved-then-j-i
loop-j-preserved-then-j-i c = record {
  left = (read_next (tables_at c.args.self.now c.args.cell.now) c.loop-j.rest c.next.new.self c.loop-j.j c.in-Some-next.bounds.now c.loop-j.invariant.left (omega (arith, c.loop-j-test.true, c.count-j-end.ensures.count)) c.in-Some-next.ensures.steps).1;
  none = λ k kl other w. elim (cases_lt k c.loop-j.j) [
    | inl less ↦ c.loop-j.invariant.none k less other w
    | inr more ↦ let e : k ≡ c.loop-j.j = omega arith in let same : c.loop-j.j ≡ c.args.i = c.if-j-i.true in absurd (other (e ∙ same))
  ];
}

pub zone-other-requires : goal.zone-other-requires
zone-other-requires c =
    zone_valid (record { shape = c.self.inside.shape; period = c.self.inside.period; tables = c.self.inside.slots.lists; spare = c.self.inside.slots.spare }) c.args.self.now c.self.view_is (subst IsStore c.self.view_is c.self.invariant.valid) c.args.cell.now c.in-Some-next.bounds.now c.from-times.result
    (next_held (tables_at c.args.self.now c.args.cell.now) c.loop-j.rest c.next.new.self c.loop-j.j c.in-Some-next.bounds.now c.loop-j.invariant.left (omega (arith, c.loop-j-test.true, c.count-j-end.ensures.count)) c.in-Some-next.ensures.steps) c.from-times.ensures

pub within-requires : goal.within-requires
within-requires c = record { cell = of_one_cell c.args.self.now c.args.cell.now (tables_at c.args.self.now c.args.cell.now) c.args.i c.loop-j.j c.in-Some.zone c.zone-other.result (nth_is c.args.self.now c.args.cell.now c.args.i c.in-Some.zone c.requires c.in-Some.ensures) (next_zone (record { shape = c.self.inside.shape; period = c.self.inside.period; tables = c.self.inside.slots.lists; spare = c.self.inside.slots.spare }) c.args.self.now c.self.view_is c.args.cell.now c.loop-j.rest c.next.new.self c.loop-j.j c.in-Some-next.bounds.now c.from-times.result c.zone-other.result c.loop-j.invariant.left (omega (arith, c.loop-j-test.true, c.count-j-end.ensures.count)) c.in-Some-next.ensures.steps c.from-times.ensures c.zone-other.ensures) }

pub returns-then-within : goal.returns-then-within
returns-then-within c = (
  λ _. record {
    place = c.loop-j.j;
    low = (omega (arith, c.loop-j-test.true, c.count-j-end.ensures.count));
    other = c.if-j-i.false;
    within = seen_within c.args.self.now c.args.cell.now (tables_at c.args.self.now c.args.cell.now) c.args.i c.loop-j.j c.in-Some.zone c.zone-other.result (nth_is c.args.self.now c.args.cell.now c.args.i c.in-Some.zone c.requires c.in-Some.ensures) (next_zone (record { shape = c.self.inside.shape; period = c.self.inside.period; tables = c.self.inside.slots.lists; spare = c.self.inside.slots.spare }) c.args.self.now c.self.view_is c.args.cell.now c.loop-j.rest c.next.new.self c.loop-j.j c.in-Some-next.bounds.now c.from-times.result c.zone-other.result c.loop-j.invariant.left (omega (arith, c.loop-j-test.true, c.count-j-end.ensures.count)) c.in-Some-next.ensures.steps c.from-times.ensures c.zone-other.ensures) (c.within.ensures.0 c.if-within.true);
  },
  λ _. refl,
)

both_ways : false ≡ true → ⊥
both_ways e = cc

pub loop-j-preserved : goal.loop-j-preserved
loop-j-preserved c = record {
  left = (read_next (tables_at c.args.self.now c.args.cell.now) c.loop-j.rest c.next.new.self c.loop-j.j c.in-Some-next.bounds.now c.loop-j.invariant.left (omega (arith, c.loop-j-test.true, c.count-j-end.ensures.count)) c.in-Some-next.ensures.steps).1;
  none = λ k kl other w. elim (cases_lt k c.loop-j.j) [
    | inl less ↦ c.loop-j.invariant.none k less other w
    | inr more ↦
        let e : k ≡ c.loop-j.j = omega arith in
        both_ways (sym c.if-within.false ∙ c.within.ensures.1 (read_within c.args.self.now c.args.cell.now (tables_at c.args.self.now c.args.cell.now) c.args.i c.loop-j.j c.in-Some.zone c.zone-other.result (nth_is c.args.self.now c.args.cell.now c.args.i c.in-Some.zone c.requires c.in-Some.ensures) (next_zone (record { shape = c.self.inside.shape; period = c.self.inside.period; tables = c.self.inside.slots.lists; spare = c.self.inside.slots.spare }) c.args.self.now c.self.view_is c.args.cell.now c.loop-j.rest c.next.new.self c.loop-j.j c.in-Some-next.bounds.now c.from-times.result c.zone-other.result c.loop-j.invariant.left (omega (arith, c.loop-j-test.true, c.count-j-end.ensures.count)) c.in-Some-next.ensures.steps c.from-times.ensures c.zone-other.ensures)
        (subst (λ n. IsWithin (nth_zone c.args.self.now c.args.cell.now (tables_at c.args.self.now c.args.cell.now) c.args.i) (nth_zone c.args.self.now c.args.cell.now (tables_at c.args.self.now c.args.cell.now) n)) e w)))
  ];
}
