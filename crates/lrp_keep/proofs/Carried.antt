-- What is derived stays derived where the same rows stand under the same keys.
use Rattle.std.proofs.Common.{◌≡◌, ◌<◌, ◌+◌, ℕ, zero, suc, List, [], ◌∷◌, length, Contains, inl, inr, refl, sym, subst, ◌∙◌, arith}
use Rattle.std.specs.Prelude.{Option, slice_get}
use Rattle.slab.specs.Slab.{get}
use Rattle.lrp_model.proofs.Decided.{cons_cases}
use Rattle.lrp_store.specs.Stores.{StoreView}
use Rattle.lrp_parts.specs.Derivations.{AreReleased, CanBeReadBy, CanDerive, Ground, HoldsIn, IsDerivedFrom, IsWithoutKey, Levels}
use Rattle.lrp_parts.proofs.Without.{derived_after, derived_before, with_rows}
use Rattle.lrp_kept.specs.Keys.{keys_in, keys_of}
use Rattle.lrp_kept.specs.Keyed.{AreHeldRows, HaveOwnKeys}
use Rattle.lrp_kept.specs.declared.disjuncts.Disjunct.{Disjunct}
use Rattle.lrp_kept.specs.declared.rows.HeldRelation.{HeldRelation}
use Rattle.lrp_kept.specs.declared.rows.HeldRows.{HeldRows}
use Rattle.lrp_keep.proofs.Alike.{AreAsHeld}

-- ---- a key that none of the rows has

-- above each of the keys
abbrev above : List ℕ → ℕ
above [] = 0
above (k ∷ keys) = suc k + above keys

is_below : (keys : List ℕ) (k : ℕ) → Contains keys k → k < above keys
is_below [] k c = absurd (let l : c.0 < 0 = c.1 in omega (arith, l))
is_below (j ∷ keys) k c = elim (cons_cases j k keys c) [
  | inl e ↦ let s : j ≡ k = e in omega (arith, s)
  | inr d ↦ let l : k < above keys = is_below keys k d in omega (arith, l)
]

abbrev above_all : List HeldRelation → ℕ
above_all [] = 0
above_all (h ∷ rs) = above h.keys.items + above_all rs

all_below : (rs : List HeldRelation) (i k : ℕ) → Contains (keys_in (slice_get rs i)) k → k < above_all rs
all_below [] i k c = absurd (let l : c.0 < 0 = c.1 in omega (arith, l))
all_below (h ∷ rs) zero k c = let l : k < above h.keys.items = is_below h.keys.items k c in omega (arith, l)
all_below (h ∷ rs) (suc i) k c = let l : k < above_all rs = all_below rs i k c in omega (arith, l)

abbrev fresh : HeldRows → ℕ
fresh rows = above_all rows.relations.items

is_fresh : (rows : HeldRows) (i : ℕ) → Contains (keys_of rows i) (fresh rows) → ⊥
is_fresh rows i c = let l : fresh rows < fresh rows = all_below rows.relations.items i (fresh rows) c in omega (arith, l)

without_fresh : (old new : HeldRows) → AreAsHeld old new → IsWithoutKey old new (fresh old)
without_fresh old new a = record {
  to = λ i k c. let d : Contains (keys_of old i) k = subst (λ l. Contains l k) (a.keys i) c in (d, λ e. is_fresh old i (subst (λ x. Contains (keys_of old i) x) e d));
  from = λ i k c d. subst (λ l. Contains l k) (sym (a.keys i)) c;
  sources = λ k d. a.sources k;
}

self_held : (rows : HeldRows) → AreAsHeld rows rows
self_held rows = record { count = refl; keys = λ i. refl; sources = λ k. refl }

-- nothing is held for it
unreleased : (key : ℕ) (levels : Levels) → ((level : ℕ) (keys : List ℕ) (value : Option StoreView) → HoldsIn levels level keys value → Contains keys key → ⊥) → AreReleased key levels levels
unreleased key levels none = record { count = refl; to = λ level keys value h. (h, none level keys value h); from = λ level keys value h c. h }

pub same_derived : (g : Ground) (others : HeldRows) (d : Disjunct) (levels : Levels) → AreAsHeld g.rows others → IsDerivedFrom g d levels → IsDerivedFrom (with_rows g others) d levels
same_derived g others d levels a derived =
    let before = derived_before g g.rows (fresh g.rows) (without_fresh g.rows g.rows (self_held g.rows)) d levels derived in
    derived_after g others (fresh g.rows) (without_fresh g.rows others a) d levels levels (unreleased (fresh g.rows) levels before.1) before.0

pub same_held_rows : (old new : HeldRows) → AreAsHeld old new → AreHeldRows old → AreHeldRows new
same_held_rows old new a h = record {
  there = λ i k c. let s = h.there i k (subst (λ l. Contains l k) (a.keys i) c) in record { source = s.source; held = a.sources k ∙ s.held; relation_is = s.relation_is };
  once = λ i. subst (λ l. HaveOwnKeys l) (sym (a.keys i)) (h.once i);
}

-- ---- what can be derived

-- from some of the rows
pub can_among : (g : Ground) (others : HeldRows) (d : Disjunct) → ((i k : ℕ) → Contains (keys_of others i) k → Contains (keys_of g.rows i) k × (get others.sources k ≡ get g.rows.sources k)) → length others.relations.items ≡ length g.rows.relations.items → CanDerive g d → CanDerive (with_rows g others) d
can_among g others d w size can = record {
  low = can.low;
  high = can.high;
  some = can.some;
  relations = λ i a at. subst (λ n. a.relation < n) (sym size) (can.relations i a at);
  joined = λ i a at. let c = can.joined i a at in record { differ = c.differ; few_times = c.few_times; few_texts = c.few_texts; times_known = c.times_known; texts_known = c.texts_known; tests = c.tests };
  rise = can.rise;
  tests = can.tests;
  tests_room = can.tests_room;
  room = can.room;
  rows = λ i a k at listed.
      let x = w a.relation k listed in
      let c : CanBeReadBy g d i a k = can.rows i a k at x.0 in
      record { source = c.source; held = x.1 ∙ c.held; read = c.read; periods = c.periods; room = c.room; drops = c.drops; sketched = c.sketched };
  head = λ a at. let c = can.head a at in record { names = c.names };
}

pub same_can : (g : Ground) (others : HeldRows) (d : Disjunct) → AreAsHeld g.rows others → CanDerive g d → CanDerive (with_rows g others) d
same_can g others d a can = can_among g others d (λ i k c. (subst (λ l. Contains l k) (a.keys i) c, a.sources k)) a.count can
