-- Relations that change one by one: what stands where.
use Rattle.std.proofs.Common.{◌≡◌, ◌<◌, ◌≤◌, ℕ, List, length, Option, Some, None, inl, inr, refl, sym, ap, subst, ◌∙◌, arith}
use Rattle.std.specs.Prelude.{slice_get}
use Rattle.slab.specs.Slab.{get}
use Rattle.lrp_zone.proofs.Cases.{eq_or}
use Rattle.lrp_kept.specs.Keys.{keys_in, keys_of}
use Rattle.lrp_kept.specs.Keyed.{AreRelisted, AreSameRows, IsWithKeys}
use Rattle.lrp_keep.specs.States.{IsRelationMarked}
use Rattle.lrp_keep.proofs.Lists.{none_past, past_end}
use Rattle.lrp_kept.specs.declared.rows.HeldRelation.{HeldRelation}
use Rattle.lrp_kept.specs.declared.rows.HeldRows.{HeldRows}
use Rattle.lrp_holdings.proofs.Chained.{some_is}
use Rattle.lrp_plan_laws.proofs.Elements.{found, within}

-- each relation is changed in the same way
pub record AreAlike (alike : HeldRelation → HeldRelation → Type 0) (old new : List HeldRelation) : Type 0 where
  pub count : length new ≡ length old
  pub each : (i : ℕ) (h s : HeldRelation) → slice_get old i ≡ Some h → slice_get new i ≡ Some s → alike h s

pub alike_by : (p q : HeldRelation → HeldRelation → Type 0) (old new : List HeldRelation) → ((h s : HeldRelation) → p h s → q h s) → AreAlike p old new → AreAlike q old new
alike_by p q old new go a = record { count = a.count; each = λ i h s x y. go h s (a.each i h s x y) }

-- one list of keys is another, each other relation is as it was
pub relisted_alike : (p : HeldRelation → HeldRelation → Type 0) (n : ℕ) (keys : List ℕ) (old new : List HeldRelation) → AreRelisted n keys old new → ((h : HeldRelation) → p h h) → ((h s : HeldRelation) → slice_get old n ≡ Some h → IsWithKeys keys h s → p h s) → AreAlike p old new
relisted_alike p n keys old new r same one = record {
  count = r.count;
  each = λ i h s x y. elim (eq_or i n) [
    | inl e ↦
        let at : slice_get old n ≡ Some h = ap (slice_get old) (sym e) ∙ x in
        let z = r.at h at in
        subst (λ t. p h t) (some_is z.0 s (sym z.1 ∙ ap (slice_get new) (sym e) ∙ y)) (one h z.0 at z.2)
    | inr d ↦ subst (λ t. p h t) (some_is h s (sym x ∙ sym (r.rest i d) ∙ y)) (same h)
  ];
}

-- one number is another
pub marked_alike : (p : HeldRelation → HeldRelation → Type 0) (n most : ℕ) (old new : HeldRows) → IsRelationMarked n most old new → ((h : HeldRelation) → p h h) → ((h : HeldRelation) → slice_get old.relations.items n ≡ Some h → p h (record h { most = most })) → AreAlike p old.relations.items new.relations.items
marked_alike p n most old new r same one = record {
  count = r.count;
  each = λ i h s x y. elim (eq_or i n) [
    | inl e ↦
        let at : slice_get old.relations.items n ≡ Some h = ap (slice_get old.relations.items) (sym e) ∙ x in
        subst (λ t. p h t) (some_is (record h { most = most }) s (sym (r.at h at) ∙ ap (slice_get new.relations.items) (sym e) ∙ y)) (one h at)
    | inr d ↦ subst (λ t. p h t) (some_is h s (sym x ∙ sym (r.rest i d) ∙ y)) (same h)
  ];
}

-- ---- keys

pub keys_at : (rows : HeldRows) (i : ℕ) (h : HeldRelation) → slice_get rows.relations.items i ≡ Some h → keys_of rows i ≡ h.keys.items
keys_at rows i h e = ap keys_in e

-- the relations have the keys that they had
pub same_keys : (old new : HeldRows) → AreAlike (λ h s. s.keys.items ≡ h.keys.items) old.relations.items new.relations.items → (i : ℕ) → keys_of new i ≡ keys_of old i
same_keys old new a i = by (slice_get old.relations.items i) refl
  where
    by : (o : Option HeldRelation) → slice_get old.relations.items i ≡ o → keys_of new i ≡ keys_of old i
    by None e = ap keys_in (none_past new.relations.items i (let l : length old.relations.items ≤ i = past_end old.relations.items i e in let c : length new.relations.items ≡ length old.relations.items = a.count in omega (arith, l, c))) ∙ sym (ap keys_in e)
    by (Some h) e =
        let s = found new.relations.items i (let l : i < length old.relations.items = within old.relations.items i h e in let c : length new.relations.items ≡ length old.relations.items = a.count in omega (arith, l, c)) in
        ap keys_in s.1 ∙ a.each i h s.0 e s.1 ∙ sym (ap keys_in e)

-- the rows are listed as they were, under the same keys
pub record AreAsHeld (old new : HeldRows) : Type 0 where
  pub count : length new.relations.items ≡ length old.relations.items
  pub keys : (i : ℕ) → keys_of new i ≡ keys_of old i
  pub sources : (k : ℕ) → get new.sources k ≡ get old.sources k

pub as_held_then : (a b c : HeldRows) → AreAsHeld a b → AreAsHeld b c → AreAsHeld a c
as_held_then a b c x y = record { count = y.count ∙ x.count; keys = λ i. y.keys i ∙ x.keys i; sources = λ k. y.sources k ∙ x.sources k }

pub marked_as_held : (n most : ℕ) (old new : HeldRows) → IsRelationMarked n most old new → AreAsHeld old new
marked_as_held n most old new r = record {
  count = r.count;
  keys = same_keys old new (marked_alike (λ h s. s.keys.items ≡ h.keys.items) n most old new r (λ h. refl) (λ h at. refl));
  sources = λ k. ap (λ s. get s k) r.sources;
}

-- what is alike in rows that are the same
pub same_alike : (p : HeldRelation → HeldRelation → Type 0) (old new : HeldRows) → AreSameRows old new → ((h s : HeldRelation) → s.name ≡ h.name → s.columns ≡ h.columns → s.most ≡ h.most → s.keys.items ≡ h.keys.items → p h s) → AreAlike p old.relations.items new.relations.items
same_alike p old new r one = relisted_alike p r.relation (keys_of old r.relation) old.relations.items new.relations.items r.listed (λ h. one h h refl refl refl refl)
    (λ h s at w. one h s w.name w.columns w.most (w.keys_are ∙ keys_at old r.relation h at))

pub same_as_held : (old new : HeldRows) → AreSameRows old new → AreAsHeld old new
same_as_held old new r = record {
  count = r.listed.count;
  keys = same_keys old new (same_alike (λ h s. s.keys.items ≡ h.keys.items) old new r (λ h s a b c d. d));
  sources = r.sources;
}

-- ---- twice relisted

pub relisted_twice : (n : ℕ) (keys more : List ℕ) (a b c : List HeldRelation) → AreRelisted n keys a b → AreRelisted n more b c → AreRelisted n more a c
relisted_twice n keys more a b c x y = record {
  count = y.count ∙ x.count;
  rest = λ i d. y.rest i d ∙ x.rest i d;
  at = λ h e. let s = x.at h e in let t = y.at s.0 s.1 in (t.0, t.1, record { name = t.2.name ∙ s.2.name; columns = t.2.columns ∙ s.2.columns; most = t.2.most ∙ s.2.most; keys_are = t.2.keys_are });
}

pub relisted_same : (n : ℕ) (rows : HeldRows) → AreRelisted n (keys_of rows n) rows.relations.items rows.relations.items
relisted_same n rows = record {
  count = refl;
  rest = λ i d. refl;
  at = λ h e. (h, e, record { name = refl; columns = refl; most = refl; keys_are = sym (keys_at rows n h e) });
}
