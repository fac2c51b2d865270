-- The relations that a keeper stands for, after a row is put after others or taken out.
use Rattle.std.proofs.Common.{◌≡◌, ◌≢◌, ℕ, zero, suc, Bool, true, false, List, [], ◌∷◌, ◌++◌, length, map, flat_map, Contains, Option, Some, inl, inr, refl, sym, ap, ap₂, subst, ◌∙◌, bytes_eq, append_assoc, arith}
use Rattle.std.specs.Prelude.{if◌then◌else◌, slice_get}
use Rattle.std.specs.List.{AllByRecursion}
use Rattle.slab.specs.Slab.{get}
use Rattle.lrp_model.specs.Texts.{AreDistinct, Identifier}
use Rattle.lrp_model.specs.declared.relations.Column.{Column}
use Rattle.lrp_model.specs.declared.relations.Relation.{Relation}
use Rattle.lrp_model.specs.declared.relations.Row.{Row}
use Rattle.lrp_model.proofs.Decided.{contains_first, contains_later}
use Rattle.lrp_plan_laws.proofs.CoreLaws.{own_name}
use Rattle.lrp_plan_laws.proofs.HeadLaws.{other_name}
use Rattle.lrp_zone.proofs.Cases.{eq_or}
use Rattle.lrp_kept.specs.Keys.{keys_in, keys_of}
use Rattle.lrp_kept.specs.Held.{names_of, held_relation, relations_of, held_row}
use Rattle.lrp_kept.specs.Keyed.{AreRelisted, IsWithKeys}
use Rattle.lrp_keep.specs.Replaced.{replaced, with_rows}
use Rattle.lrp_kept.specs.declared.rows.HeldRelation.{HeldRelation}
use Rattle.lrp_kept.specs.declared.rows.HeldRows.{HeldRows}
use Rattle.lrp_kept.specs.declared.rows.HeldRow.{HeldRow}
use Rattle.lrp_holdings.proofs.Chained.{none_some, some_is}
use Rattle.lrp_model.proofs.Everywhere.{map_count}
use Rattle.lrp_keep.proofs.Lists.{at_mapped}

-- ---- rows under keys

abbrev pub rows_under : (ℕ → Option HeldRow) → List ℕ → List Row
rows_under sources keys = flat_map (λ key. held_row (sources key)) keys

pub rows_same : (s t : ℕ → Option HeldRow) (keys : List ℕ) → ((k : ℕ) → Contains keys k → s k ≡ t k) → rows_under s keys ≡ rows_under t keys
rows_same s t [] h = refl
rows_same s t (k ∷ keys) h = ap₂ (λ a b. a ++ b) (ap held_row (h k (contains_first k keys))) (rows_same s t keys (λ j i. h j (contains_later k j keys i)))

pub rows_both : (s : ℕ → Option HeldRow) (front back : List ℕ) → rows_under s (front ++ back) ≡ rows_under s front ++ rows_under s back
rows_both s [] back = refl
rows_both s (k ∷ front) back = ap (λ l. held_row (s k) ++ l) (rows_both s front back) ∙ sym (append_assoc (held_row (s k)) (rows_under s front) (rows_under s back))

-- ---- relations, one by one

-- two lists of relations that agree at each place
pub same_all : (rs ss : List Relation) → length ss ≡ length rs → ((i : ℕ) (r s : Relation) → slice_get rs i ≡ Some r → slice_get ss i ≡ Some s → s ≡ r) → ss ≡ rs
same_all [] [] e h = refl
same_all [] (s ∷ ss) e h = absurd (let l : suc (length ss) ≡ 0 = e in omega (arith, l))
same_all (r ∷ rs) [] e h = absurd (let l : 0 ≡ suc (length rs) = e in omega (arith, l))
same_all (r ∷ rs) (s ∷ ss) e h = ap₂ (λ a b. a ∷ b) (h 0 r s refl refl) (same_all rs ss (let l : suc (length ss) ≡ suc (length rs) = e in omega (arith, l)) (λ i x y p q. h (suc i) x y p q))

-- the same of names
same_names : (rs ss : List HeldRelation) → length ss ≡ length rs → ((i : ℕ) (r s : HeldRelation) → slice_get rs i ≡ Some r → slice_get ss i ≡ Some s → s.name ≡ r.name) → map (λ (r : HeldRelation). r.name) ss ≡ map (λ (r : HeldRelation). r.name) rs
same_names [] [] e h = refl
same_names [] (s ∷ ss) e h = absurd (let l : suc (length ss) ≡ 0 = e in omega (arith, l))
same_names (r ∷ rs) [] e h = absurd (let l : 0 ≡ suc (length rs) = e in omega (arith, l))
same_names (r ∷ rs) (s ∷ ss) e h = ap₂ (λ a b. a ∷ b) (h 0 r s refl refl) (same_names rs ss (let l : suc (length ss) ≡ suc (length rs) = e in omega (arith, l)) (λ i x y p q. h (suc i) x y p q))

-- names that differ stand at one place each
one_place : (rs : List HeldRelation) (i j : ℕ) (r s : HeldRelation) → AreDistinct (map (λ (h : HeldRelation). h.name) rs) → slice_get rs i ≡ Some r → slice_get rs j ≡ Some s → r.name ≡ s.name → i ≡ j
one_place [] i j r s d e f n = absurd (none_some r e)
one_place (h ∷ rs) zero zero r s d e f n = refl
one_place (h ∷ rs) zero (suc j) r s d e f n = absurd (later rs j s f d.0 (ap (λ (x : HeldRelation). x.name) (some_is h r e) ∙ n))
  where
    later : (xs : List HeldRelation) (k : ℕ) (x : HeldRelation) → slice_get xs k ≡ Some x → AllByRecursion (λ m. h.name ≢ m) (map (λ (y : HeldRelation). y.name) xs) → h.name ≡ x.name → ⊥
    later [] k x e all same = none_some x e
    later (y ∷ xs) zero x e all same = all.0 (same ∙ sym (ap (λ (z : HeldRelation). z.name) (some_is y x e)))
    later (y ∷ xs) (suc k) x e all same = later xs k x e all.1 same
one_place (h ∷ rs) (suc i) zero r s d e f n = absurd (later rs i r e d.0 (ap (λ (x : HeldRelation). x.name) (some_is h s f) ∙ sym n))
  where
    later : (xs : List HeldRelation) (k : ℕ) (x : HeldRelation) → slice_get xs k ≡ Some x → AllByRecursion (λ m. h.name ≢ m) (map (λ (y : HeldRelation). y.name) xs) → h.name ≡ x.name → ⊥
    later [] k x e all same = none_some x e
    later (y ∷ xs) zero x e all same = all.0 (same ∙ sym (ap (λ (z : HeldRelation). z.name) (some_is y x e)))
    later (y ∷ xs) (suc k) x e all same = later xs k x e all.1 same
one_place (h ∷ rs) (suc i) (suc j) r s d e f n = ap suc (one_place rs i j r s d.1 e f n)

module _ (old new : HeldRows) (number : ℕ) (keys : List ℕ) (x : AreRelisted number keys old.relations.items new.relations.items) where
  pub names_stay : names_of new ≡ names_of old
  names_stay = same_names old.relations.items new.relations.items x.count (λ i r s p q. elim (eq_or i number) [
    | inl e ↦
        let y = x.at r (ap (slice_get old.relations.items) (sym e) ∙ p) in
        ap (λ (z : HeldRelation). z.name) (some_is s y.0 (sym q ∙ ap (slice_get new.relations.items) e ∙ y.1)) ∙ y.2.name
    | inr n ↦ ap (λ (z : HeldRelation). z.name) (some_is s r (sym q ∙ x.rest i n ∙ p))
  ])

  -- the relation of the number has the rows under its new keys, and each other one its own
  module _ (own : HeldRelation) (at : slice_get old.relations.items number ≡ Some own) (distinct : AreDistinct (names_of old)) (others : (i k : ℕ) → i ≢ number → Contains (keys_of old i) k → get new.sources k ≡ get old.sources k) where
    abbrev rows : List Row
    rows = rows_under (get new.sources) keys

    abbrev now_of : HeldRelation → Relation
    now_of h = held_relation (get new.sources) h

    abbrev was_of : HeldRelation → Relation
    was_of h = held_relation (get old.sources) h

    abbrev as_relation : Identifier → List Column → List ℕ → Relation
    as_relation name columns ks = record { name = name; columns = columns; rows = rows_under (get new.sources) ks }

    fields : (a b : Identifier) (c d : List Column) (k l : List ℕ) → a ≡ b → c ≡ d → k ≡ l → as_relation a c k ≡ as_relation b d l
    fields a b c d k l e f g = ap (λ x. as_relation x c k) e ∙ ap (λ x. as_relation b x k) f ∙ ap (λ x. as_relation b d x) g

    -- the relation itself
    made : (y : HeldRelation) → IsWithKeys keys own y → now_of y ≡ with_rows rows own.name (was_of own)
    made y w = by (bytes_eq own.name own.name) (own_name own.name)
      where
        by : (b : Bool) → b ≡ true → now_of y ≡ (if b then record { name = own.name; columns = own.columns; rows = rows } else was_of own)
        by true t = fields y.name own.name y.columns own.columns y.keys.items keys w.name w.columns w.keys_are
        by false t = cc

    -- one of another name
    passed : (h : HeldRelation) → h.name ≢ own.name → with_rows rows own.name (was_of h) ≡ was_of h
    passed h n = by (bytes_eq h.name own.name) (other_name h.name own.name (λ e. n (sym e)))
      where
        by : (b : Bool) → b ≡ false → (if b then record { name = h.name; columns = h.columns; rows = rows } else was_of h) ≡ was_of h
        by true t = cc
        by false t = refl

    -- has the same rows
    kept : (i : ℕ) (h : HeldRelation) → i ≢ number → slice_get old.relations.items i ≡ Some h → now_of h ≡ was_of h
    kept i h n e = ap (λ l. record { name = h.name; columns = h.columns; rows = l }) (rows_same (get new.sources) (get old.sources) h.keys.items (λ k j. others i k n (subst (λ o. Contains (keys_in o) k) (sym e) j)))

    one : (i : ℕ) (r s : Relation) → slice_get (replaced (relations_of (get old.sources) old.relations.items) own.name rows) i ≡ Some r → slice_get (relations_of (get new.sources) new.relations.items) i ≡ Some s → s ≡ r
    one i r s p q =
        let a = at_mapped (with_rows rows own.name) (relations_of (get old.sources) old.relations.items) i r p in
        let b = at_mapped was_of old.relations.items i a.0 a.1 in
        let c = at_mapped now_of new.relations.items i s q in
        elim (eq_or i number) [
          | inl e ↦
              let here : b.0 ≡ own = some_is b.0 own (sym b.1 ∙ ap (slice_get old.relations.items) e ∙ at) in
              let y = x.at own at in
              let there : c.0 ≡ y.0 = some_is c.0 y.0 (sym c.1 ∙ ap (slice_get new.relations.items) e ∙ y.1) in
              sym c.2 ∙ ap now_of there ∙ made y.0 y.2 ∙ sym (ap (λ h. with_rows rows own.name (was_of h)) here) ∙ ap (with_rows rows own.name) b.2 ∙ a.2
          | inr n ↦
              let same : c.0 ≡ b.0 = some_is c.0 b.0 (sym c.1 ∙ x.rest i n ∙ b.1) in
              let differ : b.0.name ≢ own.name = λ e. n (one_place old.relations.items i number b.0 own distinct b.1 at e) in
              sym c.2 ∙ ap now_of same ∙ kept i b.0 n b.1 ∙ sym (passed b.0 differ) ∙ ap (with_rows rows own.name) b.2 ∙ a.2
        ]

    pub relations_now : relations_of (get new.sources) new.relations.items ≡ replaced (relations_of (get old.sources) old.relations.items) own.name rows
    relations_now = same_all (replaced (relations_of (get old.sources) old.relations.items) own.name rows) (relations_of (get new.sources) new.relations.items)
        (map_count now_of new.relations.items ∙ x.count ∙ sym (map_count was_of old.relations.items) ∙ sym (map_count (with_rows rows own.name) (relations_of (get old.sources) old.relations.items)))
        one
