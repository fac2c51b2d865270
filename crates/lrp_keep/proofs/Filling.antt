-- The rows of a database are held one after the other.
use Rattle.std.proofs.Common.{◌≡◌, ◌≢◌, ◌<◌, ◌+◌, ℕ, List, [], ◌∷◌, ◌++◌, length, Contains, Some, inl, inr, refl, sym, ap, ap₂, subst, ◌∙◌, append-nil, append_assoc, arith}
use Rattle.std.specs.Prelude.{slice_get}
use Rattle.slab.specs.Slab.{get}
use Rattle.lrp_model.specs.declared.relations.Relation.{Relation}
use Rattle.lrp_model.specs.declared.relations.Row.{Row}
use Rattle.lrp_model.proofs.Decided.{cons_cases}
use Rattle.lrp_plan_laws.proofs.Members.{in_one, in_right}
use Rattle.lrp_zone.proofs.Cases.{eq_or}
use Rattle.lrp_kept.specs.Held.{held_row}
use Rattle.lrp_kept.specs.Keyed.{AreHeldRows, AreRelisted, IsHeldAfter}
use Rattle.lrp_kept.specs.Keys.{keys_in, keys_of}
use Rattle.lrp_kept.specs.declared.rows.HeldRows.{HeldRows}
use Rattle.lrp_kept.specs.declared.rows.HeldRow.{HeldRow}
use Rattle.lrp_parts.proofs.Rekeyed.{held_rows, keys_here, keys_there}
use Rattle.lrp_keep.specs.States.{AreAllHeld, AreHeldAlso}
use Rattle.lrp_kept.specs.Sketches.{AreSketchesOf}
use Rattle.lrp_keep.specs.declared.kept_query.KeptQuery.{KeptQuery}
use Rattle.lrp_keep.proofs.Alike.{keys_at, relisted_same, relisted_twice}
use Rattle.lrp_keep.proofs.Views.{rows_both, rows_same, rows_under}
use Rattle.lrp_holdings.proofs.Chained.{none_some, some_is}

-- ---- the rows of one relation

pub none_also : (of : KeptQuery) (number : ℕ) (rows : HeldRows) → AreHeldRows rows → AreHeldAlso of number [] rows rows
none_also of number rows held = record {
  held = held;
  keys = [];
  listed = subst (λ l. AreRelisted number l rows.relations.items rows.relations.items) (sym (append-nil (keys_of rows number))) (relisted_same number rows);
  under = refl;
  others = λ i k c. refl;
  sketched = λ k c. absurd (let l : c.0 < 0 = c.1 in omega (arith, l));
}

module _ (of : KeptQuery) (number : ℕ) (all : List Row) (old mid new : HeldRows) (low : number < length old.relations.items) (was : AreHeldRows old) (a : AreHeldAlso of number all old mid) (source : HeldRow) (key : ℕ) (row : Row) (relation_is : source.relation ≡ number) (row_is : source.row ≡ row)
    (sketches : AreSketchesOf of.domain of.disjuncts.items number row source.sketches.items) (w : IsHeldAfter source key mid new) where
  low_mid : source.relation < length mid.relations.items
  low_mid = let n : length mid.relations.items ≡ length old.relations.items = a.listed.count in let e : source.relation ≡ number = relation_is in omega (arith, low, n, e)

  keys_mid : keys_of mid number ≡ keys_of old number ++ a.keys
  keys_mid = keys_here number (keys_of old number ++ a.keys) old mid a.listed low

  listed_new : AreRelisted number (keys_of mid number ++ key ∷ []) mid.relations.items new.relations.items
  listed_new = subst (λ n. AreRelisted n (keys_of mid n ++ key ∷ []) mid.relations.items new.relations.items) relation_is w.listed

  -- the key is none of the keys before
  is_other : (i k : ℕ) → Contains (keys_of mid i) k → k ≢ key
  is_other i k c e = let s = a.held.there i k c in none_some s.source (sym w.free ∙ sym (ap (get mid.sources) e) ∙ s.held)

  listed_mid : (k : ℕ) → Contains a.keys k → Contains (keys_of mid number) k
  listed_mid k c = subst (λ l. Contains l k) (sym keys_mid) (in_right (keys_of old number) a.keys k c)

  pub one_also : AreHeldAlso of number (all ++ row ∷ []) old new
  one_also = record {
    held = held_rows source key mid new low_mid a.held w;
    keys = a.keys ++ key ∷ [];
    listed = subst (λ l. AreRelisted number l old.relations.items new.relations.items) (ap (λ l. l ++ key ∷ []) keys_mid ∙ append_assoc (keys_of old number) a.keys (key ∷ [])) (relisted_twice number (keys_of old number ++ a.keys) (keys_of mid number ++ key ∷ []) old.relations.items mid.relations.items new.relations.items a.listed listed_new);
    under =
        let front : rows_under (get new.sources) a.keys ≡ all = rows_same (get new.sources) (get mid.sources) a.keys (λ k c. w.others k (is_other number k (listed_mid k c))) ∙ a.under in
        let back : rows_under (get new.sources) (key ∷ []) ≡ row ∷ [] = append-nil (held_row (get new.sources key)) ∙ ap held_row w.there ∙ ap (λ r. r ∷ []) row_is in
        rows_both (get new.sources) a.keys (key ∷ []) ∙ ap₂ (λ x y. x ++ y) front back;
    others = λ i k c. w.others k (λ e.
        let s = was.there i k c in
        none_some s.source (sym w.free ∙ sym (ap (get mid.sources) e) ∙ a.others i k c ∙ s.held)) ∙ a.others i k c;
    sketched = λ k c. elim (in_one a.keys (key ∷ []) k c) [
      | inl d ↦
          let x = a.sketched k d in
          record { source = x.source; is = w.others k (is_other number k (listed_mid k d)) ∙ x.is; sketches = x.sketches }
      | inr d ↦ elim (cons_cases key k [] d) [
        | inl e ↦ record { source = source; is = ap (get new.sources) (sym e) ∙ w.there; sketches = subst (λ r. AreSketchesOf of.domain of.disjuncts.items number r source.sketches.items) (sym row_is) sketches }
        | inr none ↦ absurd (let l : none.0 < 0 = none.1 in omega (arith, l))
      ]
    ];
  }

-- ---- the rows of all relations

pub none_held : (of : KeptQuery) (db : List Relation) (rows : HeldRows) → AreHeldRows rows → ((i : ℕ) → keys_of rows i ≡ []) → AreAllHeld of db 0 rows rows
none_held of db rows held none = record {
  held = held;
  count = refl;
  rest = λ i l. refl;
  at = λ i h r l. absurd (omega (arith, l));
  sketched = λ i k c. absurd (let d : Contains [] k = subst (λ l. Contains l k) (none i) c in let l : d.0 < 0 = d.1 in omega (arith, l));
}

module _ (of : KeptQuery) (db : List Relation) (number : ℕ) (relation : Relation) (old mid new : HeldRows) (there : slice_get db number ≡ Some relation) (none : (i : ℕ) → keys_of old i ≡ []) (low : number < length old.relations.items) (a : AreAllHeld of db number old mid) (b : AreHeldAlso of number relation.rows mid new) where
  low_there : number < length mid.relations.items
  low_there = let n : length mid.relations.items ≡ length old.relations.items = a.count in omega (arith, low, n)

  none_mid : keys_of mid number ≡ []
  none_mid = ap keys_in (a.rest number (omega arith)) ∙ none number

  keys_new : keys_of new number ≡ b.keys
  keys_new = keys_here number (keys_of mid number ++ b.keys) mid new b.listed low_there ∙ ap (λ l. l ++ b.keys) none_mid

  pub one_held : AreAllHeld of db (number + 1) old new
  one_held = record {
    held = b.held;
    count = b.listed.count ∙ a.count;
    rest = λ i l. b.listed.rest i (λ e. omega (arith, l, e)) ∙ a.rest i (omega (arith, l));
    at = λ i h r l was is. elim (eq_or i number) [
      | inl e ↦
          let h_mid : slice_get mid.relations.items number ≡ Some h = ap (slice_get mid.relations.items) (sym e) ∙ a.rest i (let s : i ≡ number = e in omega (arith, s)) ∙ was in
          let s = b.listed.at h h_mid in
          let same : r ≡ relation = some_is r relation (sym is ∙ ap (slice_get db) e ∙ there) in (
            s.0,
            ap (slice_get new.relations.items) e ∙ s.1,
            record {
              name = s.2.name;
              columns = s.2.columns;
              most = s.2.most;
              under = ap (rows_under (get new.sources)) (s.2.keys_are ∙ ap (λ l. l ++ b.keys) none_mid) ∙ b.under ∙ ap (λ (x : Relation). x.rows) (sym same);
            },
          )
      | inr n ↦
          let x = a.at i h r (omega (arith, l, n)) was is in
          let here : keys_of mid i ≡ x.0.keys.items = keys_at mid i x.0 x.1 in (
            x.0,
            b.listed.rest i n ∙ x.1,
            record {
              name = x.2.name;
              columns = x.2.columns;
              most = x.2.most;
              under = rows_same (get new.sources) (get mid.sources) x.0.keys.items (λ k c. b.others i k (subst (λ l. Contains l k) (sym here) c)) ∙ x.2.under;
            },
          )
    ];
    sketched = λ i k c. elim (eq_or i number) [
      | inl e ↦
          let d : Contains b.keys k = subst (λ l. Contains l k) keys_new (subst (λ n. Contains (keys_of new n) k) e c) in
          let x = b.sketched k d in
          record { source = x.source; is = x.is; sketches = subst (λ n. AreSketchesOf of.domain of.disjuncts.items n x.source.row x.source.sketches.items) (sym e) x.sketches }
      | inr n ↦
          let d : Contains (keys_of mid i) k = subst (λ l. Contains l k) (keys_there number (keys_of mid number ++ b.keys) mid new b.listed i n) c in
          let x = a.sketched i k d in
          record { source = x.source; is = b.others i k d ∙ x.is; sketches = x.sketches }
    ];
  }
