-- The first row that is equal to one, and rows under new keys and without old ones.
use Rattle.std.proofs.Common.{◌≡◌, ◌≢◌, ◌<◌, ◌≤◌, ◌+◌, inl, inr, ℕ, Bool, true, false, List, [], ◌∷◌, ◌++◌, length, get_or, Option, Some, None, refl, sym, ap, subst, ◌∙◌, arith}
use Rattle.std.specs.Prelude.{◌↔◌, Contains, IsTrue, MatchOption, slice_get}
use Rattle.std.proofs.lemmas.Bool.{true≢false}
use Rattle.std.proofs.lemmas.Option.{slice_get-get_or, slice_get_within}
use Rattle.slab.specs.Slab.{Slab, Updates, get}
use Rattle.lrp_model.specs.declared.relations.Row.{Row}
use Rattle.lrp_tables.proofs.Joining.{place_in}
use Rattle.lrp_zone.proofs.Cases.{eq_or}
use Rattle.lrp_kept.specs.EqualRows.{AreEqualRows}
use Rattle.lrp_kept.specs.Keys.{keys_at, keys_in, keys_of}
use Rattle.lrp_kept.specs.Keyed.{AreRelisted, AreSameRows, HasNoEqualRow, IsFirstEqual, IsHeldAfter, IsLetGoAt, IsUnlisted}
use Rattle.lrp_kept.specs.declared.rows.HeldRelation.{HeldRelation}
use Rattle.lrp_kept.specs.declared.rows.HeldRows.{HeldRows}
use Rattle.lrp_kept.specs.declared.rows.HeldRow.{HeldRow}
use Rattle.lrp_kept.proofs.Relisted.{same_listed}
use Rattle.lrp_kept.proofs.JoinedUp.{same_some}

-- ---- looking for an equal row

-- what a look at a key says
abbrev pub Says : Option HeldRow → Bool → Row → Type 0
Says o b row = MatchOption o (b ≡ false) (λ source. IsTrue b ↔ AreEqualRows source.row row)

there_is : (o : Option HeldRow) (b : Bool) (row : Row) → Says o b row → b ≡ true → (s : HeldRow) × (o ≡ Some s) × AreEqualRows s.row row
there_is None b row h e = absurd (true≢false (sym e ∙ h))
there_is (Some s) b row h e = (s, refl, h.0 e)

is_other : (o : Option HeldRow) (b : Bool) (row : Row) (s : HeldRow) → Says o b row → b ≡ false → o ≡ Some s → AreEqualRows s.row row → ⊥
is_other o b row s h e is equal = let t : Says (Some s) b row = subst (λ x. Says x b row) is h in true≢false (sym (t.1 equal) ∙ e)

-- none of the rows under the first so many keys is equal
abbrev pub HasNoneBefore : HeldRows → List ℕ → Row → ℕ → Type 0
HasNoneBefore rows keys row place = (i k : ℕ) (other : HeldRow) → i < place → slice_get keys i ≡ Some k → get rows.sources k ≡ Some other → AreEqualRows other.row row → ⊥

-- the keys of a relation
pub keys_are : (relations : List HeldRelation) (n : ℕ) (r : HeldRelation) → n < length relations → r ≡ get_or relations n r → keys_at relations n ≡ r.keys.items
keys_are relations n r low is = ap keys_in (slice_get-get_or relations n r low ∙ ap Some (sym is))

key_there : (keys : List ℕ) (place key : ℕ) → place < length keys → key ≡ get_or keys place key → slice_get keys place ≡ Some key
key_there keys place key low is = slice_get-get_or keys place key low ∙ ap Some (sym is)

pub first_equal : (rows : HeldRows) (relation : ℕ) (row : Row) (keys : List ℕ) (place key : ℕ) (b : Bool) → keys_of rows relation ≡ keys → place < length keys → key ≡ get_or keys place key → Says (get rows.sources key) b row → b ≡ true → HasNoneBefore rows keys row place → IsFirstEqual rows relation row place
first_equal rows relation row keys place key b are low is says e before =
    let s = there_is (get rows.sources key) b row says e in
    record {
      key = key;
      at = ap (λ ks. slice_get ks place) are ∙ key_there keys place key low is;
      source = s.0;
      held = s.1;
      equal = s.2;
      before = λ i k other lt at held. before i k other lt (ap (λ ks. slice_get ks i) (sym are) ∙ at) held;
    }

below : (k i : ℕ) → k < i + 1 → k ≢ i → k < i
below k i lt other = grind (arith, lt, other)

pub none_more : (rows : HeldRows) (row : Row) (keys : List ℕ) (place key : ℕ) (b : Bool) → place < length keys → key ≡ get_or keys place key → Says (get rows.sources key) b row → b ≡ false → HasNoneBefore rows keys row place → HasNoneBefore rows keys row (place + 1)
none_more rows row keys place key b low is says e before i k other lt at held = elim (eq_or i place) [
  | inl same ↦
      let here : key ≡ k = same_some key k (sym (key_there keys place key low is) ∙ ap (λ j. slice_get keys j) (sym same) ∙ at) in
      is_other (get rows.sources key) b row other says e (ap (get rows.sources) here ∙ held)
  | inr d ↦ before i k other (below i place lt d) at held
]

pub none_equal : (rows : HeldRows) (relation : ℕ) (row : Row) (keys : List ℕ) (place : ℕ) → keys_of rows relation ≡ keys → length keys ≤ place → HasNoneBefore rows keys row place → HasNoEqualRow rows relation row
none_equal rows relation row keys place are past before = record {
  none = λ key source c held.
      let p = place_in keys key (subst (λ ks. Contains ks key) are c) in
      let low : p.0 < length keys = slice_get_within keys p.0 key p.1 in
      before p.0 key source (omega (arith, low, past)) p.1 held;
}

-- ---- a row more, and a row less

pub held_after : (source : HeldRow) (key : ℕ) (old new : HeldRows) → get old.sources key ≡ None → Updates old.sources new.sources key (Some source)
    → AreRelisted source.relation (keys_at old.relations.items source.relation ++ key ∷ []) old.relations.items new.relations.items → IsHeldAfter source key old new
held_after source key old new free put listed = record { free = free; there = put.changed; others = put.others; listed = listed }

-- nothing was held
pub same_slots : (old : HeldRows) (sources : Slab HeldRow) (relation : ℕ) → sources ≡ record old.sources { capacity = sources.capacity } → AreSameRows old (record { relations = old.relations; sources = sources })
same_slots old sources relation same = record { sources = λ k. ap (λ s. get s k) same; relation = relation; listed = same_listed old.relations.items relation }

-- what was held is gone again
pub gone_again : (source : HeldRow) (key : ℕ) (old between new : HeldRows) → get old.sources key ≡ None → Updates old.sources between.sources key (Some source) → Updates between.sources new.sources key None
    → AreRelisted source.relation (keys_at old.relations.items source.relation) old.relations.items new.relations.items → AreSameRows old new
gone_again source key old between new free put gone listed = record {
  sources = λ k. elim (eq_or k key) [ inl e ↦ ap (get new.sources) e ∙ gone.changed ∙ sym free ∙ ap (get old.sources) (sym e) | inr d ↦ gone.others k d ∙ put.others k d ];
  relation = source.relation;
  listed = listed;
}

pub let_go_at : (relation place key : ℕ) (old new : HeldRows) → IsUnlisted relation place key old.relations.items new.relations.items → Updates old.sources new.sources key None → IsLetGoAt relation place key old new
let_go_at relation place key old new w gone = record { front = w.front; back = w.back; were = w.were; size = w.size; gone = gone.changed; others = gone.others; listed = w.listed }
