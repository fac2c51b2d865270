-- Some part of some choice has too many cells just where one by keys has.
use Rattle.std.proofs.Common.{◌≡◌, ◌<◌, ◌≤◌, ◌-◌, ℕ, zero, suc, List, [], ◌∷◌, ◌++◌, length, take, Contains, Some, refl, sym, ap, subst, arith}
use Rattle.std.specs.List.{AllByRecursion, AllZip}
use Rattle.slab.specs.Slab.{get}
use Rattle.lrp_model.specs.Formulas.{Question}
use Rattle.lrp_model.specs.Rows.{rows_of}
use Rattle.lrp_model.specs.Texts.{AreDistinct}
use Rattle.lrp_model.specs.declared.relations.Relation.{Relation}
use Rattle.lrp_model.specs.declared.relations.Row.{Row}
use Rattle.lrp_plan_laws.specs.Atoms.{Atom, atoms}
use Rattle.lrp_kept.specs.Choices.{HasLargeChoicePart as HasLargeChoice, HasManyCells, listed_disjuncts}
use Rattle.lrp_kept.specs.Disjuncts.{AreDisjunctsOf, IsAtomOf, IsDisjunctOf}
use Rattle.lrp_kept.specs.Held.{names_of, relations_of}
use Rattle.lrp_kept.specs.Keyed.{AreHeldRows}
use Rattle.lrp_kept.specs.Keys.{keys_of}
use Rattle.lrp_kept.specs.declared.disjuncts.Disjunct.{Disjunct}
use Rattle.lrp_kept.specs.declared.disjuncts.JoinedAtom.{JoinedAtom}
use Rattle.lrp_kept.specs.declared.rows.HeldRows.{HeldRows}
use Rattle.lrp_kept.specs.declared.rows.HeldRow.{HeldRow}
use Rattle.lrp_parts.specs.Derivations.{AreHeldAfter, AreKeysFor, Ground, HasManyKeyedCells, HasRow, Levels}
use Rattle.lrp_parts.proofs.KeyedRows.{key_of_row, rows_at, rows_under_keys}
use Rattle.lrp_parts.proofs.LargeParts.{AreUnder, many_of_keys, many_of_rows}
use Rattle.lrp_keep.specs.States.{HasSomeLargePart}
use Rattle.lrp_keep.specs.Unions.{AreDerived}
use Rattle.lrp_keep.proofs.KeptAnswers.{zip_at}
use Rattle.lrp_keep.proofs.Lists.{zip_of}
use Rattle.lrp_plan_laws.proofs.Elements.{found, within}
use Rattle.lrp_keep.proofs.Readable.{zip_count}

-- ---- keys

few_keys : (rows : HeldRows) (js : List JoinedAtom) (keys : List ℕ) → AreKeysFor rows js keys → length keys ≤ length js
few_keys rows js [] k = omega arith
few_keys rows [] (key ∷ keys) k = absurd k
few_keys rows (j ∷ js) (key ∷ keys) k = let l : length keys ≤ length js = few_keys rows js keys k.1 in omega (arith, l)

-- the first keys with one for each further atom
completed_keys : (g : Ground) (js : List JoinedAtom) (keys : List ℕ) → AreKeysFor g.rows js keys → AllByRecursion (HasRow g) js → (rest : List ℕ) × AreKeysFor g.rows js (keys ++ rest) × (length (keys ++ rest) ≡ length js)
completed_keys g [] [] k h = ([], tt, refl)
completed_keys g [] (key ∷ keys) k h = absurd k
completed_keys g (j ∷ js) [] k h = let r = completed_keys g js [] tt h.1 in (h.0.0 ∷ r.0, (h.0.1, r.1), ap suc r.2)
completed_keys g (j ∷ js) (key ∷ keys) k h = let r = completed_keys g js keys k.1 h.1 in (r.0, (k.0, r.1), ap suc r.2)

first_keys : (rows : HeldRows) (js : List JoinedAtom) (keys : List ℕ) (n : ℕ) → AreKeysFor rows js keys → AreKeysFor rows js (take n keys)
first_keys rows js keys zero k = tt
first_keys rows js [] (suc n) k = tt
first_keys rows [] (key ∷ keys) (suc n) k = absurd k
first_keys rows (j ∷ js) (key ∷ keys) (suc n) k = (k.0, first_keys rows js keys n k.1)

whole_keys : (g : Ground) (js : List JoinedAtom) (keys : List ℕ) → AreKeysFor g.rows js keys → length keys ≡ length js → AllByRecursion (HasRow g) js
whole_keys g [] keys k e = tt
whole_keys g (j ∷ js) [] k e = absurd (let l : 0 ≡ suc (length js) = e in omega (arith, l))
whole_keys g (j ∷ js) (key ∷ keys) k e = ((key, k.0), whole_keys g js keys k.1 (let l : suc (length keys) ≡ suc (length js) = e in omega (arith, l)))

-- ---- first elements

zip_front : {X Y : Type 0} (R : X → Y → Type 0) (xs more : List X) (ys : List Y) → AllZip R (xs ++ more) ys → AllZip R xs (take (length xs) ys)
zip_front R [] more ys z = tt
zip_front R (x ∷ xs) more [] z = absurd z
zip_front R (x ∷ xs) more (y ∷ ys) z = (z.0, zip_front R xs more ys z.1)

zip_first : {X Y : Type 0} (R : X → Y → Type 0) (n : ℕ) (xs : List X) (ys : List Y) → AllZip R xs ys → AllZip R (take n xs) (take n ys)
zip_first R zero xs ys z = tt
zip_first R (suc n) [] [] z = tt
zip_first R (suc n) [] (y ∷ ys) z = absurd z
zip_first R (suc n) (x ∷ xs) [] z = absurd z
zip_first R (suc n) (x ∷ xs) (y ∷ ys) z = (z.0, zip_first R n xs ys z.1)

first_size : {X : Type 0} (n : ℕ) (xs : List X) → n ≤ length xs → length (take n xs) ≡ n
first_size zero xs l = refl
first_size (suc n) [] l = absurd (let k : suc n ≤ 0 = l in omega (arith, k))
first_size (suc n) (x ∷ xs) l = ap suc (first_size n xs (let k : suc n ≤ suc (length xs) = l in omega (arith, k)))

-- ---- rows and their keys

module _ (held : HeldRows) (distinct : AreDistinct (names_of held)) where
  abbrev db : List Relation
  db = relations_of (get held.sources) held.relations.items

  -- each row of a choice has a key
  keys_under : (all : List Atom) (js : List JoinedAtom) (rows : List Row) → AllZip (IsAtomOf (names_of held)) all js → AllZip (λ (a : Atom) row. Contains (rows_of db a.name) row) all rows → (keys : List ℕ) × AreKeysFor held js keys × (length keys ≡ length js) × AreUnder held keys rows
  keys_under [] [] [] z c = ([], tt, refl, tt)
  keys_under [] [] (row ∷ rows) z c = absurd c
  keys_under [] (j ∷ js) rows z c = absurd z
  keys_under (a ∷ all) [] rows z c = absurd z
  keys_under (a ∷ all) (j ∷ js) [] z c = absurd c
  keys_under (a ∷ all) (j ∷ js) (row ∷ rows) z c =
      let k = key_of_row (get held.sources) (keys_of held j.relation) row (subst (λ l. Contains l row) (rows_at held distinct a j z.0) c.0) in
      let r = keys_under all js rows z.1 c.1 in
      (k.0 ∷ r.0, (k.2, r.1), ap suc r.2, ((k.1, k.3, k.4), r.3))

module _ (g : Ground) (q : Question) (ds : List Disjunct) (are : AreDisjunctsOf (names_of g.rows) q ds) (distinct : AreDistinct (names_of g.rows)) (held : AreHeldRows g.rows) where
  abbrev relations : List Relation
  relations = relations_of (get g.rows.sources) g.rows.relations.items

  under_key : (i key : ℕ) → Contains (keys_of g.rows i) key → (source : HeldRow) × (get g.rows.sources key ≡ Some source)
  under_key i key c = let s = held.there i key c in (s.source, s.held)

  pub large_choice : HasSomeLargePart g ds → HasLargeChoice relations q g.domain g.period g.cap
  large_choice h =
      let d = h.disjunct in
      let z = zip_of (IsDisjunctOf (names_of g.rows)) (listed_disjuncts q) ds d are.each h.listed in
      let f = z.0 in
      let is = z.2 in
      let keys = h.large.large.more in
      let low : 0 < length keys = h.large.large.some in
      let k = h.large.large.rows in
      let more = completed_keys g d.atoms.items keys k h.large.choices in
      let r = rows_under_keys g.rows distinct (atoms f) d.atoms.items (keys ++ more.0) is.atoms_are more.1 more.2 under_key in
      let few : length keys ≤ length d.atoms.items = few_keys g.rows d.atoms.items keys k in
      let same : length d.atoms.items ≡ length (atoms f) = zip_count (IsAtomOf (names_of g.rows)) (atoms f) d.atoms.items is.atoms_are in
      let many_rows : length r.0 ≡ length (atoms f) = zip_count (λ (a : Atom) row. Contains (rows_of relations a.name) row) (atoms f) r.0 r.1 in
      let last = found d.atoms.items (length keys - 1) (omega (arith, low, few)) in
      record {
        disjunct = f;
        listed = z.1;
        rows = r.0;
        choice = r.1;
        count = length keys;
        low = low;
        high = omega (arith, few, same, many_rows);
        many = many_of_keys g f d is keys r.0 low last.0 last.1 (zip_front _ keys more.0 r.0 r.2) (first_size (length keys) (atoms f) (omega (arith, few, same))) h.large.large.many;
      }

  pub no_large_choice : (all : List Levels) → AreDerived g ds all → HasLargeChoice relations q g.domain g.period g.cap → ⊥
  no_large_choice all derived h =
      let z = zip_at (IsDisjunctOf (names_of g.rows)) (listed_disjuncts q) ds h.disjunct are.each h.listed in
      let d = z.1 in
      let is = z.3 in
      let k = keys_under g.rows distinct (atoms h.disjunct) d.atoms.items h.rows is.atoms_are h.choice in
      let size : length h.rows ≡ length (atoms h.disjunct) = zip_count (λ (a : Atom) row. Contains (rows_of relations a.name) row) (atoms h.disjunct) h.rows h.choice in
      let joined : length d.atoms.items ≡ length (atoms h.disjunct) = zip_count (IsAtomOf (names_of g.rows)) (atoms h.disjunct) d.atoms.items is.atoms_are in
      let all_keys : length k.0 ≡ length d.atoms.items = k.2 in
      let high : h.count ≤ length h.rows = h.high in
      let low : 0 < h.count = h.low in
      let count : length (take h.count k.0) ≡ h.count = first_size h.count k.0 (omega (arith, high, size, joined, all_keys)) in
      let there = found all z.0 (let l : z.0 < length ds = within ds z.0 d z.2 in let n : length all ≡ length ds = derived.count in omega (arith, l, n)) in
      let last = found d.atoms.items (length (take h.count k.0) - 1) (omega (arith, count, low, high, size, joined)) in
      let under = subst (λ n. AreUnder g.rows (take h.count k.0) (take n h.rows)) (sym count) (zip_first _ h.count k.0 h.rows k.3) in
      let first : length (take (length (take h.count k.0)) (atoms h.disjunct)) ≡ length (take h.count k.0) = first_size (length (take h.count k.0)) (atoms h.disjunct) (omega (arith, count, high, size)) in
      let many : HasManyKeyedCells g d (take h.count k.0) =
      many_of_rows g h.disjunct d is (take h.count k.0) h.rows (omega (arith, count, low)) last.0 last.1 under first (subst (λ n. HasManyCells g.domain g.period g.cap h.disjunct h.rows n) (sym count) h.many) in
      by d there.0 (take h.count k.0) (omega (arith, count, low)) (first_keys g.rows d.atoms.items k.0 h.count k.1) many (λ key. (derived.each z.0 d there.0 z.2 there.1).whole (whole_keys g d.atoms.items k.0 k.1 k.2) key)
    where
      by : (d : Disjunct) (levels : Levels) (keys : List ℕ) → 0 < length keys → AreKeysFor g.rows d.atoms.items keys → HasManyKeyedCells g d keys → ((key : ℕ) → AreHeldAfter g d (key ∷ []) levels) → ⊥
      by d levels [] low rows many after = let l : 0 < 0 = low in omega (arith, l)
      by d levels (key ∷ keys) low rows many after = (after key).few keys rows many
