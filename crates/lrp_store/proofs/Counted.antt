-- When a set inhabits more cells than a cap allows.
use Rattle.std.proofs.Common.{◌≡◌, ◌≢◌, ℕ, zero, suc, ◌+◌, ◌<◌, ◌≤◌, inl, inr, List, [], ◌∷◌, length, take, Option, Some, None, Bool, true, false, cond, IsSome, refl, sym, ap, subst, ◌∙◌, arith, unwrap_or, Contains, get_or}
use Rattle.std.specs.Prelude.{ℤ, pos, AllPairs, is_some, ◌||◌, ◌-ℤ◌, ◌<ℤ◌, ◌≤ℤ◌}
use Rattle.std.specs.List.{AllByRecursion, list_any}
use Rattle.std.specs.Map.{lookup}
use Rattle.std.specs.Ordering.{eq_by_cmp}
use Rattle.std.specs.Cmp.{eq_by_cmp_equiv}
use Rattle.std.specs.FinMap.{get, len, keys, entries, find, get-entries, len-entries, contains_key-keys}
use Rattle.std.specs.Bool.{Decides}
use Rattle.std.proofs.lemmas.Bool.{cases_lt, or_cases}
use Rattle.std.proofs.lemmas.List.Elements.{Contains-get_or}
use Rattle.std.proofs.lemmas.List.Kept.{AllPairs-cons}
use Rattle.std.proofs.lemmas.Int.{ints}
use Rattle.std.proofs.lemmas.List.{length-map, length-take-le, ext_get_or, get_or-take}
use Rattle.std.proofs.lemmas.Map.Steps.{length-le_from_keys}
use Rattle.std.proofs.lemmas.Map.Made.{IsDistinct-from_AllPairs, AllPairs-from_IsDistinct}
use Rattle.std.proofs.lemmas.Map.Keys.{IsDistinct-from_sorted}
use Rattle.lrp_theory.specs.Divides.{Divides}
use Rattle.lrp_theory.specs.Entries.{node}
use Rattle.lrp_theory.proofs.Modulo.{Divides--, Divides-is, small_multiple}
use Rattle.lrp_model.specs.declared.tuples.Cell.{Cell}
use Rattle.lrp_model.specs.declared.tuples.Shape.{Shape}
use Rattle.lrp_slots.specs.Lists.{cell_cmp}
use Rattle.lrp_slots.proofs.Tables.{cells_total, same_cell}
use Rattle.lrp_slots.proofs.Copying.{keys_ascend}
use Rattle.lrp_zone.specs.Zones.{IsResidue}
use Rattle.lrp_store.specs.Stores.{StoreView, IsStore, IsCellOf, IsPadded, InStore, IsInhabitedCell, LiesInCell, tables_at}
use Rattle.lrp_store.specs.Growing.{IsWhole, HasOneMore, InhabitsMany}
use Rattle.lrp_store.proofs.Held.{Table, cell_or, node_take, held_of, zone_held, cell_held}
use Rattle.lrp_store.proofs.Grown.{Set}

-- two residues of one number are the same
same_residue : (k : ℕ) (x r t : ℤ) → IsResidue k r → IsResidue k t → Divides (pos k) (x -ℤ r) → Divides (pos k) (x -ℤ t) → r ≡ t
same_residue k x r t ir it dr dt =
    let rl : pos 0 ≤ℤ r = ir.low in
    let rh : r <ℤ pos k = ir.high in
    let tl : pos 0 ≤ℤ t = it.low in
    let th : t <ℤ pos k = it.high in
    let z : r -ℤ t ≡ pos 0 = small_multiple k (r -ℤ t) (Divides-is (pos k) ((x -ℤ t) -ℤ (x -ℤ r)) (r -ℤ t) (omega (arith, ints)) (Divides-- (pos k) _ _ dt dr)) (omega (arith, ints)) (omega (arith, ints)) in
    omega (arith, ints)

-- padded values that agree up to their number are the same
same_padded : {X : Type 0} (nought : X) (n : ℕ) (xs ys : List X) → IsPadded nought n xs → IsPadded nought n ys → ((i : ℕ) → i < n → get_or xs i nought ≡ get_or ys i nought) → xs ≡ ys
same_padded nought n xs ys p q same = ext_get_or nought xs ys (p.size ∙ sym q.size) (λ i h. elim (cases_lt i n) [
  | inl less ↦ same i less
  | inr more ↦ p.zeros i more ∙ sym (q.zeros i more)
])

-- a tuple lies in one cell only
pub one_cell : (shape : Shape) (k : ℕ) (c d : Cell) (xs : List ℤ) (ns : List ℕ) → IsCellOf shape k c → IsCellOf shape k d → LiesInCell shape k c xs ns → LiesInCell shape k d xs ns → c ≡ d
one_cell shape k c d xs ns pc pd lc ld =
    let texts : c.texts ≡ d.texts = same_padded 0 shape.texts c.texts d.texts pc.texts pd.texts (λ i h. sym (get_or-take shape.texts c.texts i 0 h) ∙ ap (λ ms. get_or ms i 0) (lc.named ∙ sym ld.named) ∙ get_or-take shape.texts d.texts i 0 h) in
    let residues : c.residues ≡ d.residues = same_padded (pos 0) shape.times c.residues d.residues pc.residues pd.residues (λ i h.
    same_residue k (node xs (suc i)) (node c.residues (suc i)) (node d.residues (suc i)) (pc.range (suc i) (omega arith)) (pd.range (suc i) (omega arith)) (lc.residues (suc i) (omega arith)) (ld.residues (suc i) (omega arith))) in
    ap (λ ms. record { texts = ms; residues = c.residues }) texts ∙ ap (λ rs. record { texts = d.texts; residues = rs }) residues

module _ (s : StoreView) (is : IsStore s) where
  -- a tuple that is held lies in the cell of its zone
  pub lies_in : (xs : List ℤ) (ns : List ℕ) → (h : InStore s xs ns) → LiesInCell s.shape s.period h.cell xs ns
  lies_in xs ns h =
      let proper = cell_held s is h.cell h.table h.held in
      let columns : length (take s.shape.times h.cell.residues) ≡ s.shape.times =
      length-take-le s.shape.times h.cell.residues (let t : s.shape.times ≤ 8 = is.times in let l : length h.cell.residues ≡ 8 = proper.residues.size in omega arith) in
      record {
        count = h.inside.cell.count ∙ columns;
        residues = λ i low. subst (λ r. Divides (pos s.period) (node xs i -ℤ r)) (node_take s.shape.times h.cell.residues i low) (h.inside.cell.each i (omega arith));
        named = h.named;
      }

  -- a held cell is inhabited by what the store holds
  pub held_inhabited : (set : Set) → ((xs : List ℤ) (ns : List ℕ) → InStore s xs ns → set xs ns) → (c : Cell) (t : Table) → Contains (tables_at s c) t → IsInhabitedCell s.shape s.period set c
  held_inhabited set sound c t h =
      let some = (zone_held s is c t h).some in
      let in_store : InStore s some.member (take s.shape.texts c.texts) = record { cell = c; table = t; held = h; named = refl; inside = some.is } in
      record {
        proper = cell_held s is c t h;
        times = some.member;
        texts = take s.shape.texts c.texts;
        is = sound some.member (take s.shape.texts c.texts) in_store;
        inside = lies_in some.member (take s.shape.texts c.texts) in_store;
      }

  -- a cell that is inhabited by what the store holds is held
  pub inhabited_held : (set : Set) → IsWhole set s → (c : Cell) → IsInhabitedCell s.shape s.period set c → IsSome (get s.tables c)
  inhabited_held set whole c i =
      let h = whole.each i.times i.texts i.is in
      let e : h.cell ≡ c = one_cell s.shape s.period h.cell c i.times i.texts (cell_held s is h.cell h.table h.held) i.proper (lies_in i.times i.texts h) i.inside in
      subst (λ d. IsSome (get s.tables d)) e (subst (λ o. IsSome o) (sym (held_of s.tables h.cell h.table h.held)) refl)

-- the order of cells tells equal ones
decided : (c d : Cell) → Decides (eq_by_cmp cell_cmp c d) (c ≡ d)
decided c d = elim (cell_or c d) [
  | inl e ↦ (λ is. e.0, λ is. e.1)
  | inr e ↦ (λ is. same_cell c d is, λ is. absurd (e.0 is))
]

-- what holds of each element of a list
all_listed : (P : Cell → Type 0) (cs : List Cell) → ((c : Cell) → Contains cs c → P c) → AllByRecursion P cs
all_listed P [] each = tt
all_listed P (c ∷ cs) each = (each c (0, omega arith, refl), all_listed P cs (λ d h. let l : h.0 < length cs = h.1 in each d (suc h.0, omega arith, h.2)))

-- holds of a cell that is found in it
one_of_all : (P : Cell → Type 0) (cs : List Cell) (c : Cell) → AllByRecursion P cs → list_any (eq_by_cmp cell_cmp c) cs ≡ true → P c
one_of_all P [] c all h = absurd (nothing h)
  where
    nothing : false ≡ true → ⊥
    nothing e = cc
one_of_all P (d ∷ cs) c all h = elim (or_cases (eq_by_cmp cell_cmp c d) _ h) [
  | inl e ↦ subst P (sym (same_cell c d e)) all.0
  | inr e ↦ one_of_all P cs c all.1 e
]

-- the two ways to look a cell up are one
find_is : (es : List (Cell × List Table)) (c : Cell) → find cell_cmp c es ≡ lookup (eq_by_cmp cell_cmp c) es
find_is [] c = refl
find_is (e ∷ es) c = ap (cond (eq_by_cmp cell_cmp c e.0) (Some e.1)) (find_is es c)

-- what the front of a list has, the list has
Contains-take : {X : Type 0} (n : ℕ) (xs : List X) (x : X) → Contains (take n xs) x → Contains xs x
Contains-take zero xs x h = let l : h.0 < 0 = h.1 in absurd (omega arith)
Contains-take (suc n) [] x h = h
Contains-take (suc n) (y ∷ xs) x (zero, l, e) = (0, omega arith, e)
Contains-take (suc n) (y ∷ xs) x (suc k, l, e) = let h = Contains-take n xs x (k, omega arith, e) in let m : h.0 < length xs = h.1 in (suc h.0, omega arith, h.2)

-- what holds of all pairs holds of those of the front
AllPairs-take : {X : Type 0} (R : X → X → Type 0) (n : ℕ) (xs : List X) → AllPairs R xs → AllPairs R (take n xs)
AllPairs-take R n xs pairs i j d low high =
    let l : length (take n xs) ≤ n = length-take-below n xs in
    let m : length (take n xs) ≤ length xs = length-take-within n xs in
    subst (λ x. R x (get_or (take n xs) j d)) (sym (get_or-take n xs i d (omega arith))) (subst (λ y. R (get_or xs i d) y) (sym (get_or-take n xs j d (omega arith))) (pairs i j d low (omega arith)))
  where
    length-take-below : {X : Type 0} (n : ℕ) (xs : List X) → length (take n xs) ≤ n
    length-take-below zero xs = omega arith
    length-take-below (suc n) [] = omega arith
    length-take-below (suc n) (x ∷ xs) = let h : length (take n xs) ≤ n = length-take-below n xs in omega arith

    length-take-within : {X : Type 0} (n : ℕ) (xs : List X) → length (take n xs) ≤ length xs
    length-take-within zero xs = omega arith
    length-take-within (suc n) [] = omega arith
    length-take-within (suc n) (x ∷ xs) = let h : length (take n xs) ≤ length xs = length-take-within n xs in omega arith

-- a cell of a list is found in it
any_of : (cs : List Cell) (c : Cell) → Contains cs c → list_any (eq_by_cmp cell_cmp c) cs ≡ true
any_of [] c h = let l : h.0 < 0 = h.1 in absurd (omega arith)
any_of (d ∷ cs) c (zero, l, e) = ap (λ b. b || list_any (eq_by_cmp cell_cmp c) cs) ((decided c d).1 (sym e))
any_of (d ∷ cs) c (suc k, l, e) = or_true (eq_by_cmp cell_cmp c d) _ (any_of cs c (k, omega arith, e))
  where
    or_true : (a b : Bool) → b ≡ true → (a || b) ≡ true
    or_true true b h = refl
    or_true false b h = h

-- where there is a value, it is this
some_of : {X : Type 0} (o : Option X) → is_some o ≡ true → (x : X) × (o ≡ Some x)
some_of None h = absurd (nothing h)
  where
    nothing : false ≡ true → ⊥
    nothing e = cc
some_of (Some x) h = (x, refl)

-- a list that is not empty has an element
pub first_of : {X : Type 0} (xs : List X) → xs ≢ [] → (x : X) × Contains xs x
first_of [] some = absurd (some refl)
first_of (x ∷ xs) some = (x, (0, omega arith, refl))

module _ (s : StoreView) (is : IsStore s) (set : Set) (cap : ℕ) where
  -- a cell among the keys is held
  pub key_held : (c : Cell) → Contains (keys s.tables) c → (list : List Table) × (get s.tables c ≡ Some list)
  key_held c h = some_of (get s.tables c) (contains_key-keys s.tables c ∙ any_of (keys s.tables) c h)

  -- a cell among the keys is inhabited
  key_inhabited : ((xs : List ℤ) (ns : List ℕ) → InStore s xs ns → set xs ns) → (c : Cell) → Contains (keys s.tables) c → IsInhabitedCell s.shape s.period set c
  key_inhabited sound c h =
      let list = key_held c h in
      let table = first_of list.0 (is.cells c list.0 list.1).some in
      held_inhabited s is set sound c table.0 (subst (λ l. Contains l table.0) (sym (ap (λ o. unwrap_or o []) list.1)) table.1)

  -- a cell that is not held is none of the keys
  not_key : (c : Cell) → get s.tables c ≡ None → (k : ℕ) (d : Cell) → k < length (take cap (keys s.tables)) → c ≢ get_or (take cap (keys s.tables)) k d
  not_key c none k d low e =
      let list = key_held c (Contains-take cap (keys s.tables) c (subst (λ x. Contains (take cap (keys s.tables)) x) (sym e) (Contains-get_or (take cap (keys s.tables)) k d low))) in
      none_some list.0 (sym none ∙ list.1)
    where
      none_some : (list : List Table) → None ≡ Some list → ⊥
      none_some list e = cc

  -- one cell too many for what the store holds: the set inhabits more than cap cells
  pub many : ((xs : List ℤ) (ns : List ℕ) → InStore s xs ns → set xs ns) → HasOneMore set cap s → InhabitsMany s.shape s.period set cap
  many sound more = record {
    cells = more.cell ∷ take cap (keys s.tables);
    count = let l : length (take cap (keys s.tables)) ≡ cap = length-take-le cap (keys s.tables) (subst (λ n. cap ≤ n) (len-entries s.tables ∙ sym (length-map (entries s.tables) _)) more.full) in omega arith;
    apart = AllPairs-cons ◌≢◌ more.cell (take cap (keys s.tables)) (not_key more.cell more.apart) (AllPairs-take ◌≢◌ cap (keys s.tables) (AllPairs-from_IsDistinct decided (keys s.tables) (IsDistinct-from_sorted cell_cmp (keys s.tables) (keys_ascend s.tables))));
    each = (more.inhabited, all_listed (IsInhabitedCell s.shape s.period set) (take cap (keys s.tables)) (λ c h. key_inhabited sound c (Contains-take cap (keys s.tables) c h)));
  }

  -- where all of the set is held in at most cap cells, it inhabits no more
  pub not_many : IsWhole set s → len s.tables ≤ cap → InhabitsMany s.shape s.period set cap → ⊥
  not_many whole few more =
      let n : length more.cells ≡ cap + 1 = more.count in
      let l : length more.cells ≤ length (entries s.tables) = length-le_from_keys (eq_by_cmp_equiv cells_total) more.cells (entries s.tables) (IsDistinct-from_AllPairs decided more.cells more.apart)
      (λ c h. subst (λ o. IsSome o) (get-entries s.tables c ∙ find_is (entries s.tables) c) (inhabited_held s is set whole c (one_of_all (IsInhabitedCell s.shape s.period set) more.cells c more.each h))) in
      let e : len s.tables ≡ length (entries s.tables) = len-entries s.tables in
      absurd (omega arith)
