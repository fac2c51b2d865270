-- Lists of names: which names a joined list has, and where.
use Rattle.std.proofs.Common.{◌≡◌, ◌≢◌, ℕ, zero, suc, ◌+◌, ◌-◌, ◌<◌, ◌≤◌, ◌⊎◌, inl, inr, ⊎_elim, List, [], ◌∷◌, ◌++◌, length, map, take, drop, Option, Some, None, Bool, true, false, cond, refl, sym, ap, ap₂, subst, ◌∙◌, arith, Contains}
use Rattle.std.specs.Prelude.{ℤ, pos, IfSome, IfNone, is_some, AllPairs, slice_get, not, get_or, ◌||◌}
use Rattle.std.specs.Str.{bytes_eq}
use Rattle.std.specs.List.{list_any, AllZip}
use Rattle.std.specs.Cmp.Lexicographic.{bytes_decides}
use Rattle.std.proofs.lemmas.Bool.{cases_lt}
use Rattle.std.proofs.lemmas.List.Kept.{AllPairs-cons}
use Rattle.std.proofs.lemmas.List.{drop_more, take_more}
use Rattle.std.proofs.lemmas.List.Elements.{Contains-append_left, Contains-append_right, Contains-append_cases}
use Rattle.std.proofs.lemmas.Option.{slice_get_within, get_or_from_slice_get, slice_get-get_or}
use Rattle.lrp_theory.specs.Entries.{node}
use Rattle.lrp_zone.specs.Spread.{ArePlaces, target}
use Rattle.lrp_model.specs.Texts.{Identifier}
use Rattle.lrp_model.proofs.Decided.{cons_cases, contains_first, contains_later, contains_none}
use Rattle.lrp_tables.specs.Columns.{joint, IsPlace, ArePlacesOf}
use Rattle.lrp_tables.specs.Tables.{AreNamesAmong}
use Rattle.lrp_tables.proofs.Named.{some_is, same_name, other_name, pairs_tail}

-- the two truth values differ
pub true_is_not_false : true ≡ false → ⊥
true_is_not_false h = cc

-- ---- a name is found in a list where it is one of it

pub found_in : (v : Identifier) (names : List Identifier) → Contains names v → list_any (bytes_eq v) names ≡ true
found_in v [] c = absurd (contains_none v c)
found_in v (w ∷ names) c = elim (cons_cases w v names c) [
  | inl e ↦ ap (λ b. b || list_any (bytes_eq v) names) (subst (λ u. bytes_eq v u ≡ true) (sym e) (same_name v))
  | inr later ↦ or_true (bytes_eq v w) _ (found_in v names later)
]
  where
    or_true : (a b : Bool) → b ≡ true → (a || b) ≡ true
    or_true true b h = refl
    or_true false b h = h

pub not_found_in : (v : Identifier) (names : List Identifier) → (Contains names v → ⊥) → list_any (bytes_eq v) names ≡ false
not_found_in v [] c = refl
not_found_in v (w ∷ names) c = ap (λ b. b || list_any (bytes_eq v) names) (other_name v w (λ e. c (subst (λ u. Contains (w ∷ names) u) (sym e) (contains_first w names)))) ∙ not_found_in v names (λ later. c (contains_later w v names later))

-- whether a name is one of a list is decided
pub name_in : (v : Identifier) (names : List Identifier) → Contains names v ⊎ (Contains names v → ⊥)
name_in v [] = inr (contains_none v)
name_in v (w ∷ names) = by_first (bytes_eq v w) refl (name_in v names)
  where
    by_first : (b : Bool) → bytes_eq v w ≡ b → Contains names v ⊎ (Contains names v → ⊥) → Contains (w ∷ names) v ⊎ (Contains (w ∷ names) v → ⊥)
    by_first true e r = inl (subst (λ u. Contains (w ∷ names) u) (sym ((bytes_decides v w).0 e)) (contains_first w names))
    by_first false e (inl later) = inl (contains_later w v names later)
    by_first false e (inr none) = inr (λ c. ⊎_elim (λ same. true_is_not_false (sym (subst (λ u. bytes_eq v u ≡ true) (sym same) (same_name v)) ∙ e)) none (cons_cases w v names c))

-- ---- a joined list

-- a name that is there is not joined again
pub joint_known : (names : List Identifier) (name : Identifier) (more : List Identifier) → Contains names name → joint names (name ∷ more) ≡ joint names more
joint_known names name more c = ap (λ b. joint (cond b names (names ++ name ∷ [])) more) (found_in name names c)

-- and a new one is, after the others
pub joint_new : (names : List Identifier) (name : Identifier) (more : List Identifier) → (Contains names name → ⊥) → joint names (name ∷ more) ≡ joint (names ++ name ∷ []) more
joint_new names name more c = ap (λ b. joint (cond b names (names ++ name ∷ [])) more) (not_found_in name names c)

-- one name more, as a property of the list so far
joint_by : (P : List Identifier → Type 0) (names : List Identifier) (name : Identifier) (more : List Identifier) → (Contains names name → P (joint names more)) → ((Contains names name → ⊥) → P (joint (names ++ name ∷ []) more)) → P (joint names (name ∷ more))
joint_by P names name more known new = elim (name_in name names) [
  | inl c ↦ subst P (sym (joint_known names name more c)) (known c)
  | inr n ↦ subst P (sym (joint_new names name more n)) (new n)
]

-- the names are its front
pub joint_front : (names more : List Identifier) → (rest : List Identifier) × (joint names more ≡ names ++ rest)
joint_front names [] = ([], sym (append_none names))
  where
    append_none : (xs : List Identifier) → xs ++ [] ≡ xs
    append_none [] = refl
    append_none (x ∷ xs) = ap (λ l. x ∷ l) (append_none xs)
joint_front names (name ∷ more) = joint_by (λ made. (rest : List Identifier) × (made ≡ names ++ rest)) names name more (λ c. joint_front names more)
    (λ n. let f = joint_front (names ++ name ∷ []) more in (name ∷ f.0, f.1 ∙ assoc names name f.0))
  where
    assoc : (xs : List Identifier) (x : Identifier) (ys : List Identifier) → (xs ++ x ∷ []) ++ ys ≡ xs ++ x ∷ ys
    assoc [] x ys = refl
    assoc (y ∷ xs) x ys = ap (λ l. y ∷ l) (assoc xs x ys)

-- it has the names of both lists
pub in_joint_left : (names more : List Identifier) → AreNamesAmong names (joint names more)
in_joint_left names more name c = let f = joint_front names more in subst (λ l. Contains l name) (sym f.1) (Contains-append_left names f.0 name c)

pub in_joint_right : (names more : List Identifier) → AreNamesAmong more (joint names more)
in_joint_right names [] name c = absurd (contains_none name c)
in_joint_right names (first ∷ more) name c =
    joint_by (λ made. Contains made name) names first more
    (λ known. ⊎_elim (λ same. in_joint_left names more name (subst (λ u. Contains names u) same known)) (λ later. in_joint_right names more name later) (cons_cases first name more c))
    (λ new. ⊎_elim (λ same. in_joint_left (names ++ first ∷ []) more name (subst (λ u. Contains (names ++ first ∷ []) u) same (Contains-append_right names (first ∷ []) first (contains_first first []))))
    (λ later. in_joint_right (names ++ first ∷ []) more name later) (cons_cases first name more c))

-- and no others
pub of_joint : (names more : List Identifier) (name : Identifier) → Contains (joint names more) name → Contains names name ⊎ Contains more name
of_joint names [] name c = inl c
of_joint names (first ∷ more) name c = elim (name_in first names) [
  | inl known ↦ ⊎_elim (λ l. inl l) (λ r. inr (contains_later first name more r)) (of_joint names more name (subst (λ l. Contains l name) (joint_known names first more known) c))
  | inr new ↦ ⊎_elim (λ l. by_end (Contains-append_cases names (first ∷ []) name l)) (λ r. inr (contains_later first name more r))
      (of_joint (names ++ first ∷ []) more name (subst (λ l. Contains l name) (joint_new names first more new) c))
]
  where
    by_end : Contains names name ⊎ Contains (first ∷ []) name → Contains names name ⊎ Contains (first ∷ more) name
    by_end (inl l) = inl l
    by_end (inr r) = ⊎_elim (λ same. inr (subst (λ u. Contains (first ∷ more) u) same (contains_first first more))) (λ none. absurd (contains_none name none)) (cons_cases first name [] r)

-- names that are all there add nothing
pub joint_within : (names more : List Identifier) → AreNamesAmong more names → joint names more ≡ names
joint_within names [] among = refl
joint_within names (name ∷ more) among = joint_known names name more (among name (contains_first name more)) ∙ joint_within names more (λ v c. among v (contains_later name v more c))

-- a list that is joined name by name
next_of : (more : List Identifier) (i : ℕ) (name : Identifier) → i < length more → name ≡ get_or more i name → drop i more ≡ name ∷ drop (i + 1) more
next_of more i name low is = drop_more more i name low ∙ ap (λ w. w ∷ drop (i + 1) more) (sym is)

pub joint_one_more : (made new more : List Identifier) (i : ℕ) (name copy : Identifier) → i < length more → name ≡ get_or more i name → (Contains made name → ⊥) → copy ≡ name → new ≡ made ++ copy ∷ [] → joint new (drop (i + 1) more) ≡ joint made (drop i more)
joint_one_more made new more i name copy low is none same e =
    ap (λ l. joint l (drop (i + 1) more)) (e ∙ ap (λ w. made ++ w ∷ []) same) ∙ sym (joint_new made name (drop (i + 1) more) none) ∙ ap (joint made) (sym (next_of more i name low is))

pub joint_none_more : (made more : List Identifier) (i : ℕ) (name : Identifier) → i < length more → name ≡ get_or more i name → Contains made name → joint made (drop (i + 1) more) ≡ joint made (drop i more)
joint_none_more made more i name low is c = sym (joint_known made name (drop (i + 1) more) c) ∙ ap (joint made) (sym (next_of more i name low is))

-- a name at a place is one of the list
pub at_place : {X : Type 0} (xs : List X) (i : ℕ) (x : X) → slice_get xs i ≡ Some x → Contains xs x
at_place xs i x e = (i, slice_get_within xs i x e, get_or_from_slice_get xs i x x e)

-- and one of the list stands at a place
pub place_in : {X : Type 0} (xs : List X) (x : X) → Contains xs x → (i : ℕ) × (slice_get xs i ≡ Some x)
place_in xs x c = (c.0, slice_get-get_or xs c.0 x c.1 ∙ ap Some c.2)

-- no place was found
pub by_none : (o : Option ℕ) (made : List Identifier) (name : Identifier) (b : Bool) → is_some o ≡ not b → b ≡ true → IfNone o (Contains made name → ⊥) → Contains made name → ⊥
by_none None made name b e t h = h
by_none (Some i) made name b e t h = absurd (true_is_not_false (e ∙ ap not t))

-- some place was
pub by_some : (o : Option ℕ) (made : List Identifier) (name : Identifier) (b : Bool) → is_some o ≡ not b → b ≡ false → IfSome o (λ i. slice_get made i ≡ Some name) → Contains made name
by_some (Some i) made name b e t h = at_place made i name h
by_some None made name b e t h = absurd (true_is_not_false (sym (e ∙ ap not t)))

-- ---- places

-- the value at the place of a name is the name's
pub value_there : {A : Type 0} (f : Identifier → A) (d : A) (all : List Identifier) (i : ℕ) (name : Identifier) → slice_get all i ≡ Some name → get_or (map f all) i d ≡ f name
value_there f d [] i name e = cc
value_there f d (v ∷ vs) zero name e = ap f (some_is e)
value_there f d (v ∷ vs) (suc i) name e = value_there f d vs i name e

-- and so is that of a column, counted from 1
pub node_there : (f : Identifier → ℤ) (all : List Identifier) (p : ℕ) (name : Identifier) → IsPlace all p name → node (map f all) p ≡ f name
node_there f all zero name h = let l : 0 < 0 = h.0 in absurd (omega arith)
node_there f all (suc p) name h = value_there f (pos 0) all p name (let e : suc p - 1 ≡ p = omega arith in sym (ap (slice_get all) e) ∙ h.1)

-- a name stands at one place
one_place : (all : List Identifier) → AllPairs ◌≢◌ all → (i j : ℕ) (name : Identifier) → slice_get all i ≡ Some name → slice_get all j ≡ Some name → i < j → ⊥
one_place all pairs i j name ei ej less = pairs i j name less (slice_get_within all j name ej) (get_or_from_slice_get all i name name ei ∙ sym (get_or_from_slice_get all j name name ej))

pub same_place : (all : List Identifier) → AllPairs ◌≢◌ all → (i j : ℕ) (name : Identifier) → slice_get all i ≡ Some name → slice_get all j ≡ Some name → i ≡ j
same_place all pairs i j name ei ej = elim (cases_lt i j) [
  | inl less ↦ absurd (one_place all pairs i j name ei ej less)
  | inr more ↦ elim (cases_lt j i) [
    | inl less ↦ absurd (one_place all pairs j i name ej ei less)
    | inr other ↦ omega arith
  ]
]

module _ (names all : List Identifier) (places : List ℕ) (are : ArePlacesOf names all places) where
  pub places_count : length places ≡ length names
  places_count = zip_length places names are
    where
      zip_length : (ps : List ℕ) (vs : List Identifier) → AllZip (IsPlace all) ps vs → length ps ≡ length vs
      zip_length [] [] h = refl
      zip_length [] (v ∷ vs) h = absurd h
      zip_length (p ∷ ps) [] h = absurd h
      zip_length (p ∷ ps) (v ∷ vs) h = ap suc (zip_length ps vs h.1)

  -- the place with this number
  pub place_is : (i : ℕ) (name : Identifier) → slice_get names i ≡ Some name → IsPlace all (target places (suc i)) name
  place_is i name e = zip_at places names are i e
    where
      zip_at : (ps : List ℕ) (vs : List Identifier) → AllZip (IsPlace all) ps vs → (i : ℕ) → slice_get vs i ≡ Some name → IsPlace all (target ps (suc i)) name
      zip_at [] [] h i e = cc
      zip_at [] (v ∷ vs) h i e = absurd h
      zip_at (p ∷ ps) [] h i e = absurd h
      zip_at (p ∷ ps) (v ∷ vs) h zero e = subst (IsPlace all p) (some_is e) h.0
      zip_at (p ∷ ps) (v ∷ vs) h (suc i) e = zip_at ps vs h.1 i e

  -- the places of names that differ can take columns
  pub places_are : AllPairs ◌≢◌ names → ArePlaces places (length all)
  places_are pairs = record {
    low = λ p h. let n = named p h in subst (λ i. 0 < target places i) (later p) (place_is p n.0 n.1).0;
    high = high;
    differ = differ;
  }
    where
      later : (p : ℕ) → suc p ≡ p + 1
      later p = omega arith

      named : (p : ℕ) → p < length places → (name : Identifier) × (slice_get names p ≡ Some name)
      named p h = let low : p < length names = subst (λ n. p < n) places_count h in (get_or names p [], slice_get-get_or names p [] low)

      high : (p : ℕ) → p ≤ length places → target places p ≤ length all
      high zero h = omega arith
      high (suc p) h =
          let n = named p (omega arith) in
          let at = place_is p n.0 n.1 in
          let positive : 0 < target places (suc p) = at.0 in
          let low : target places (suc p) - 1 < length all = slice_get_within all (target places (suc p) - 1) n.0 at.1 in omega arith

      differ : (p q : ℕ) → p ≤ length places → q ≤ length places → target places p ≡ target places q → p ≡ q
      differ zero zero hp hq e = refl
      differ zero (suc q) hp hq e = let n = named q (omega arith) in let positive : 0 < target places (suc q) = (place_is q n.0 n.1).0 in absurd (omega arith)
      differ (suc p) zero hp hq e = let n = named p (omega arith) in let positive : 0 < target places (suc p) = (place_is p n.0 n.1).0 in absurd (omega arith)
      differ (suc p) (suc q) hp hq e =
          let m = named p (omega arith) in
          let n = named q (omega arith) in
          let same : m.0 ≡ n.0 = some_is (sym (place_is p m.0 m.1).1 ∙ ap (λ k. slice_get all (k - 1)) e ∙ (place_is q n.0 n.1).1) in
          ap suc (same_place names pairs p q n.0 (m.1 ∙ ap Some same) n.1)

  -- the values at the places are those of the names
  pub values_at : (f : Identifier → ℤ) → map (node (map f all)) places ≡ map f names
  values_at f = zip_values places names are
    where
      zip_values : (ps : List ℕ) (vs : List Identifier) → AllZip (IsPlace all) ps vs → map (node (map f all)) ps ≡ map f vs
      zip_values [] [] h = refl
      zip_values [] (v ∷ vs) h = absurd h
      zip_values (p ∷ ps) [] h = absurd h
      zip_values (p ∷ ps) (v ∷ vs) h = ap₂ (λ x xs. x ∷ xs) (node_there f all p v h.0) (zip_values ps vs h.1)

-- ---- names of a joined list differ

pub pairs_push : (names : List Identifier) (name : Identifier) → AllPairs ◌≢◌ names → (Contains names name → ⊥) → AllPairs ◌≢◌ (names ++ name ∷ [])
pairs_push [] name pairs none = λ i j d low high. absurd (omega arith)
pairs_push (w ∷ names) name pairs none = AllPairs-cons ◌≢◌ w (names ++ name ∷ []) (λ k d h. by_end k d (Contains-append_cases names (name ∷ []) _ (k, h, refl_at k d h)))
    (pairs_push names name (pairs_tail ◌≢◌ w names pairs) (λ c. none (contains_later w name names c)))
  where
    refl_at : (k : ℕ) (d : Identifier) → k < length (names ++ name ∷ []) → get_or (names ++ name ∷ []) k (get_or (names ++ name ∷ []) k d) ≡ get_or (names ++ name ∷ []) k d
    refl_at k d h = get_or_from_slice_get (names ++ name ∷ []) k (get_or (names ++ name ∷ []) k d) _ (slice_get-get_or (names ++ name ∷ []) k d h)

    by_end : (k : ℕ) (d : Identifier) → Contains names (get_or (names ++ name ∷ []) k d) ⊎ Contains (name ∷ []) (get_or (names ++ name ∷ []) k d) → w ≢ get_or (names ++ name ∷ []) k d
    by_end k d (inl c) same = pairs 0 (suc c.0) w (omega arith) (let l : c.0 < length names = c.1 in omega arith) (same ∙ sym c.2 ∙ get_or_from_slice_get names c.0 (get_or names c.0 w) (get_or (names ++ name ∷ []) k d) (slice_get-get_or names c.0 w c.1) ∙ refl)
    by_end k d (inr c) same = none (subst (λ u. Contains (w ∷ names) u) (same ∙ sym (only (get_or (names ++ name ∷ []) k d) c)) (contains_first w names))
      where
        only : (v : Identifier) → Contains (name ∷ []) v → name ≡ v
        only v c = ⊎_elim (λ e. e) (λ later. absurd (contains_none v later)) (cons_cases name v [] c)

pub joint_differs : (names more : List Identifier) → AllPairs ◌≢◌ names → AllPairs ◌≢◌ (joint names more)
joint_differs names [] pairs = pairs
joint_differs names (name ∷ more) pairs = joint_by (λ made. AllPairs ◌≢◌ made) names name more (λ c. joint_differs names more pairs) (λ n. joint_differs (names ++ name ∷ []) more (pairs_push names name pairs n))

-- one place more
pub one_place_more : (all names : List Identifier) (places new : List ℕ) (i : ℕ) (name : Identifier) (place : ℕ) → AreNamesAmong names all → i < length names → name ≡ get_or names i name → (Contains all name → IsPlace all place name) → new ≡ places ++ place ∷ []
    → ArePlacesOf (take i names) all places → ArePlacesOf (take (i + 1) names) all new
one_place_more all names places new i name place among low is at e so_far =
    subst (λ l. ArePlacesOf (take (i + 1) names) all l) (sym e) (subst (λ l. ArePlacesOf l all (places ++ place ∷ [])) (ap (λ w. take i names ++ w ∷ []) is ∙ sym (take_more names i name low))
    (push_zip places (take i names) so_far (at (among name (at_place names i name (slice_get-get_or names i name low ∙ ap Some (sym is)))))))
  where
    push_zip : (ps : List ℕ) (vs : List Identifier) → AllZip (IsPlace all) ps vs → IsPlace all place name → AllZip (IsPlace all) (ps ++ place ∷ []) (vs ++ name ∷ [])
    push_zip [] [] h is = (is, tt)
    push_zip [] (v ∷ vs) h is = absurd h
    push_zip (p ∷ ps) [] h is = absurd h
    push_zip (p ∷ ps) (v ∷ vs) h is = (h.0, push_zip ps vs h.1 is)

-- ---- values at places

-- the values at the places of names are those of the names, for values of any kind
pub any_values_at : {A : Type 0} (f : Identifier → A) (d : A) (names all : List Identifier) (places : List ℕ) → ArePlacesOf names all places → map (λ p. get_or (map f all) (p - 1) d) places ≡ map f names
any_values_at f d [] all [] h = refl
any_values_at f d (v ∷ vs) all [] h = absurd h
any_values_at f d [] all (p ∷ ps) h = absurd h
any_values_at f d (v ∷ vs) all (p ∷ ps) h = ap₂ (λ x xs. x ∷ xs) (value_there f d all (p - 1) v h.0.1) (any_values_at f d vs all ps h.1)

-- names that have places are among those that stand there
pub places_named : (names all : List Identifier) (places : List ℕ) → ArePlacesOf names all places → AreNamesAmong names all
places_named [] all places h name c = absurd (contains_none name c)
places_named (v ∷ vs) all [] h name c = absurd h
places_named (v ∷ vs) all (p ∷ ps) h name c = ⊎_elim (λ same. subst (λ u. Contains all u) same (at_place all (p - 1) v h.0.1)) (λ later. places_named vs all ps h.1 name later) (cons_cases v name vs c)
