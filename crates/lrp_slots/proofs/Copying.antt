-- A copy of the lists, cell after cell.
use Rattle.std.proofs.Common.{◌≡◌, ◌≢◌, List, [], ◌∷◌, ◌++◌, map, Option, Some, None, Bool, true, false, cond, ◌||◌, Ordering, Less, Equal, Greater, refl, sym, ap, ◌∙◌, unwrap_or, append_assoc}
use Rattle.std.specs.Prelude.{T, ◌&&◌, is_some}
use Rattle.std.specs.List.{AllByRecursion, list_any}
use Rattle.std.specs.List.Sorted.{IsStrictlySortedBy}
use Rattle.std.specs.Ordering.{is_eq, is_lt, eq_by_cmp}
use Rattle.std.specs.FinMap.{FinMap, empty, get, insert, entries, keys, is_sorted, entries_sorted, contains_key-keys, get-insert, get-empty, same_map}
use Rattle.std.specs.FinMap.Entries.{below_all}
use Rattle.lrp_model.specs.declared.tuples.Cell.{Cell}
use Rattle.lrp_slots.specs.Lists.{cell_cmp, list_at, append_all}
use Rattle.lrp_slots.proofs.Tables.{cells_total, exact_cells, same_cell}

-- the first of two tests that hold
first : (a b : Bool) → T (a && b) → T a
first true b p = tt
first false b p = p

-- the second of two tests that hold
second : (a b : Bool) → T (a && b) → T b
second true b p = p
second false b p = absurd p

-- the test of an order
less : (o : Ordering) → T (is_lt o) → o ≡ Less
less Less p = refl
less Equal p = absurd p
less Greater p = absurd p

-- a key below all others, as a fact of each
above : {X : Type 0} (c : Cell) (es : List (Cell × X)) → T (below_all cell_cmp c es) → AllByRecursion (λ d. cell_cmp c d ≡ Less) (map (λ e. e.0) es)
above c [] below = tt
above c (e ∷ es) below = (less (cell_cmp c e.0) (first _ _ below), above c es (second _ _ below))

-- entries that are sorted have keys that ascend
ascending : {X : Type 0} (es : List (Cell × X)) → T (is_sorted cell_cmp es) → IsStrictlySortedBy cell_cmp (map (λ e. e.0) es)
unfolding IsStrictlySortedBy
ascending [] sorted = tt
ascending (e ∷ es) sorted = (above e.0 es (first _ _ sorted), ascending es (second _ _ sorted))

-- the keys of a map ascend
pub keys_ascend : {X : Type 0} (m : FinMap cell_cmp X) → IsStrictlySortedBy cell_cmp (keys m)
keys_ascend m = ascending (entries m) (entries_sorted m)

-- without the first they still do
pub rest_ascends : (c : Cell) (cs : List Cell) → IsStrictlySortedBy cell_cmp (c ∷ cs) → IsStrictlySortedBy cell_cmp cs
unfolding IsStrictlySortedBy
rest_ascends c cs sorted = sorted.1

-- a cell is none of those above it
none_above : (c : Cell) (cs : List Cell) → AllByRecursion (λ d. cell_cmp c d ≡ Less) cs → list_any (eq_by_cmp cell_cmp c) cs ≡ false
none_above c [] all = refl
none_above c (d ∷ cs) all = ap (λ o. is_eq o || list_any (eq_by_cmp cell_cmp c) cs) all.0 ∙ none_above c cs all.1

-- the first is not among the others
pub not_again : (c : Cell) (cs : List Cell) → IsStrictlySortedBy cell_cmp (c ∷ cs) → list_any (eq_by_cmp cell_cmp c) cs ≡ false
unfolding IsStrictlySortedBy
not_again c cs sorted = none_above c cs sorted.0

module _ {X : Type 0} where
  -- what is there is left out
  taken_away : (o : Option X) → cond (is_some o) None o ≡ None
  taken_away None = refl
  taken_away (Some x) = refl

  -- nothing is left out of all cells
  pub nothing_copied : (lists : FinMap cell_cmp X) (q : Cell) → get (empty {X = X} {R = cell_cmp}) q ≡ cond (list_any (eq_by_cmp cell_cmp q) (keys lists)) None (get lists q)
  nothing_copied lists q =
      get-empty cell_cmp q ∙ sym (taken_away (get lists q)) ∙ ap (λ b. cond b None (get lists q)) (contains_key-keys lists q)

-- a choice of one value
kept : {A : Type 0} (b : Bool) (x : A) → x ≡ cond b x x
kept true x = refl
kept false x = refl

module _ {V : Type 0} where
  -- a list with more values, held or not
  abbrev pub longer : Option (List V) → List V → Option (List V)
  longer o [] = o
  longer o (value ∷ values) = Some (unwrap_or o [] ++ value ∷ values)

  -- what a held list is with more values
  longer-Some : (xs values : List V) → longer (Some xs) values ≡ Some (xs ++ values)
  longer-Some xs [] = ap Some (sym (whole xs))
    where
      whole : (xs : List V) → xs ++ [] ≡ xs
      whole [] = refl
      whole (x ∷ xs) = ap (λ ys. x ∷ ys) (whole xs)
  longer-Some xs (value ∷ values) = refl

  -- one value and then the others, at one cell
  one_by_one : (b : Bool) (old o : Option (List V)) (c_list : List V) (value : V) (values : List V) → (b ≡ true → unwrap_or old [] ≡ c_list)
      → o ≡ cond b (Some (c_list ++ value ∷ [])) old → cond b (longer o values) o ≡ cond b (longer old (value ∷ values)) old
  one_by_one true old o c_list value values same e =
      ap (λ p. longer p values) e ∙ longer-Some (c_list ++ value ∷ []) values ∙ ap Some (append_assoc c_list (value ∷ []) values) ∙ ap (λ xs. Some (xs ++ value ∷ values)) (sym (same refl))
  one_by_one false old o c_list value values same e = e

  -- what a map has once values were appended in turn
  pub get-append_all : (lists : FinMap cell_cmp (List V)) (c : Cell) (values : List V) (q : Cell) → get (append_all lists c values) q ≡ cond (eq_by_cmp cell_cmp q c) (longer (get lists q) values) (get lists q)
  get-append_all lists c [] q = kept (eq_by_cmp cell_cmp q c) (get lists q)
  get-append_all lists c (value ∷ values) q =
      get-append_all (insert lists c (list_at lists c ++ value ∷ [])) c values q
      ∙ one_by_one (eq_by_cmp cell_cmp q c) (get lists q) (get (insert lists c (list_at lists c ++ value ∷ [])) q) (list_at lists c) value values
      (λ same. ap (list_at lists) (same_cell q c same)) (get-insert cells_total lists c (list_at lists c ++ value ∷ []) q)

  -- a list that is not empty, made from nothing
  from_nothing : (o : Option (List V)) → o ≢ Some [] → longer None (unwrap_or o []) ≡ o
  from_nothing None filled = refl
  from_nothing (Some []) filled = absurd (filled refl)
  from_nothing (Some (x ∷ xs)) filled = refl

  -- what the copy has at one cell
  at_cell : (lists made : FinMap cell_cmp (List V)) (c : Cell) (cs : List Cell) (q : Cell) (b : Bool) → eq_by_cmp cell_cmp q c ≡ b
      → get lists c ≢ Some [] → list_any (eq_by_cmp cell_cmp c) cs ≡ false → get made q ≡ cond (b || list_any (eq_by_cmp cell_cmp q) cs) None (get lists q)
      → cond b (longer (get made q) (list_at lists c)) (get made q) ≡ cond (list_any (eq_by_cmp cell_cmp q) cs) None (get lists q)
  at_cell lists made c cs q true tied filled apart before =
      let same : q ≡ c = same_cell q c tied in
      ap (λ o. longer o (list_at lists c)) before ∙ from_nothing (get lists c) filled ∙ ap (get lists) (sym same)
      ∙ ap (λ b. cond b None (get lists q)) (sym (ap (λ d. list_any (eq_by_cmp cell_cmp d) cs) same ∙ apart))
  at_cell lists made c cs q false tied filled apart before = before

  -- one more cell was copied
  pub one_more_copied : (lists made new : FinMap cell_cmp (List V)) (c : Cell) (cs : List Cell) → new ≡ append_all made c (list_at lists c) → get lists c ≢ Some []
      → IsStrictlySortedBy cell_cmp (c ∷ cs) → ((q : Cell) → get made q ≡ cond (list_any (eq_by_cmp cell_cmp q) (c ∷ cs)) None (get lists q))
      → (q : Cell) → get new q ≡ cond (list_any (eq_by_cmp cell_cmp q) cs) None (get lists q)
  one_more_copied lists made new c cs e filled sorted before q =
      ap (λ m. get m q) e ∙ get-append_all made c (list_at lists c) q ∙ at_cell lists made c cs q (eq_by_cmp cell_cmp q c) refl filled (not_again c cs sorted) (before q)

  -- all cells were copied
  pub all_copied : (lists made : FinMap cell_cmp (List V)) (cs : List Cell) → cs ≡ [] → ((q : Cell) → get made q ≡ cond (list_any (eq_by_cmp cell_cmp q) cs) None (get lists q)) → made ≡ lists
  all_copied lists made cs none copied = same_map cells_total exact_cells made lists (λ q. copied q ∙ ap (λ ds. cond (list_any (eq_by_cmp cell_cmp q) ds) None (get lists q)) none)
