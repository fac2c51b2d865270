-- Cells in line: where one stands, and what a change of one makes of the line.
use Rattle.std.proofs.Common.{◌≡◌, ℕ, zero, suc, ◌+◌, ◌-◌, ◌<◌, ◌≤◌, ◌⊎◌, inl, inr, Bool, true, false, cond, List, [], ◌∷◌, ◌++◌, length, take, Some, None, Ordering, Less, Equal, Greater, refl, sym, ap, subst, ◌∙◌, arith}
use Rattle.std.specs.Prelude.{slice_get, slice_set, slice_index_or, All, Contains, IsTrue, ◌↔◌, Result, Ok, Err, OnErr}
use Rattle.std.specs.List.{AllByRecursion, insert, remove}
use Rattle.std.specs.List.Sorted.{IsStrictlySortedBy}
use Rattle.std.specs.Ordering.{match_ordering, ordering_reverse, is_eq}
use Rattle.std.specs.Cmp.{eq_by_cmp_equiv, tied_itself}
use Rattle.std.specs.Map.{keys_of, remove_entry}
use Rattle.std.specs.BTreeMap.{is_at, insert_entry}
use Rattle.std.proofs.lemmas.Map.{lookup-remove_entry}
use Rattle.std.proofs.lemmas.Map.Entries.{lookup_head, lookup_tail, lookup_from_place, lookup_at_gap}
use Rattle.std.proofs.lemmas.List.Elements.{All-weaker, All-contains_itself}
use Rattle.std.proofs.lemmas.Map.Keys.{IsDistinct-from_sorted}
use Rattle.std.proofs.lemmas.Map.Views.{lookup-from_Contains}
use Rattle.lrp_model.specs.declared.tuples.Cell.{Cell}
use Rattle.lrp_slots.specs.declared.chains.Chain.{Chain}
use Rattle.lrp_slots.specs.Lists.{cell_cmp}
use Rattle.lrp_slots.specs.Links.{chain_at, IsLengthened}
use Rattle.lrp_slots.specs.Lines.{IsLine, IsAfterAll, ComesBetween, IsGap, StandsInLine, StandOnce}
use Rattle.lrp_slots.proofs.Tables.{exact_cells, cells_total, same_cell, other_cell}

same_some : {X : Type 0} {x y : X} → Some x ≡ Some y → x ≡ y
same_some e = cc

-- ---- the order of cells

pub turned : (a b : Cell) (o : Ordering) → cell_cmp a b ≡ o → cell_cmp b a ≡ ordering_reverse o
turned a b o e = cells_total.antisymm b a ∙ ap ordering_reverse e

above : (k m e : Cell) → cell_cmp k m ≡ Greater → cell_cmp e m ≡ Less → cell_cmp k e ≡ Greater
above k m e gt lt = turned e k Less (cells_total.trans e m k lt (turned k m Greater gt))

-- ---- a line

-- what holds of each key holds of that of the entry at a place
at_key : (P : Cell → Type 0) (es : List (Cell × Chain)) (j : ℕ) (f : Cell × Chain) → AllByRecursion P (keys_of es) → slice_get es j ≡ Some f → P f.0
at_key P [] j f all e = cc
at_key P (x ∷ es) zero f all e = subst (λ (g : Cell × Chain). P g.0) (same_some e) all.0
at_key P (x ∷ es) (suc j) f all e = at_key P es j f all.1 e

-- the first cell comes before the others
pub first_of : (x : Cell × Chain) (es : List (Cell × Chain)) → IsLine (x ∷ es) → AllByRecursion (λ y. cell_cmp x.0 y ≡ Less) (keys_of es)
unfolding IsStrictlySortedBy
first_of x es line = line.0

-- and they are a line
pub rest_of : (x : Cell × Chain) (es : List (Cell × Chain)) → IsLine (x ∷ es) → IsLine es
unfolding IsStrictlySortedBy
rest_of x es line = line.1

-- one cell before the others of a line
put_first : (x : Cell × Chain) (es : List (Cell × Chain)) → AllByRecursion (λ y. cell_cmp x.0 y ≡ Less) (keys_of es) → IsLine es → IsLine (x ∷ es)
unfolding IsStrictlySortedBy
put_first x es less line = (less, line)

pub no_line : IsLine []
unfolding IsStrictlySortedBy
no_line = tt

-- of two cells the one at the lesser place comes first
in_order : (es : List (Cell × Chain)) → IsLine es → (i j : ℕ) (e f : Cell × Chain) → i < j → slice_get es i ≡ Some e → slice_get es j ≡ Some f → cell_cmp e.0 f.0 ≡ Less
in_order [] line i j e f lt p q = cc
in_order (x ∷ es) line i zero e f lt p q = absurd (omega arith)
in_order (x ∷ es) line zero (suc j) e f lt p q = subst (λ (g : Cell × Chain). cell_cmp g.0 f.0 ≡ Less) (same_some p) (at_key (λ y. cell_cmp x.0 y ≡ Less) es j f (first_of x es line) q)
in_order (x ∷ es) line (suc i) (suc j) e f lt p q = in_order es (rest_of x es line) i j e f (omega arith) p q

-- ---- halving

no_entry : (es : List (Cell × Chain)) (j : ℕ) (e : Cell × Chain) → length es ≤ j → slice_get es j ≡ Some e → ⊥
no_entry [] j e le p = cc
no_entry (x ∷ es) zero e le p = absurd (omega arith)
no_entry (x ∷ es) (suc j) e le p = no_entry es j e (omega arith) p

-- at first
pub between_all : (es : List (Cell × Chain)) (k : Cell) (high : ℕ) → high ≡ length es → ComesBetween es k 0 high
between_all es k high e = record {
  order = omega arith;
  within = omega arith;
  before = λ j e lt p. absurd (omega arith);
  after = λ j f le p. absurd (no_entry es j f (omega arith) p);
}

-- after the one in the middle
pub goes_up : (es : List (Cell × Chain)) (k : Cell) (low high middle : ℕ) (m : Cell × Chain) → IsLine es → ComesBetween es k low high → low ≤ middle → middle < high → slice_get es middle ≡ Some m
    → cell_cmp k m.0 ≡ Greater → ComesBetween es k (middle + 1) high
goes_up es k low high middle m line b le lt at gt = record {
  order = omega arith;
  within = b.within;
  before = λ j e less p. elim (below_or j middle less) [
    | inl under ↦ above k m.0 e.0 gt (in_order es line j middle e m under p at)
    | inr same ↦ subst (λ (g : Cell × Chain). cell_cmp k g.0 ≡ Greater) (same_some (sym at ∙ ap (slice_get es) (sym same) ∙ p)) gt
  ];
  after = b.after;
}
  where
    below_or : (j m : ℕ) → j < m + 1 → (j < m) ⊎ (j ≡ m)
    below_or j m less = grind arith

-- before it
pub goes_down : (es : List (Cell × Chain)) (k : Cell) (low high middle : ℕ) (m : Cell × Chain) → IsLine es → ComesBetween es k low high → low ≤ middle → middle < high → slice_get es middle ≡ Some m
    → cell_cmp k m.0 ≡ Less → ComesBetween es k low middle
goes_down es k low high middle m line b le lt at less = record {
  order = le;
  within = let w = b.within in omega (arith, w, lt);
  before = b.before;
  after = λ j e from p. elim (from_or middle j from) [
    | inl over ↦ cells_total.trans k m.0 e.0 less (in_order es line middle j m e over at p)
    | inr same ↦ subst (λ (g : Cell × Chain). cell_cmp k g.0 ≡ Less) (same_some (sym at ∙ ap (slice_get es) same ∙ p)) less
  ];
}
  where
    from_or : (m j : ℕ) → m ≤ j → (m < j) ⊎ (m ≡ j)
    from_or m j le = grind arith

-- one entry of a line, read at its place
read_or : (es : List (Cell × Chain)) (i : ℕ) (d : Cell × Chain) → i < length es → slice_get es i ≡ Some (slice_index_or es i d)
read_or [] i d lt = absurd (omega arith)
read_or (x ∷ es) zero d lt = refl
read_or (x ∷ es) (suc i) d lt = read_or es i d (omega arith)

-- the cell of a gap is put in there
pub put_at_gap : (es : List (Cell × Chain)) (k : Cell) (v : Chain) (i : ℕ) → IsGap es k i → insert es i (k, v) ≡ insert_entry cell_cmp es k v
put_at_gap [] k v zero gap = refl
put_at_gap [] k v (suc i) gap = absurd (let w = gap.within in omega (arith, w))
put_at_gap (x ∷ es) k v zero gap = sym (ap (λ o. match_ordering o ((k, v) ∷ x ∷ es) ((x.0, v) ∷ es) (x ∷ insert_entry cell_cmp es k v)) (gap.after 0 x (omega arith) refl))
put_at_gap (x ∷ es) k v (suc i) gap =
    ap (λ l. x ∷ l) (put_at_gap es k v i (record {
      order = omega arith;
      within = let w = gap.within in omega (arith, w);
      before = λ j e lt p. gap.before (suc j) e (omega arith) p;
      after = λ j e from p. gap.after (suc j) e (omega arith) p;
    }))
    ∙ sym (ap (λ o. match_ordering o ((k, v) ∷ x ∷ es) ((x.0, v) ∷ es) (x ∷ insert_entry cell_cmp es k v)) (gap.before 0 x (omega arith) refl))

-- it is missing
pub gap_none : (es : List (Cell × Chain)) (k : Cell) (i : ℕ) → IsLine es → IsGap es k i → chain_at es k ≡ None
gap_none es k i line gap = lookup_at_gap cells_total k es i line gap.before (λ e p. gap.after i e (omega arith) p)

-- ---- a cell that stands in line

-- its chain is found
pub stands : (es : List (Cell × Chain)) (k : Cell) (i : ℕ) → IsLine es → (s : StandsInLine es k i) → chain_at es k ≡ Some s.entry.1
stands es k i line s =
    let same : k ≡ s.entry.0 = exact_cells k s.entry.0 s.same in
    lookup_from_place (eq_by_cmp_equiv cells_total) es i k s.entry.1 (IsDistinct-from_sorted cell_cmp (keys_of es) line) (s.read ∙ ap (λ c. Some (c, s.entry.1)) (sym same))

before_it : (es : List (Cell × Chain)) (x : Cell × Chain) (k : Cell) (i : ℕ) (e : Cell × Chain) → IsLine (x ∷ es) → slice_get es i ≡ Some e → cell_cmp k e.0 ≡ Equal → cell_cmp k x.0 ≡ Greater
before_it es x k i e line at same =
    let less : cell_cmp x.0 e.0 ≡ Less = at_key (λ y. cell_cmp x.0 y ≡ Less) es i e (first_of x es line) at in
    turned x.0 k Less (subst (λ y. cell_cmp x.0 y ≡ Less) (sym (exact_cells k e.0 same)) less)

-- another chain in the place of its own
pub set_there : (es : List (Cell × Chain)) (k : Cell) (v : Chain) (i : ℕ) (e : Cell × Chain) → IsLine es → slice_get es i ≡ Some e → cell_cmp k e.0 ≡ Equal → slice_set es i (k, v) ≡ insert_entry cell_cmp es k v
set_there [] k v i e line at same = cc
set_there (x ∷ es) k v zero e line at same =
    let first : x ≡ e = same_some at in
    let tied : cell_cmp k x.0 ≡ Equal = subst (λ (g : Cell × Chain). cell_cmp k g.0 ≡ Equal) (sym first) same in
    ap (λ c. (c, v) ∷ es) (exact_cells k x.0 tied) ∙ sym (ap (λ o. match_ordering o ((k, v) ∷ x ∷ es) ((x.0, v) ∷ es) (x ∷ insert_entry cell_cmp es k v)) tied)
set_there (x ∷ es) k v (suc i) e line at same =
    ap (λ l. x ∷ l) (set_there es k v i e (rest_of x es line) at same)
    ∙ sym (ap (λ o. match_ordering o ((k, v) ∷ x ∷ es) ((x.0, v) ∷ es) (x ∷ insert_entry cell_cmp es k v)) (before_it es x k i e line at same))

-- it is taken out
pub taken_there : (es : List (Cell × Chain)) (k : Cell) (i : ℕ) (e : Cell × Chain) → IsLine es → slice_get es i ≡ Some e → cell_cmp k e.0 ≡ Equal → remove es i ≡ remove_entry (is_at (cell_cmp k)) es
taken_there [] k i e line at same = cc
taken_there (x ∷ es) k zero e line at same =
    let tied : cell_cmp k x.0 ≡ Equal = subst (λ (g : Cell × Chain). cell_cmp k g.0 ≡ Equal) (sym (same_some at)) same in
    sym (ap (λ o. cond (is_eq o) es (x ∷ remove_entry (is_at (cell_cmp k)) es)) tied)
taken_there (x ∷ es) k (suc i) e line at same =
    ap (λ l. x ∷ l) (taken_there es k i e (rest_of x es line) at same)
    ∙ sym (ap (λ o. cond (is_eq o) es (x ∷ remove_entry (is_at (cell_cmp k)) es)) (before_it es x k i e line at same))

-- a cell that is not there leaves the line as it is
pub none_taken : (es : List (Cell × Chain)) (k : Cell) → chain_at es k ≡ None → remove_entry (is_at (cell_cmp k)) es ≡ es
none_taken [] k none = refl
none_taken (x ∷ es) k none = elim (tests (is_at (cell_cmp k) x.0)) [
  | inl t ↦ let found : chain_at (x ∷ es) k ≡ Some x.1 = lookup_head (is_at (cell_cmp k)) x es t in cc (none, found)
  | inr f ↦
      ap (λ b. cond b es (x ∷ remove_entry (is_at (cell_cmp k)) es)) f
      ∙ ap (λ l. x ∷ l) (none_taken es k (sym (lookup_tail (is_at (cell_cmp k)) x es f) ∙ none))
]
  where
    tests : (b : Bool) → (b ≡ true) ⊎ (b ≡ false)
    tests true = inl refl
    tests false = inr refl

without_less : (x : Cell × Chain) (k : Cell) (es : List (Cell × Chain)) → AllByRecursion (λ y. cell_cmp x.0 y ≡ Less) (keys_of es) → AllByRecursion (λ y. cell_cmp x.0 y ≡ Less) (keys_of (remove_entry (is_at (cell_cmp k)) es))
without_less x k [] less = tt
without_less x k (y ∷ es) less = without_one x y es (remove_entry (is_at (cell_cmp k)) es) less (without_less x k es less.1) (is_at (cell_cmp k) y.0)
  where
    without_one : (x y : Cell × Chain) (es rest : List (Cell × Chain)) → AllByRecursion (λ z. cell_cmp x.0 z ≡ Less) (keys_of (y ∷ es)) → AllByRecursion (λ z. cell_cmp x.0 z ≡ Less) (keys_of rest)
        → (b : Bool) → AllByRecursion (λ z. cell_cmp x.0 z ≡ Less) (keys_of (cond b es (y ∷ rest)))
    without_one x y es rest less more true = less.1
    without_one x y es rest less more false = (less.0, more)

-- what is left is a line
pub taken_line : (es : List (Cell × Chain)) (k : Cell) → IsLine es → IsLine (remove_entry (is_at (cell_cmp k)) es)
taken_line [] k line = line
taken_line (x ∷ es) k line =
    one_of es (x ∷ remove_entry (is_at (cell_cmp k)) es) (rest_of x es line)
    (put_first x (remove_entry (is_at (cell_cmp k)) es) (without_less x k es (first_of x es line)) (taken_line es k (rest_of x es line))) (is_at (cell_cmp k) x.0)
  where
    one_of : (es fs : List (Cell × Chain)) → IsLine es → IsLine fs → (b : Bool) → IsLine (cond b es fs)
    one_of es fs p q true = p
    one_of es fs p q false = q

-- the cell is not held any more, and the others are as they were
pub taken_updates : (es : List (Cell × Chain)) (k q : Cell) → IsLine es → chain_at (remove_entry (is_at (cell_cmp k)) es) q ≡ cond (is_at (cell_cmp k) q) None (chain_at es q)
taken_updates es k q line =
    lookup-remove_entry (eq_by_cmp_equiv cells_total) (is_at (cell_cmp k)) (λ x y t. ap (λ c. is_eq (cell_cmp c y)) (same_cell k x t)) q es (IsDistinct-from_sorted cell_cmp (keys_of es) line)

-- ---- a cell after the line

-- it is not held
pub after_none : (es : List (Cell × Chain)) (k : Cell) → IsAfterAll k es → chain_at es k ≡ None
after_none [] k after = refl
after_none (x ∷ es) k after = lookup_tail (is_at (cell_cmp k)) x es (ap is_eq after.0) ∙ after_none es k after.1

-- it goes to the end
pub goes_after : (es : List (Cell × Chain)) (k : Cell) (v : Chain) → IsAfterAll k es → es ++ (k, v) ∷ [] ≡ insert_entry cell_cmp es k v
goes_after [] k v after = refl
goes_after (x ∷ es) k v after =
    ap (λ l. x ∷ l) (goes_after es k v after.1)
    ∙ sym (ap (λ o. match_ordering o ((k, v) ∷ x ∷ es) ((x.0, v) ∷ es) (x ∷ insert_entry cell_cmp es k v)) after.0)

-- what comes after the last cell comes after all
pub after_last : (es : List (Cell × Chain)) (k : Cell) (e : Cell × Chain) → IsLine es → slice_get es (length es - 1) ≡ Some e → cell_cmp k e.0 ≡ Greater → IsAfterAll k es
after_last [] k e line at gt = tt
after_last (x ∷ []) k e line at gt = (subst (λ (g : Cell × Chain). cell_cmp k g.0 ≡ Greater) (sym (same_some at)) gt, tt)
after_last (x ∷ y ∷ es) k e line at gt =
    let last : length (x ∷ y ∷ es) - 1 ≡ suc (length (y ∷ es) - 1) = omega arith in
    let rest : IsAfterAll k (y ∷ es) = after_last (y ∷ es) k e (rest_of x (y ∷ es) line) (ap (slice_get (x ∷ y ∷ es)) (sym last) ∙ at) gt in
    (above k y.0 x.0 rest.0 (first_of x (y ∷ es) line).0, rest)

-- the cell at a place comes after those before it
pub after_before : (es : List (Cell × Chain)) (i : ℕ) (e : Cell × Chain) → IsLine es → slice_get es i ≡ Some e → IsAfterAll e.0 (take i es)
after_before [] i e line at = cc
after_before (x ∷ es) zero e line at = tt
after_before (x ∷ es) (suc i) e line at =
    (turned x.0 e.0 Less (at_key (λ y. cell_cmp x.0 y ≡ Less) es i e (first_of x es line) at), after_before es i e (rest_of x es line) at)

pub one_more : (es : List (Cell × Chain)) (i : ℕ) (e : Cell × Chain) → slice_get es i ≡ Some e → take i es ++ e ∷ [] ≡ take (i + 1) es
one_more [] i e at = cc
one_more (x ∷ es) zero e at = ap (λ (y : Cell × Chain). y ∷ []) (sym (same_some at))
one_more (x ∷ es) (suc i) e at = let later : suc (i + 1) ≡ suc i + 1 = omega arith in ap (λ l. x ∷ l) (one_more es i e at) ∙ ap (λ n. take n (x ∷ es)) later

-- one more of a line goes to the end of those before it
pub one_in_read : (line : List (Cell × Chain)) (i : ℕ) (e : Cell × Chain) → IsLine line → slice_get line i ≡ Some e → insert_entry cell_cmp (take i line) e.0 e.1 ≡ take (i + 1) line
one_in_read line i e ordered read = sym (goes_after (take i line) e.0 e.1 (after_before line i e ordered read)) ∙ one_more line i e read

-- ---- a cell that is put in

put_less : (x : Cell × Chain) (k : Cell) (v : Chain) (es : List (Cell × Chain)) → cell_cmp x.0 k ≡ Less → AllByRecursion (λ y. cell_cmp x.0 y ≡ Less) (keys_of es) → AllByRecursion (λ y. cell_cmp x.0 y ≡ Less) (keys_of (insert_entry cell_cmp es k v))
put_less x k v [] lt less = (lt, tt)
put_less x k v (y ∷ es) lt less = put_one x k v y es (insert_entry cell_cmp es k v) lt less (put_less x k v es lt less.1) (cell_cmp k y.0)
  where
    put_one : (x : Cell × Chain) (k : Cell) (v : Chain) (y : Cell × Chain) (es rest : List (Cell × Chain)) → cell_cmp x.0 k ≡ Less → AllByRecursion (λ z. cell_cmp x.0 z ≡ Less) (keys_of (y ∷ es))
        → AllByRecursion (λ z. cell_cmp x.0 z ≡ Less) (keys_of rest) → (o : Ordering) → AllByRecursion (λ z. cell_cmp x.0 z ≡ Less) (keys_of (match_ordering o ((k, v) ∷ y ∷ es) ((y.0, v) ∷ es) (y ∷ rest)))
    put_one x k v y es rest lt less more Less = (lt, less)
    put_one x k v y es rest lt less more Equal = less
    put_one x k v y es rest lt less more Greater = (less.0, more)

all_above : (k y : Cell) (es : List (Cell × Chain)) → cell_cmp k y ≡ Less → AllByRecursion (λ z. cell_cmp y z ≡ Less) (keys_of es) → AllByRecursion (λ z. cell_cmp k z ≡ Less) (keys_of es)
all_above k y [] lt less = tt
all_above k y (x ∷ es) lt less = (cells_total.trans k y x.0 lt less.0, all_above k y es lt less.1)

-- the cells are in order then too
pub put_line : (es : List (Cell × Chain)) (k : Cell) (v : Chain) → IsLine es → IsLine (insert_entry cell_cmp es k v)
put_line [] k v line = put_first (k, v) [] tt no_line
put_line (x ∷ es) k v line = put_one x es k v line (put_line es k v (rest_of x es line)) (cell_cmp k x.0) refl
  where
    put_one : (x : Cell × Chain) (es : List (Cell × Chain)) (k : Cell) (v : Chain) → IsLine (x ∷ es) → IsLine (insert_entry cell_cmp es k v) → (o : Ordering) → cell_cmp k x.0 ≡ o
        → IsLine (match_ordering o ((k, v) ∷ x ∷ es) ((x.0, v) ∷ es) (x ∷ insert_entry cell_cmp es k v))
    put_one x es k v line more Less e = put_first (k, v) (x ∷ es) (e, all_above k x.0 es e (first_of x es line)) line
    put_one x es k v line more Equal e = put_first (x.0, v) es (first_of x es line) (rest_of x es line)
    put_one x es k v line more Greater e = put_first x (insert_entry cell_cmp es k v) (put_less x k v es (turned k x.0 Greater e) (first_of x es line)) more

-- it has its chain
put_here : (es : List (Cell × Chain)) (k : Cell) (v : Chain) → chain_at (insert_entry cell_cmp es k v) k ≡ Some v
put_here [] k v = lookup_head (is_at (cell_cmp k)) (k, v) [] (ap is_eq (tied_itself cells_total k))
put_here (x ∷ es) k v = put_one x es (insert_entry cell_cmp es k v) k v (put_here es k v) (cell_cmp k x.0) refl
  where
    put_one : (x : Cell × Chain) (es rest : List (Cell × Chain)) (k : Cell) (v : Chain) → chain_at rest k ≡ Some v → (o : Ordering) → cell_cmp k x.0 ≡ o
        → chain_at (match_ordering o ((k, v) ∷ x ∷ es) ((x.0, v) ∷ es) (x ∷ rest)) k ≡ Some v
    put_one x es rest k v more Less e = lookup_head (is_at (cell_cmp k)) (k, v) (x ∷ es) (ap is_eq (tied_itself cells_total k))
    put_one x es rest k v more Equal e = lookup_head (is_at (cell_cmp k)) (x.0, v) es (ap is_eq e)
    put_one x es rest k v more Greater e = lookup_tail (is_at (cell_cmp k)) x rest (ap is_eq e) ∙ more

-- and the others have theirs
put_there : (es : List (Cell × Chain)) (k : Cell) (v : Chain) (q : Cell) → is_at (cell_cmp q) k ≡ false → chain_at (insert_entry cell_cmp es k v) q ≡ chain_at es q
put_there [] k v q apart = lookup_tail (is_at (cell_cmp q)) (k, v) [] apart
put_there (x ∷ es) k v q apart = put_one x es (insert_entry cell_cmp es k v) k v q apart (put_there es k v q apart) (cell_cmp k x.0) refl
  where
    put_one : (x : Cell × Chain) (es rest : List (Cell × Chain)) (k : Cell) (v : Chain) (q : Cell) → is_at (cell_cmp q) k ≡ false → chain_at rest q ≡ chain_at es q → (o : Ordering) → cell_cmp k x.0 ≡ o
        → chain_at (match_ordering o ((k, v) ∷ x ∷ es) ((x.0, v) ∷ es) (x ∷ rest)) q ≡ chain_at (x ∷ es) q
    put_one x es rest k v q apart more Less e = lookup_tail (is_at (cell_cmp q)) (k, v) (x ∷ es) apart
    put_one x es rest k v q apart more Equal e =
        let other : is_at (cell_cmp q) x.0 ≡ false = subst (λ c. is_at (cell_cmp q) c ≡ false) (exact_cells k x.0 e) apart in
        lookup_tail (is_at (cell_cmp q)) (x.0, v) es other ∙ sym (lookup_tail (is_at (cell_cmp q)) x es other)
    put_one x es rest k v q apart more Greater e = ap (λ o. cond (is_at (cell_cmp q) x.0) (Some x.1) o) more

pub put_updates : (es : List (Cell × Chain)) (k : Cell) (v : Chain) (q : Cell) → chain_at (insert_entry cell_cmp es k v) q ≡ cond (is_at (cell_cmp k) q) (Some v) (chain_at es q)
put_updates es k v q = elim (tests (is_at (cell_cmp k) q)) [
  | inl t ↦ ap (chain_at (insert_entry cell_cmp es k v)) (sym (same_cell k q t)) ∙ put_here es k v ∙ sym (ap (λ b. cond b (Some v) (chain_at es q)) t)
  | inr f ↦ put_there es k v q (apart f) ∙ sym (ap (λ b. cond b (Some v) (chain_at es q)) f)
]
  where
    tests : (b : Bool) → (b ≡ true) ⊎ (b ≡ false)
    tests true = inl refl
    tests false = inr refl

    apart : is_at (cell_cmp k) q ≡ false → is_at (cell_cmp q) k ≡ false
    apart f = elim (tests (is_at (cell_cmp q) k)) [
      | inl t ↦ absurd (other_cell k q f (sym (same_cell q k t)))
      | inr g ↦ g
    ]

-- so the chain stands at the cell
pub is_put : (old new : List (Cell × Chain)) (k : Cell) (v : Chain) → IsLine old → new ≡ insert_entry cell_cmp old k v → IsLengthened old new k v
is_put old new k v line e = record {
  inserted = e;
  updates = λ q. ap (λ es. chain_at es q) e ∙ put_updates old k v q;
  ascending = subst IsLine (sym e) (put_line old k v line);
}

-- each cell of a line is found with its chain
pub found_each : (es : List (Cell × Chain)) → IsLine es → All (λ e. chain_at es e.0 ≡ Some e.1) es
found_each es line =
    All-weaker (Contains es) (λ e. chain_at es e.0 ≡ Some e.1)
    (λ e h. lookup-from_Contains (eq_by_cmp_equiv cells_total) e.0 e.1 es (IsDistinct-from_sorted cell_cmp (keys_of es) line) h) es (All-contains_itself es)

-- ---- a line and a tree

only_line : (line tree : List (Cell × Chain)) → tree ≡ [] → line ++ tree ≡ line
only_line line tree e = ap (λ t. line ++ t) e ∙ whole line
  where
    whole : (es : List (Cell × Chain)) → es ++ [] ≡ es
    whole [] = refl
    whole (x ∷ es) = ap (λ l. x ∷ l) (whole es)

pub empty_of : (tree : List (Cell × Chain)) → length tree ≡ 0 → tree ≡ []
empty_of [] e = refl
empty_of (x ∷ tree) e = absurd (omega arith)

-- all cells stand in line where the tree is found empty
pub record IsInLine (line tree old : List (Cell × Chain)) : Type 0 where
  pub empty : tree ≡ []
  pub view : line ≡ old
  pub ordered : IsLine line

pub in_line : (line tree old : List (Cell × Chain)) (b : Bool) → StandOnce line tree → line ++ tree ≡ old → (IsTrue b ↔ (length tree ≡ 0)) → IsTrue b → IsInLine line tree old
in_line line tree old b s view test t =
    let none : tree ≡ [] = empty_of tree (test.0 t) in
    record { empty = none; view = sym (only_line line tree none) ∙ view; ordered = subst IsLine (only_line line tree none) s.ordered }

-- and in the tree where it is not
pub record IsInTree (line tree old : List (Cell × Chain)) : Type 0 where
  pub empty : line ≡ []
  pub view : tree ≡ old
  pub ordered : IsLine tree

pub in_tree : (line tree old : List (Cell × Chain)) (b : Bool) → StandOnce line tree → line ++ tree ≡ old → (IsTrue b ↔ (length tree ≡ 0)) → b ≡ false → IsInTree line tree old
in_tree line tree old b s view test f =
    let none : line ≡ [] = only s.one in
    record { empty = none; view = ap (λ l. l ++ tree) (sym none) ∙ view; ordered = subst (λ l. IsLine (l ++ tree)) none s.ordered }
  where
    only : (line ≡ []) ⊎ (tree ≡ []) → line ≡ []
    only (inl e) = e
    only (inr e) = let t : IsTrue b = test.1 (ap length e) in cc (t, f)

-- another line in its place
pub new_line : (line tree old new es : List (Cell × Chain)) → IsInLine line tree old → new ≡ es → IsLine es → StandOnce new tree × (new ++ tree ≡ es)
new_line line tree old new es i e ordered =
    let same : new ++ tree ≡ es = only_line new tree i.empty ∙ e in
    (record { one = inr i.empty; ordered = subst IsLine (sym same) ordered }, same)

-- a cell that was put into the line
pub put_in_line : (line tree old new : List (Cell × Chain)) (k : Cell) (v : Chain) → IsInLine line tree old → new ≡ insert_entry cell_cmp line k v → StandOnce new tree × (new ++ tree ≡ insert_entry cell_cmp old k v)
put_in_line line tree old new k v l e =
    new_line line tree old new (insert_entry cell_cmp old k v) l (e ∙ ap (λ es. insert_entry cell_cmp es k v) l.view) (put_line old k v (subst IsLine l.view l.ordered))

-- a cell that was taken out of the line
pub taken_in_line : (line tree old new : List (Cell × Chain)) (k : Cell) → IsInLine line tree old → new ≡ remove_entry (is_at (cell_cmp k)) line → StandOnce new tree × (new ++ tree ≡ remove_entry (is_at (cell_cmp k)) old)
taken_in_line line tree old new k l e =
    new_line line tree old new (remove_entry (is_at (cell_cmp k)) old) l (e ∙ ap (remove_entry (is_at (cell_cmp k))) l.view) (taken_line old k (subst IsLine l.view l.ordered))

-- a line that is as it was
pub left_in_line : (line tree old new : List (Cell × Chain)) → IsInLine line tree old → new ≡ line → StandOnce new tree × (new ++ tree ≡ old)
left_in_line line tree old new l e = new_line line tree old new old l (e ∙ l.view) (subst IsLine l.view l.ordered)

-- the line in a tree, with one cell more
pub put_moved : (line tree old none made : List (Cell × Chain)) (k : Cell) (v : Chain) → IsInLine line tree old → none ≡ [] → made ≡ insert_entry cell_cmp line k v → none ++ made ≡ insert_entry cell_cmp old k v
put_moved line tree old none made k v l en em = ap (λ xs. xs ++ made) en ∙ em ∙ ap (λ es. insert_entry cell_cmp es k v) l.view

-- another tree in its place
pub new_tree : (line tree old new es : List (Cell × Chain)) → IsInTree line tree old → new ≡ es → line ++ new ≡ es
new_tree line tree old new es i e = ap (λ l. l ++ new) i.empty ∙ e

-- what stands in a tree alone stands once
pub stands_in_tree : (line tree es : List (Cell × Chain)) → line ≡ [] → tree ≡ es → IsLine es → StandOnce line tree
stands_in_tree line tree es none e ordered = record { one = inl none; ordered = subst (λ l. IsLine (l ++ tree)) (sym none) (subst IsLine (sym e) ordered) }

-- what holds where a result is an error
pub on_err : {A B : Type 0} (r : Result A B) (X : Type 0) → X → OnErr r X
on_err (Ok a) X x = tt
on_err (Err b) X x = x

-- no cell stands in line where the line is found empty
pub none_in_line : (line tree old : List (Cell × Chain)) (b : Bool) → StandOnce line tree → line ++ tree ≡ old → (IsTrue b ↔ (length line ≡ 0)) → IsTrue b → IsInTree line tree old
none_in_line line tree old b s view test t =
    let none : line ≡ [] = empty_of line (test.0 t) in
    record { empty = none; view = ap (λ l. l ++ tree) (sym none) ∙ view; ordered = subst (λ l. IsLine (l ++ tree)) none s.ordered }

-- and all do where it is not
pub some_in_line : (line tree old : List (Cell × Chain)) (b : Bool) → StandOnce line tree → line ++ tree ≡ old → (IsTrue b ↔ (length line ≡ 0)) → b ≡ false → IsInLine line tree old
some_in_line line tree old b s view test f =
    let none : tree ≡ [] = only s.one in
    record { empty = none; view = sym (only_line line tree none) ∙ view; ordered = subst IsLine (only_line line tree none) s.ordered }
  where
    only : (line ≡ []) ⊎ (tree ≡ []) → tree ≡ []
    only (inl e) = let t : IsTrue b = test.1 (ap length e) in cc (t, f)
    only (inr e) = e
