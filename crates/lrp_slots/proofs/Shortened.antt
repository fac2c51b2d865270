-- Short keys are in the order of their cells, and so what is found, put in or taken out by a key is so by its cell.
use Rattle.std.proofs.Common.{◌≡◌, ◌≢◌, ℕ, zero, suc, ◌≤◌, ◌+◌, ◌*◌, ◌/◌, ◌%◌, ◌^◌, ◌<◌, arith, get_or, ap₂, ◌⊎◌, inl, inr, Bool, true, false, cond, List, [], ◌∷◌, ◌++◌, length, take, None, Some, Ordering, Less, Equal, Greater, refl, sym, ap, subst, ◌∙◌}
use Rattle.std.specs.Result.{result_ok}
use Rattle.std.specs.Prelude.{Result, Ok, Err, Option, IfOk, IfErr, IfSome, IfNone, IsTrue, ◌↔◌, ◌&&◌, nat_eq, ℤ, pos, slice_get, slice_set, slice_index_or}
use lib.Pointwise.{pointwise, pointwise_decides, bytes_decides}
use Rattle.std.specs.Cmp.{first_so, second_so, signed_Decides}
use Rattle.std.specs.List.{AllByRecursion, insert, remove}
use Rattle.std.specs.List.Sorted.{IsStrictlySortedBy}
use Rattle.std.specs.Ordering.{match_ordering, ordering_then, ordering_reverse, nat_cmp, int_cmp, int_eq, is_eq}
use Rattle.std.specs.Map.{keys_of, lookup, remove_entry}
use Rattle.std.specs.BTreeMap.{is_at, insert_entry}
use Rattle.std.proofs.lemmas.Map.Entries.{lookup_tail}
use Rattle.std.proofs.lemmas.Cmp.{by_ranked, ranked, nat_cmp_total, tied_itself}
use Rattle.lrp_model.specs.declared.tuples.Cell.{Cell}
use Rattle.lrp_slots.specs.declared.chains.Chain.{Chain}
use Rattle.lrp_slots.specs.declared.narrow.Narrow.{Narrow}
use Rattle.lrp_slots.specs.Lists.{cell_cmp}
use Rattle.lrp_slots.specs.Links.{chain_at}
use Rattle.lrp_slots.specs.Lines.{IsLine, IsAfterAll, ComesBetween, IsGap, StandsInLine}
use Rattle.lrp_slots.specs.declared.medium.Medium.{Medium}
use Rattle.lrp_slots.specs.KeyOrders.{same_order}
use Rattle.lrp_slots.specs.Medium.{medium_cell}
use Rattle.lrp_slots.specs.Narrow.{narrow_cmp, wide, wide_entries, AreOneWidth}
use Rattle.lrp_slots.proofs.Keyed.{keyless, entries_length}
use Rattle.lrp_slots.proofs.Lines.{empty_of, after_none, goes_after, turned, first_of, rest_of}

-- cells whose numbers are found equal are one
pub same_numbers : (a b : Cell) → (pointwise nat_eq a.texts b.texts && pointwise int_eq a.residues b.residues) ≡ true → a ≡ b
same_numbers a b e =
    ap (λ t. record { texts = t; residues = a.residues }) ((bytes_decides a.texts b.texts).0 (first_so (pointwise nat_eq a.texts b.texts) (pointwise int_eq a.residues b.residues) e))
    ∙ ap (λ r. record { texts = b.texts; residues = r }) ((pointwise_decides signed_Decides a.residues b.residues).0 (second_so (pointwise nat_eq a.texts b.texts) (pointwise int_eq a.residues b.residues) e))

-- and the numbers of one cell are found equal
found_equal : (a b : Cell) → a ≡ b → (pointwise nat_eq a.texts b.texts && pointwise int_eq a.residues b.residues) ≡ true
found_equal a b e = ap₂ (λ p q. p && q) ((bytes_decides a.texts b.texts).1 (ap (λ (c : Cell). c.texts) e)) ((pointwise_decides signed_Decides a.residues b.residues).1 (ap (λ (c : Cell). c.residues) e))

-- two numbers as one
abbrev pub joined_texts : ℕ → ℕ → ℕ
joined_texts upper lower = upper * 2 ^ 32 + lower

-- the key that a cell would have
abbrev pub key_of : Cell → Narrow
key_of cell = record {
  texts = joined_texts (get_or cell.texts 0 0) (get_or cell.texts 1 0);
  first_residue = get_or cell.residues 0 (pos 0);
  second_residue = get_or cell.residues 1 (pos 0);
  third_residue = get_or cell.residues 2 (pos 0);
}

-- it is made of the numbers that are read
pub key_parts : (cell : Cell) (t : ℕ) (p q r : ℤ) → t ≡ joined_texts (get_or cell.texts 0 0) (get_or cell.texts 1 0) → p ≡ get_or cell.residues 0 (pos 0) → q ≡ get_or cell.residues 1 (pos 0) → r ≡ get_or cell.residues 2 (pos 0)
    → record { texts = t; first_residue = p; second_residue = q; third_residue = r } ≡ key_of cell
key_parts cell t p q r et ep eq er =
    ap₂ (λ n m. record { texts = n; first_residue = m; second_residue = q; third_residue = r }) et ep
    ∙ ap₂ (λ n m. record (key_of cell) { second_residue = n; third_residue = m }) eq er

-- a key is that of its cell
own_key : (k : Narrow) → key_of (wide k) ≡ k
own_key k = let halves : joined_texts (k.texts / 2 ^ 32) (k.texts % 2 ^ 32) ≡ k.texts = omega arith in ap (λ t. record k { texts = t }) halves

-- a cell that is not found equal to that of its key has none
pub no_key : (cell made : Cell) (key : Narrow) → key ≡ key_of cell → made ≡ wide key → (pointwise nat_eq made.texts cell.texts && pointwise int_eq made.residues cell.residues) ≡ false → (k : Narrow) → wide k ≢ cell
no_key cell made key is e differs k same =
    let equal : made ≡ cell = e ∙ ap wide (is ∙ ap key_of (sym same) ∙ own_key k) ∙ same in
    let found = found_equal made cell equal in
    cc

-- the key that a cell would have
abbrev pub medium_key_of : Cell → Medium
medium_key_of cell = record {
  first_texts = joined_texts (get_or cell.texts 0 0) (get_or cell.texts 1 0);
  next_texts = joined_texts (get_or cell.texts 2 0) (get_or cell.texts 3 0);
  last_texts = joined_texts (get_or cell.texts 4 0) (get_or cell.texts 5 0);
  first_residue = get_or cell.residues 0 (pos 0);
  second_residue = get_or cell.residues 1 (pos 0);
  third_residue = get_or cell.residues 2 (pos 0);
  fourth_residue = get_or cell.residues 3 (pos 0);
}

-- it is made of the numbers that are read
pub medium_parts : (cell : Cell) (t u w : ℕ) (p q r s : ℤ) → t ≡ joined_texts (get_or cell.texts 0 0) (get_or cell.texts 1 0) → u ≡ joined_texts (get_or cell.texts 2 0) (get_or cell.texts 3 0) → w ≡ joined_texts (get_or cell.texts 4 0) (get_or cell.texts 5 0)
    → p ≡ get_or cell.residues 0 (pos 0) → q ≡ get_or cell.residues 1 (pos 0) → r ≡ get_or cell.residues 2 (pos 0) → s ≡ get_or cell.residues 3 (pos 0)
    → record { first_texts = t; next_texts = u; last_texts = w; first_residue = p; second_residue = q; third_residue = r; fourth_residue = s } ≡ medium_key_of cell
medium_parts cell t u w p q r s et eu ew ep eq er es =
    ap₂ (λ n m. record { first_texts = n; next_texts = m; last_texts = w; first_residue = p; second_residue = q; third_residue = r; fourth_residue = s }) et eu
    ∙ ap₂ (λ n m. record (medium_key_of cell) { last_texts = n; first_residue = m; second_residue = q; third_residue = r; fourth_residue = s }) ew ep
    ∙ ap₂ (λ n m. record (medium_key_of cell) { second_residue = n; third_residue = m; fourth_residue = s }) eq er
    ∙ ap (λ n. record (medium_key_of cell) { fourth_residue = n }) es

-- a key is that of its cell
own_medium_key : (k : Medium) → medium_key_of (medium_cell k) ≡ k
own_medium_key k =
    let first : joined_texts (k.first_texts / 2 ^ 32) (k.first_texts % 2 ^ 32) ≡ k.first_texts = omega arith in
    let next : joined_texts (k.next_texts / 2 ^ 32) (k.next_texts % 2 ^ 32) ≡ k.next_texts = omega arith in
    let last : joined_texts (k.last_texts / 2 ^ 32) (k.last_texts % 2 ^ 32) ≡ k.last_texts = omega arith in
    ap₂ (λ n m. record k { first_texts = n; next_texts = m; last_texts = joined_texts (k.last_texts / 2 ^ 32) (k.last_texts % 2 ^ 32) }) first next
    ∙ ap (λ n. record k { last_texts = n }) last

-- a cell that is not found equal to that of its key has none
pub no_medium_key : (cell made : Cell) (key : Medium) → key ≡ medium_key_of cell → made ≡ medium_cell key → (pointwise nat_eq made.texts cell.texts && pointwise int_eq made.residues cell.residues) ≡ false → (k : Medium) → medium_cell k ≢ cell
no_medium_key cell made key is e differs k same =
    let equal : made ≡ cell = e ∙ ap medium_cell (is ∙ ap medium_key_of (sym same) ∙ own_medium_key k) ∙ same in
    let found = found_equal made cell equal in
    cc

-- ---- the entries of keys

-- what is found
pub wide_found : (es : List (Narrow × Chain)) (k : Narrow) → lookup (is_at (narrow_cmp k)) es ≡ chain_at (wide_entries es) (wide k)
wide_found [] k = refl
wide_found (x ∷ es) k =
    ap (λ o. cond (is_eq o) (Some x.1) (lookup (is_at (narrow_cmp k)) es)) (same_order k x.0)
    ∙ ap (λ found. cond (is_at (cell_cmp (wide k)) (wide x.0)) (Some x.1) found) (wide_found es k)

-- what is put in
pub wide_put : (es : List (Narrow × Chain)) (k : Narrow) (v : Chain) → wide_entries (insert_entry narrow_cmp es k v) ≡ insert_entry cell_cmp (wide_entries es) (wide k) v
wide_put [] k v = refl
wide_put (x ∷ es) k v =
    put_one x es k v (insert_entry narrow_cmp es k v) (insert_entry cell_cmp (wide_entries es) (wide k) v) (wide_put es k v) (narrow_cmp k x.0)
    ∙ ap (λ o. match_ordering o ((wide k, v) ∷ wide_entries (x ∷ es)) ((wide x.0, v) ∷ wide_entries es) ((wide x.0, x.1) ∷ insert_entry cell_cmp (wide_entries es) (wide k) v)) (same_order k x.0)
  where
    put_one : (x : Narrow × Chain) (es : List (Narrow × Chain)) (k : Narrow) (v : Chain) (rest : List (Narrow × Chain)) (made : List (Cell × Chain)) → wide_entries rest ≡ made → (o : Ordering)
        → wide_entries (match_ordering o ((k, v) ∷ x ∷ es) ((x.0, v) ∷ es) (x ∷ rest)) ≡ match_ordering o ((wide k, v) ∷ wide_entries (x ∷ es)) ((wide x.0, v) ∷ wide_entries es) ((wide x.0, x.1) ∷ made)
    put_one x es k v rest made e Less = refl
    put_one x es k v rest made e Equal = refl
    put_one x es k v rest made e Greater = ap (λ l. (wide x.0, x.1) ∷ l) e

-- what is taken out
pub wide_taken : (es : List (Narrow × Chain)) (k : Narrow) → wide_entries (remove_entry (is_at (narrow_cmp k)) es) ≡ remove_entry (is_at (cell_cmp (wide k))) (wide_entries es)
wide_taken [] k = refl
wide_taken (x ∷ es) k =
    take_one x es (remove_entry (is_at (narrow_cmp k)) es) (remove_entry (is_at (cell_cmp (wide k))) (wide_entries es)) (wide_taken es k) (is_at (narrow_cmp k) x.0)
    ∙ ap (λ o. cond (is_eq o) (wide_entries es) ((wide x.0, x.1) ∷ remove_entry (is_at (cell_cmp (wide k))) (wide_entries es))) (same_order k x.0)
  where
    take_one : (x : Narrow × Chain) (es rest : List (Narrow × Chain)) (made : List (Cell × Chain)) → wide_entries rest ≡ made → (b : Bool) → wide_entries (cond b es (x ∷ rest)) ≡ cond b (wide_entries es) ((wide x.0, x.1) ∷ made)
    take_one x es rest made e true = refl
    take_one x es rest made e false = ap (λ l. (wide x.0, x.1) ∷ l) e

-- the cells of keys in order are in order
pub wide_line : (es : List (Narrow × Chain)) → IsStrictlySortedBy narrow_cmp (keys_of es) → IsLine (wide_entries es)
unfolding IsStrictlySortedBy
wide_line [] sorted = tt
wide_line (x ∷ es) sorted = (all_after x es sorted.0, wide_line es sorted.1)
  where
    all_after : (x : Narrow × Chain) (es : List (Narrow × Chain)) → AllByRecursion (λ y. narrow_cmp x.0 y ≡ Less) (keys_of es) → AllByRecursion (λ y. cell_cmp (wide x.0) y ≡ Less) (keys_of (wide_entries es))
    all_after x [] less = tt
    all_after x (y ∷ es) less = (sym (same_order x.0 y.0) ∙ less.0, all_after x es less.1)

-- ---- cells of one width

whole : (es : List (Cell × Chain)) → es ++ [] ≡ es
whole [] = refl
whole (x ∷ es) = ap (λ l. x ∷ l) (whole es)

-- all cells stand as keys where none stands as a cell
pub record AreNarrow (narrow : List (Narrow × Chain)) (cells old : List (Cell × Chain)) : Type 0 where
  pub empty : cells ≡ []
  pub view : wide_entries narrow ≡ old

pub all_narrow : (narrow : List (Narrow × Chain)) (cells old : List (Cell × Chain)) (b : Bool) → wide_entries narrow ++ cells ≡ old → (IsTrue b ↔ (length cells ≡ 0)) → IsTrue b → AreNarrow narrow cells old
all_narrow narrow cells old b view test t =
    let none : cells ≡ [] = empty_of cells (test.0 t) in
    record { empty = none; view = sym (whole (wide_entries narrow)) ∙ ap (λ l. wide_entries narrow ++ l) (sym none) ∙ view }

-- and as cells where one does
pub record AreWide (narrow : List (Narrow × Chain)) (cells old : List (Cell × Chain)) : Type 0 where
  pub empty : narrow ≡ []
  pub view : cells ≡ old

pub all_wide : (narrow : List (Narrow × Chain)) (cells old : List (Cell × Chain)) (b : Bool) → AreOneWidth narrow cells → wide_entries narrow ++ cells ≡ old → (IsTrue b ↔ (length cells ≡ 0)) → b ≡ false → AreWide narrow cells old
all_wide narrow cells old b one view test f =
    let none : narrow ≡ [] = only one in
    record { empty = none; view = ap (λ (l : List (Narrow × Chain)). wide_entries l ++ cells) (sym none) ∙ view }
  where
    only : (narrow ≡ []) ⊎ (cells ≡ []) → narrow ≡ []
    only (inl e) = e
    only (inr e) = let t : IsTrue b = test.1 (ap length e) in cc (t, f)

-- other keys in their place
pub new_keys : (narrow new : List (Narrow × Chain)) (cells old es : List (Cell × Chain)) → AreNarrow narrow cells old → wide_entries new ≡ es → wide_entries new ++ cells ≡ es
new_keys narrow new cells old es a e = ap (λ l. wide_entries new ++ l) a.empty ∙ whole (wide_entries new) ∙ e

-- other cells in their place
pub new_cells : (narrow : List (Narrow × Chain)) (cells new old es : List (Cell × Chain)) → AreWide narrow cells old → new ≡ es → wide_entries narrow ++ new ≡ es
new_cells narrow cells new old es a e = ap (λ (l : List (Narrow × Chain)). wide_entries l ++ new) a.empty ∙ e

pub narrow_length : (narrow : List (Narrow × Chain)) (cells old : List (Cell × Chain)) → AreNarrow narrow cells old → length narrow ≡ length old
narrow_length narrow cells old a = sym (entries_length wide narrow) ∙ ap length a.view

-- what is found by a key
pub found_by_key : (narrow : List (Narrow × Chain)) (cells old : List (Cell × Chain)) (k : Narrow) (cell : Cell) → AreNarrow narrow cells old → wide k ≡ cell → lookup (is_at (narrow_cmp k)) narrow ≡ chain_at old cell
found_by_key narrow cells old k cell a e = wide_found narrow k ∙ ap (λ c. chain_at (wide_entries narrow) c) e ∙ ap (λ es. chain_at es cell) a.view

-- what has no key is not found
pub not_found : (narrow : List (Narrow × Chain)) (cells old : List (Cell × Chain)) (cell : Cell) → AreNarrow narrow cells old → ((k : Narrow) → wide k ≢ cell) → chain_at old cell ≡ None
not_found narrow cells old cell a none = ap (λ es. chain_at es cell) (sym a.view) ∙ keyless wide narrow cell none

-- what is put in by a key
pub put_by_key : (narrow new : List (Narrow × Chain)) (cells old : List (Cell × Chain)) (k : Narrow) (cell : Cell) (v : Chain) → AreNarrow narrow cells old → wide k ≡ cell → new ≡ insert_entry narrow_cmp narrow k v
    → wide_entries new ++ cells ≡ insert_entry cell_cmp old cell v
put_by_key narrow new cells old k cell v a e made =
    new_keys narrow new cells old (insert_entry cell_cmp old cell v) a
    (ap wide_entries made ∙ wide_put narrow k v ∙ ap (λ c. insert_entry cell_cmp (wide_entries narrow) c v) e ∙ ap (λ es. insert_entry cell_cmp es cell v) a.view)

-- what is taken out by a key
pub taken_by_key : (narrow new : List (Narrow × Chain)) (cells old : List (Cell × Chain)) (k : Narrow) (cell : Cell) → AreNarrow narrow cells old → wide k ≡ cell → new ≡ remove_entry (is_at (narrow_cmp k)) narrow
    → wide_entries new ++ cells ≡ remove_entry (is_at (cell_cmp cell)) old
taken_by_key narrow new cells old k cell a e made =
    new_keys narrow new cells old (remove_entry (is_at (cell_cmp cell)) old) a
    (ap wide_entries made ∙ wide_taken narrow k ∙ ap (λ c. remove_entry (is_at (cell_cmp c)) (wide_entries narrow)) e ∙ ap (λ es. remove_entry (is_at (cell_cmp cell)) es) a.view)

-- the cells of all keys, with one more
pub put_widened : (narrow none : List (Narrow × Chain)) (cells old wider new : List (Cell × Chain)) (cell : Cell) (v : Chain) → AreNarrow narrow cells old → none ≡ [] → wider ≡ wide_entries narrow → new ≡ insert_entry cell_cmp wider cell v
    → wide_entries none ++ new ≡ insert_entry cell_cmp old cell v
put_widened narrow none cells old wider new cell v a empty is made =
    ap (λ (l : List (Narrow × Chain)). wide_entries l ++ new) empty ∙ made ∙ ap (λ es. insert_entry cell_cmp es cell v) (is ∙ a.view)

-- ---- keys that become cells

-- what holds of the cells of a list holds of one in it
of_one : (P : Cell → Type 0) (es : List (Cell × Chain)) (x : Cell × Chain) (rest : List (Cell × Chain)) → AllByRecursion P (keys_of (es ++ x ∷ rest)) → P x.0
of_one P [] x rest all = all.0
of_one P (y ∷ es) x rest all = of_one P es x rest all.1

-- the next cell of a line comes after those before it
next_after : (es : List (Cell × Chain)) (x : Cell × Chain) (rest : List (Cell × Chain)) → IsLine (es ++ x ∷ rest) → IsAfterAll x.0 es
next_after [] x rest line = tt
next_after (y ∷ es) x rest line =
    (turned y.0 x.0 Less (of_one (λ z. cell_cmp y.0 z ≡ Less) es x rest (first_of y (es ++ x ∷ rest) line)), next_after es x rest (rest_of y (es ++ x ∷ rest) line))

one_further : (es : List (Cell × Chain)) (x : Cell × Chain) (rest : List (Cell × Chain)) → (es ++ x ∷ []) ++ rest ≡ es ++ x ∷ rest
one_further [] x rest = refl
one_further (y ∷ es) x rest = ap (λ l. y ∷ l) (one_further es x rest)

-- one key more has become a cell
pub one_widened : (es : List (Cell × Chain)) (x : Narrow × Chain) (rest : List (Narrow × Chain)) (all : List (Cell × Chain)) → IsLine all → es ++ wide_entries (x ∷ rest) ≡ all
    → insert_entry cell_cmp es (wide x.0) x.1 ++ wide_entries rest ≡ all
one_widened es x rest all line e =
    ap (λ l. l ++ wide_entries rest) (sym (goes_after es (wide x.0) x.1 (next_after es (wide x.0, x.1) (wide_entries rest) (subst IsLine (sym e) line))))
    ∙ one_further es (wide x.0, x.1) (wide_entries rest) ∙ e

-- the next cell of a line is not among those before it, and goes to the end of them
pub next_none : (es : List (Cell × Chain)) (x : Cell × Chain) (rest all : List (Cell × Chain)) → IsLine all → es ++ x ∷ rest ≡ all → chain_at es x.0 ≡ None
next_none es x rest all line e = after_none es x.0 (next_after es x rest (subst IsLine (sym e) line))

pub next_put : (es : List (Cell × Chain)) (x : Cell × Chain) (rest all : List (Cell × Chain)) → IsLine all → es ++ x ∷ rest ≡ all → insert_entry cell_cmp es x.0 x.1 ++ rest ≡ all
next_put es x rest all line e = ap (λ l. l ++ rest) (sym (goes_after es x.0 x.1 (next_after es x rest (subst IsLine (sym e) line)))) ∙ one_further es x rest ∙ e
