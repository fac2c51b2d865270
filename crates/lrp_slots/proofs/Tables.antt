-- The lists that chains make, as a finite map from cells.
use Rattle.std.proofs.Common.{◌≡◌, ◌≢◌, ℕ, List, [], ◌∷◌, map, length, Option, Some, None, option_map, Bool, true, false, cond, Ordering, Less, Equal, Greater, subst, refl, sym, ap, ◌∙◌, unwrap_or}
use Rattle.std.specs.Prelude.{ℤ, T, ◌&&◌}
use Rattle.std.specs.List.{AllByRecursion}
use Rattle.std.specs.List.Sorted.{IsStrictlySortedBy}
use Rattle.std.proofs.lemmas.List.{length-map}
use Rattle.std.specs.Ordering.{nat_cmp, int_cmp, is_eq, is_lt, eq_by_cmp}
use Rattle.std.specs.Cmp.{IsTotalOrder, int_cmp_total, eq_by_cmp_equiv, tied_itself}
use Rattle.std.specs.Cmp.Lexicographic.{slice_cmp, lists_total, nat_list_cmp_total}
use Rattle.std.proofs.lemmas.Cmp.{on_total, then_total}
use Rattle.std.proofs.lemmas.Map.Lookups.{CmpEqualImpliesEq, exact_bytes, exact_pairs}
use Rattle.std.proofs.lemmas.Map.Made.{lookup-map_values, keys_of-map_values}
use Rattle.std.specs.FinMap.{slice_cmp-IsAntisymmetric, int_cmp-IsAntisymmetric, FinMap, from_entries, from_sorted, get, entries, keys, len, find, is_sorted, get-from_entries, get-from_sorted, entries-from_sorted, len-entries, get-insert, get-remove, same_map}
use Rattle.std.specs.FinMap.Entries.{below_all}
use Rattle.std.specs.Map.{lookup, keys_of}
use Rattle.std.specs.BTreeMap.{is_at}
use Rattle.lrp_model.specs.declared.tuples.Cell.{Cell}
use Rattle.lrp_slots.specs.declared.chains.Link.{Link}
use Rattle.lrp_slots.specs.declared.chains.Chain.{Chain}
use Rattle.lrp_slots.specs.Lists.{cell_cmp, list_at, set_list}
use Rattle.lrp_slots.specs.Links.{chain_at, chain_values, lists_of}

-- cells that compare alike are one
pub exact_cells : CmpEqualImpliesEq cell_cmp
exact_cells a b h =
    ap (λ (p : List ℕ × List ℤ). record { texts = p.0; residues = p.1 })
    (exact_pairs (slice_cmp nat_cmp) (slice_cmp int_cmp) exact_bytes (slice_cmp-IsAntisymmetric int_cmp-IsAntisymmetric) (a.texts, a.residues) (b.texts, b.residues) h)

-- the order of cells is total
pub cells_total : IsTotalOrder cell_cmp
cells_total = then_total (on_total (λ c. c.texts) nat_list_cmp_total) (on_total (λ c. c.residues) (lists_total int_cmp_total))

-- a test for equal
tied : (o : Ordering) → is_eq o ≡ true → o ≡ Equal
tied Less h = cc
tied Equal h = refl
tied Greater h = cc

-- a cell that a query for another finds is that cell
pub same_cell : (c q : Cell) → is_at (cell_cmp c) q ≡ true → c ≡ q
same_cell c q h = exact_cells c q (tied (cell_cmp c q) h)

-- a cell that it does not find is another
pub other_cell : (c q : Cell) → is_at (cell_cmp c) q ≡ false → c ≢ q
other_cell c q h e =
    let itself : is_eq (cell_cmp c c) ≡ true = ap is_eq (tied_itself cells_total c) in
    let other : is_eq (cell_cmp c c) ≡ false = subst (λ d. is_eq (cell_cmp c d) ≡ false) (sym e) h in
    cc

-- a list, unless it is empty
abbrev pub some_list : {X : Type 0} → List X → Option (List X)
some_list [] = None
some_list (x ∷ xs) = Some (x ∷ xs)

-- two tests that hold
both : (a b : Bool) → T a → T b → T (a && b)
both true b p q = q
both false b p q = p

-- a list of entries whose keys ascend, with other values
ascends_from : {X Y : Type 0} (f : X → Y) (c : Cell) (es : List (Cell × X)) → AllByRecursion (λ d. cell_cmp c d ≡ Less) (keys_of es) → T (below_all cell_cmp c (map (λ e. (e.0, f e.1)) es))
ascends_from f c [] all = tt
ascends_from f c (e ∷ es) all = both _ _ (subst (λ o. T (is_lt o)) (sym all.0) tt) (ascends_from f c es all.1)

-- the same of a whole list
pub ascends : {X Y : Type 0} (f : X → Y) (es : List (Cell × X)) → IsStrictlySortedBy cell_cmp (keys_of es) → T (is_sorted cell_cmp (map (λ e. (e.0, f e.1)) es))
unfolding IsStrictlySortedBy
ascends f [] sorted = tt
ascends f (e ∷ es) sorted = both _ _ (ascends_from f e.0 es sorted.0) (ascends f es sorted.1)

-- the map of ascending entries has them as its entries
pub entries_of : {X : Type 0} (es : List (Cell × X)) → T (is_sorted cell_cmp es) → entries (from_entries {R = cell_cmp} es) ≡ es
entries_of es sorted =
    ap entries (same_map cells_total exact_cells (from_entries {R = cell_cmp} es) (from_sorted es) (λ q. get-from_entries cells_total es q ∙ sym (get-from_sorted cell_cmp es q sorted)))
    ∙ entries-from_sorted cell_cmp es sorted

module _ {V : Type 0} where
  -- the entries of the lists are the cells with the values of their chains
  pub entries-lists_of : (slots : ℕ → Option (Link V)) (es : List (Cell × Chain)) → IsStrictlySortedBy cell_cmp (keys_of es) → entries (lists_of slots es) ≡ map (λ e. (e.0, chain_values slots e.1)) es
  entries-lists_of slots es sorted = entries_of (map (λ e. (e.0, chain_values slots e.1)) es) (ascends (chain_values slots) es sorted)

  -- there are as many cells as chains
  pub len-lists_of : (slots : ℕ → Option (Link V)) (es : List (Cell × Chain)) → IsStrictlySortedBy cell_cmp (keys_of es) → len (lists_of slots es) ≡ length es
  len-lists_of slots es sorted = len-entries (lists_of slots es) ∙ ap length (entries-lists_of slots es sorted) ∙ length-map es (λ e. (e.0, chain_values slots e.1))

  -- the cells are those of the chains
  pub keys-lists_of : (slots : ℕ → Option (Link V)) (es : List (Cell × Chain)) → IsStrictlySortedBy cell_cmp (keys_of es) → keys (lists_of slots es) ≡ keys_of es
  keys-lists_of slots es sorted = ap (map (λ e. e.0)) (entries-lists_of slots es sorted) ∙ keys_of-map_values (chain_values slots) es

  -- what is at a cell after a list was set
  pub get-set_list : (lists : FinMap cell_cmp (List V)) (c : Cell) (values : List V) (q : Cell) → get (set_list lists c values) q ≡ cond (eq_by_cmp cell_cmp q c) (some_list values) (get lists q)
  get-set_list lists c [] q = get-remove cells_total lists c q
  get-set_list lists c (value ∷ values) q = get-insert cells_total lists c (value ∷ values) q

  -- two ways to look up
  find_lookup : (es : List (Cell × List V)) (q : Cell) → find cell_cmp q es ≡ lookup (is_at (cell_cmp q)) es
  find_lookup [] q = refl
  find_lookup (e ∷ es) q = ap (cond (is_at (cell_cmp q) e.0) (Some e.1)) (find_lookup es q)

  -- the list at a cell is that of its chain
  pub get-lists_of : (slots : ℕ → Option (Link V)) (es : List (Cell × Chain)) (q : Cell) → get (lists_of slots es) q ≡ option_map (chain_values slots) (chain_at es q)
  get-lists_of slots es q =
      get-from_entries cells_total (map (λ e. (e.0, chain_values slots e.1)) es) q ∙ find_lookup (map (λ e. (e.0, chain_values slots e.1)) es) q
      ∙ lookup-map_values (chain_values slots) (is_at (cell_cmp q)) es

  -- the list of a cell that is held
  pub list_held : (slots : ℕ → Option (Link V)) (es : List (Cell × Chain)) (q : Cell) (chain : Chain) → chain_at es q ≡ Some chain → list_at (lists_of slots es) q ≡ chain_values slots chain
  list_held slots es q chain e = ap (λ o. unwrap_or o []) (get-lists_of slots es q ∙ ap (option_map (chain_values slots)) e)

  -- the list of a cell that is not held
  pub list_absent : (slots : ℕ → Option (Link V)) (es : List (Cell × Chain)) (q : Cell) → chain_at es q ≡ None → list_at (lists_of slots es) q ≡ []
  list_absent slots es q e = ap (λ o. unwrap_or o []) (get-lists_of slots es q ∙ ap (option_map (chain_values slots)) e)

  -- one of two chains, as a list
  chosen : (old new : ℕ → Option (Link V)) (b : Bool) (w o : Option Chain) (values : List V) → option_map (chain_values new) w ≡ some_list values
      → (b ≡ false → (chain : Chain) → o ≡ Some chain → chain_values new chain ≡ chain_values old chain)
      → option_map (chain_values new) (cond b w o) ≡ cond b (some_list values) (option_map (chain_values old) o)
  chosen old new true w o values changed same = changed
  chosen old new false w None values changed same = refl
  chosen old new false w (Some chain) values changed same = ap Some (same refl chain refl)

  -- where one cell's chain changed, and the others keep their values, its list alone changed
  pub lists_set : (old new : ℕ → Option (Link V)) (es fs : List (Cell × Chain)) (c : Cell) (w : Option Chain) (values : List V)
      → ((q : Cell) → chain_at fs q ≡ cond (is_at (cell_cmp c) q) w (chain_at es q)) → option_map (chain_values new) w ≡ some_list values
      → ((q : Cell) (chain : Chain) → c ≢ q → chain_at es q ≡ Some chain → chain_values new chain ≡ chain_values old chain)
      → lists_of new fs ≡ set_list (lists_of old es) c values
  lists_set old new es fs c w values updates changed same = same_map cells_total exact_cells _ _ (λ q.
      get-lists_of new fs q ∙ ap (option_map (chain_values new)) (updates q)
      ∙ chosen old new (is_at (cell_cmp c) q) w (chain_at es q) values changed (λ apart chain e. same q chain (other_cell c q apart) e)
      ∙ ap (cond (is_at (cell_cmp c) q) (some_list values)) (sym (get-lists_of old es q))
      ∙ ap (λ b. cond b (some_list values) (get (lists_of old es) q)) ((eq_by_cmp_equiv cells_total).symm c q)
      ∙ sym (get-set_list (lists_of old es) c values q))
