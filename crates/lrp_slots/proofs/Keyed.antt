-- Keys in line: what is found, put in or taken out by a key is so by its cell.
use Rattle.std.proofs.Common.{◌≡◌, ◌≢◌, ℕ, zero, suc, ◌≤◌, ◌+◌, ◌<◌, arith, ap₂, ◌⊎◌, inl, inr, Bool, true, false, List, [], ◌∷◌, ◌++◌, length, take, None, Some, Ordering, Less, Equal, Greater, refl, sym, ap, subst, ◌∙◌}
use Rattle.std.specs.Result.{result_ok}
use Rattle.std.specs.Prelude.{Result, Ok, Err, Option, IfOk, IfErr, IfSome, IfNone, slice_get, slice_set, slice_index_or}
use Rattle.std.specs.List.{insert, remove}
use Rattle.std.specs.Map.{remove_entry}
use Rattle.std.specs.BTreeMap.{is_at, insert_entry}
use Rattle.std.proofs.lemmas.Map.Entries.{lookup_tail}
use Rattle.lrp_model.specs.declared.tuples.Cell.{Cell}
use Rattle.lrp_slots.specs.declared.chains.Chain.{Chain}
use Rattle.lrp_slots.specs.Keys.{entries_by}
use Rattle.lrp_slots.specs.Lists.{cell_cmp}
use Rattle.lrp_slots.specs.Links.{chain_at}
use Rattle.lrp_slots.specs.Lines.{IsLine, IsAfterAll, ComesBetween, IsGap, StandsInLine}
use Rattle.lrp_slots.proofs.Tables.{exact_cells, same_cell}
use Rattle.lrp_slots.proofs.Lines.{after_before, one_more, between_all, goes_after, goes_down, goes_up, stands, set_there, taken_there, put_at_gap, put_line, taken_line, no_line, one_in_read}

-- what a search tells where it finds a key and where it finds none
pub found_place : (r : Result ℕ ℕ) (o : Option ℕ) (P Q : ℕ → Type 0) → o ≡ result_ok r → ((i : ℕ) → P i → Q i) → IfOk r P → IfSome o Q
found_place (Ok i) o P Q e f p = subst (λ q. IfSome q Q) (sym e) (f i p)
found_place (Err i) o P Q e f p = subst (λ q. IfSome q Q) (sym e) tt

pub no_place : (r : Result ℕ ℕ) (o : Option ℕ) (P : ℕ → Type 0) (X : Type 0) → o ≡ result_ok r → ((i : ℕ) → P i → X) → IfErr r P → IfNone o X
no_place (Ok i) o P X e f p = subst (λ q. IfNone q X) (sym e) tt
no_place (Err i) o P X e f p = subst (λ q. IfNone q X) (sym e) (f i p)

-- a place between both ends is a gap
pub closed_gap : (es : List (Cell × Chain)) (k : Cell) (low high : ℕ) → ComesBetween es k low high → high ≤ low → IsGap es k low
closed_gap es k low high b le = let o = b.order in let same : high ≡ low = omega (arith, o, le) in subst (λ n. ComesBetween es k low n) same b

-- the line of what was put in or taken out
pub line_of_put : (es new : List (Cell × Chain)) (k : Cell) (v : Chain) → IsLine es → new ≡ insert_entry cell_cmp es k v → IsLine new
line_of_put es new k v line e = subst IsLine (sym e) (put_line es k v line)

pub line_of_taken : (es new : List (Cell × Chain)) (k : Cell) → IsLine es → new ≡ remove_entry (is_at (cell_cmp k)) es → IsLine new
line_of_taken es new k line e = subst IsLine (sym e) (taken_line es k line)

module _ {K : Type 0} (cell_of : K → Cell) where
  -- how many there are
  pub entries_length : (es : List (K × Chain)) → length (entries_by cell_of es) ≡ length es
  entries_length [] = refl
  entries_length (x ∷ es) = ap suc (entries_length es)

  -- a cell that has no key is not there
  pub keyless : (es : List (K × Chain)) (cell : Cell) → ((k : K) → cell_of k ≢ cell) → chain_at (entries_by cell_of es) cell ≡ None
  keyless [] cell none = refl
  keyless (x ∷ es) cell none = elim (tests (is_at (cell_cmp cell) (cell_of x.0))) [
    | inl t ↦ absurd (none x.0 (sym (same_cell cell (cell_of x.0) t)))
    | inr f ↦ lookup_tail (is_at (cell_cmp cell)) (cell_of x.0, x.1) (entries_by cell_of es) f ∙ keyless es cell none
  ]
    where
      tests : (b : Bool) → (b ≡ true) ⊎ (b ≡ false)
      tests true = inl refl
      tests false = inr refl

  -- one more key at the end
  pub entries_pushed : (es : List (K × Chain)) (x : K × Chain) → entries_by cell_of (es ++ x ∷ []) ≡ entries_by cell_of es ++ (cell_of x.0, x.1) ∷ []
  entries_pushed [] x = refl
  entries_pushed (y ∷ es) x = ap (λ l. (cell_of y.0, y.1) ∷ l) (entries_pushed es x)

  -- another entry at a place
  pub entries_set : (es : List (K × Chain)) (i : ℕ) (x : K × Chain) → entries_by cell_of (slice_set es i x) ≡ slice_set (entries_by cell_of es) i (cell_of x.0, x.1)
  entries_set [] i x = refl
  entries_set (y ∷ es) zero x = refl
  entries_set (y ∷ es) (suc i) x = ap (λ l. (cell_of y.0, y.1) ∷ l) (entries_set es i x)

  -- one entry more at a place
  pub entries_inserted : (es : List (K × Chain)) (i : ℕ) (x : K × Chain) → entries_by cell_of (insert es i x) ≡ insert (entries_by cell_of es) i (cell_of x.0, x.1)
  entries_inserted es zero x = refl
  entries_inserted [] (suc i) x = refl
  entries_inserted (y ∷ es) (suc i) x = ap (λ l. (cell_of y.0, y.1) ∷ l) (entries_inserted es i x)

  -- and one less
  pub entries_removed : (es : List (K × Chain)) (i : ℕ) → entries_by cell_of (remove es i) ≡ remove (entries_by cell_of es) i
  entries_removed [] zero = refl
  entries_removed [] (suc i) = refl
  entries_removed (y ∷ es) zero = refl
  entries_removed (y ∷ es) (suc i) = ap (λ l. (cell_of y.0, y.1) ∷ l) (entries_removed es i)

  -- the entry that is read at a place
  pub entry_read : (es : List (K × Chain)) (i : ℕ) (d : K × Chain) → i < length es → slice_get (entries_by cell_of es) i ≡ Some (cell_of (slice_index_or es i d).0, (slice_index_or es i d).1)
  entry_read [] i d lt = absurd (omega arith)
  entry_read (x ∷ es) zero d lt = refl
  entry_read (x ∷ es) (suc i) d lt = entry_read es i d (omega arith)

  -- all of a line
  pub all_between : (es : List (K × Chain)) (k : K) → ComesBetween (entries_by cell_of es) (cell_of k) 0 (length es)
  all_between es k = between_all (entries_by cell_of es) (cell_of k) (length es) (sym (entries_length es))

  -- a new entry put in at its gap
  pub key_inserted : (es : List (K × Chain)) (k : K) (v : Chain) (i : ℕ) → IsGap (entries_by cell_of es) (cell_of k) i → entries_by cell_of (insert es i (k, v)) ≡ insert_entry cell_cmp (entries_by cell_of es) (cell_of k) v
  key_inserted es k v i gap = entries_inserted es i (k, v) ∙ put_at_gap (entries_by cell_of es) (cell_of k) v i gap

  -- a line of keys as it is seen, and the place where a cell stands in it
  pub record IsFound (es : List (K × Chain)) (old : List (Cell × Chain)) (cell : Cell) (i : ℕ) : Type 0 where
    pub line : IsLine (entries_by cell_of es)
    pub view : entries_by cell_of es ≡ old
    pub stands : StandsInLine (entries_by cell_of es) cell i

  -- the entry there
  found_entry : (es : List (K × Chain)) (old : List (Cell × Chain)) (cell : Cell) (i : ℕ) (e : K × Chain) → (f : IsFound es old cell i) → e ≡ slice_index_or es i e → f.stands.entry ≡ (cell_of e.0, e.1)
  found_entry es old cell i e f at =
      let low : i < length es = (let w = f.stands.within in let size = entries_length es in omega (arith, w, size)) in
      let there = entry_read es i e low in
      let read = f.stands.read in
      let same : f.stands.entry ≡ (cell_of (slice_index_or es i e).0, (slice_index_or es i e).1) = cc in
      same ∙ ap (λ (x : K × Chain). (cell_of x.0, x.1)) (sym at)

  pub found_chain : (es : List (K × Chain)) (old : List (Cell × Chain)) (cell : Cell) (i : ℕ) (e : K × Chain) → IsFound es old cell i → e ≡ slice_index_or es i e → Some e.1 ≡ chain_at old cell
  found_chain es old cell i e f at = ap (λ (x : Cell × Chain). Some x.1) (sym (found_entry es old cell i e f at)) ∙ sym (stands (entries_by cell_of es) cell i f.line f.stands) ∙ ap (λ l. chain_at l cell) f.view

  -- another chain in its place
  pub found_replaced : (es : List (K × Chain)) (old : List (Cell × Chain)) (cell : Cell) (i : ℕ) (e : K × Chain) (v : Chain) → IsFound es old cell i → e ≡ slice_index_or es i e → entries_by cell_of (slice_set es i (e.0, v)) ≡ insert_entry cell_cmp old cell v
  found_replaced es old cell i e v f at =
      let same : cell_of e.0 ≡ cell = ap (λ (x : Cell × Chain). x.0) (sym (found_entry es old cell i e f at)) ∙ sym (exact_cells cell f.stands.entry.0 f.stands.same) in
      entries_set es i (e.0, v) ∙ ap (λ c. slice_set (entries_by cell_of es) i (c, v)) same ∙ set_there (entries_by cell_of es) cell v i f.stands.entry f.line f.stands.read f.stands.same ∙ ap (λ l. insert_entry cell_cmp l cell v) f.view

  pub replaced_line : (es : List (K × Chain)) (old : List (Cell × Chain)) (cell : Cell) (i : ℕ) (e : K × Chain) (v : Chain) → IsFound es old cell i → e ≡ slice_index_or es i e → IsLine (entries_by cell_of (slice_set es i (e.0, v)))
  replaced_line es old cell i e v f at = line_of_put old (entries_by cell_of (slice_set es i (e.0, v))) cell v (subst IsLine f.view f.line) (found_replaced es old cell i e v f at)

  -- the entry taken out
  pub found_removed : (es : List (K × Chain)) (old : List (Cell × Chain)) (cell : Cell) (i : ℕ) (new : List (K × Chain)) → IsFound es old cell i → new ≡ remove es i → entries_by cell_of new ≡ remove_entry (is_at (cell_cmp cell)) old
  found_removed es old cell i new f e =
      ap (entries_by cell_of) e ∙ entries_removed es i ∙ taken_there (entries_by cell_of es) cell i f.stands.entry f.line f.stands.read f.stands.same ∙ ap (remove_entry (is_at (cell_cmp cell))) f.view

  pub removed_line : (es : List (K × Chain)) (old : List (Cell × Chain)) (cell : Cell) (i : ℕ) (new : List (K × Chain)) → IsFound es old cell i → new ≡ remove es i → IsLine (entries_by cell_of new)
  removed_line es old cell i new f e = line_of_taken old (entries_by cell_of new) cell (subst IsLine f.view f.line) (found_removed es old cell i new f e)

  -- a cell that is missing among the keys is not held
  pub not_in_line : (es line : List (K × Chain)) (old : List (Cell × Chain)) (cell : Cell) → line ≡ es → entries_by cell_of es ≡ old → chain_at (entries_by cell_of line) cell ≡ None → chain_at old cell ≡ None
  not_in_line es line old cell same view none = ap (λ l. chain_at l cell) (sym view) ∙ ap (λ (l : List (K × Chain)). chain_at (entries_by cell_of l) cell) (sym same) ∙ none

  -- one more of the keys is in the tree
  pub one_more_key : (es : List (K × Chain)) (done : List (Cell × Chain)) (i : ℕ) (e : K × Chain) (cell : Cell) → IsLine (entries_by cell_of es) → i < length es → done ≡ take i (entries_by cell_of es) → e ≡ slice_index_or es i e → cell ≡ cell_of e.0
      → insert_entry cell_cmp done cell e.1 ≡ take (i + 1) (entries_by cell_of es)
  one_more_key es done i e cell line lt before at is =
      let read : slice_get (entries_by cell_of es) i ≡ Some (cell_of e.0, e.1) = entry_read es i e lt ∙ ap (λ (x : K × Chain). Some (cell_of x.0, x.1)) (sym at) in
      ap₂ (λ l c. insert_entry cell_cmp l c e.1) before is ∙ one_in_read (entries_by cell_of es) i (cell_of e.0, e.1) line read

  -- no key is in line
  pub empty_line : (es : List (K × Chain)) → es ≡ [] → IsLine (entries_by cell_of es)
  empty_line es e = subst (λ (l : List (K × Chain)). IsLine (entries_by cell_of l)) (sym e) no_line

  -- the line that a key was put into
  pub key_put_view : (es : List (K × Chain)) (old : List (Cell × Chain)) (k : K) (v : Chain) (i : ℕ) (new : List (K × Chain)) → entries_by cell_of es ≡ old → IsGap old (cell_of k) i → new ≡ insert es i (k, v)
      → entries_by cell_of new ≡ insert_entry cell_cmp old (cell_of k) v
  key_put_view es old k v i new view gap e =
      ap (entries_by cell_of) e ∙ key_inserted es k v i (subst (λ l. IsGap l (cell_of k) i) (sym view) gap) ∙ ap (λ l. insert_entry cell_cmp l (cell_of k) v) view

  pub key_put_line : (es : List (K × Chain)) (old : List (Cell × Chain)) (k : K) (v : Chain) (i : ℕ) (new : List (K × Chain)) → IsLine (entries_by cell_of es) → entries_by cell_of es ≡ old → IsGap old (cell_of k) i → new ≡ insert es i (k, v)
      → IsLine (entries_by cell_of new)
  key_put_line es old k v i new line view gap e = line_of_put old (entries_by cell_of new) (cell_of k) v (subst IsLine view line) (key_put_view es old k v i new view gap e)

  -- a gap in an empty line
  pub first_gap : (es : List (K × Chain)) (k : K) → length es ≡ 0 → IsGap (entries_by cell_of es) (cell_of k) 0
  first_gap es k e = subst (λ n. ComesBetween (entries_by cell_of es) (cell_of k) 0 n) e (all_between es k)

  -- one more key after all others
  pub pushed_view : (es : List (K × Chain)) (old : List (Cell × Chain)) (k : K) (v : Chain) (new : List (K × Chain)) → entries_by cell_of es ≡ old → new ≡ es ++ (k, v) ∷ [] → entries_by cell_of new ≡ old ++ (cell_of k, v) ∷ []
  pushed_view es old k v new view e = ap (entries_by cell_of) e ∙ entries_pushed es (k, v) ∙ ap (λ l. l ++ (cell_of k, v) ∷ []) view

  pub pushed_line : (es : List (K × Chain)) (old : List (Cell × Chain)) (k : K) (v : Chain) (new : List (K × Chain)) → IsLine (entries_by cell_of es) → entries_by cell_of es ≡ old → IsAfterAll (cell_of k) old → new ≡ es ++ (k, v) ∷ []
      → IsLine (entries_by cell_of new)
  pushed_line es old k v new line view after e = line_of_put old (entries_by cell_of new) (cell_of k) v (subst IsLine view line) (pushed_view es old k v new view e ∙ goes_after old (cell_of k) v after)

  -- the cell that is read at a place comes after those before it, and goes to the end of them
  pub after_read : (es : List (K × Chain)) (old done : List (Cell × Chain)) (i : ℕ) (d : K × Chain) (cell : Cell) → IsLine old → entries_by cell_of es ≡ old → i < length es → done ≡ take i old → cell ≡ cell_of (slice_index_or es i d).0
      → IsAfterAll cell done
  after_read es old done i d cell line view lt before is =
      let read : slice_get old i ≡ Some (cell_of (slice_index_or es i d).0, (slice_index_or es i d).1) = ap (λ l. slice_get l i) (sym view) ∙ entry_read es i d lt in
      subst (λ k. IsAfterAll k done) (sym is)
      (subst (IsAfterAll (cell_of (slice_index_or es i d).0)) (sym before) (after_before old i (cell_of (slice_index_or es i d).0, (slice_index_or es i d).1) line read))

  pub pushed_read : (es : List (K × Chain)) (old done new : List (Cell × Chain)) (i : ℕ) (d : K × Chain) (cell : Cell) → entries_by cell_of es ≡ old → i < length es → done ≡ take i old → cell ≡ cell_of (slice_index_or es i d).0
      → new ≡ done ++ (cell, (slice_index_or es i d).1) ∷ [] → new ≡ take (i + 1) old
  pushed_read es old done new i d cell view lt before is e =
      let read : slice_get old i ≡ Some (cell_of (slice_index_or es i d).0, (slice_index_or es i d).1) = ap (λ l. slice_get l i) (sym view) ∙ entry_read es i d lt in
      e ∙ ap₂ (λ l k. l ++ (k, (slice_index_or es i d).1) ∷ []) before is ∙ one_more old i (cell_of (slice_index_or es i d).0, (slice_index_or es i d).1) read

module _ {K : Type 0} (cell_of : K → Cell) (cmp : K → K → Ordering) (ordered : (a b : K) → cmp a b ≡ cell_cmp (cell_of a) (cell_of b)) where
  -- what a key at a place says of another one
  module _ (es : List (K × Chain)) (k : K) (low high middle : ℕ) (d : K × Chain) where
    within_line : ComesBetween (entries_by cell_of es) (cell_of k) low high → middle < high → middle < length es
    within_line b lt = let w = b.within in let size = entries_length cell_of es in omega (arith, w, size, lt)

    pub key_less : IsLine (entries_by cell_of es) → ComesBetween (entries_by cell_of es) (cell_of k) low high → low ≤ middle → middle < high → cmp k (slice_index_or es middle d).0 ≡ Less → ComesBetween (entries_by cell_of es) (cell_of k) low middle
    key_less line b le lt less =
        goes_down (entries_by cell_of es) (cell_of k) low high middle (cell_of (slice_index_or es middle d).0, (slice_index_or es middle d).1) line b le lt (entry_read cell_of es middle d (within_line b lt))
        (sym (ordered k (slice_index_or es middle d).0) ∙ less)

    pub key_greater : IsLine (entries_by cell_of es) → ComesBetween (entries_by cell_of es) (cell_of k) low high → low ≤ middle → middle < high → cmp k (slice_index_or es middle d).0 ≡ Greater → ComesBetween (entries_by cell_of es) (cell_of k) (middle + 1) high
    key_greater line b le lt gt =
        goes_up (entries_by cell_of es) (cell_of k) low high middle (cell_of (slice_index_or es middle d).0, (slice_index_or es middle d).1) line b le lt (entry_read cell_of es middle d (within_line b lt))
        (sym (ordered k (slice_index_or es middle d).0) ∙ gt)

    pub key_equal : ComesBetween (entries_by cell_of es) (cell_of k) low high → middle < high → cmp k (slice_index_or es middle d).0 ≡ Equal → StandsInLine (entries_by cell_of es) (cell_of k) middle
    key_equal b lt same = record {
      within = let w = b.within in omega (arith, w, lt);
      entry = (cell_of (slice_index_or es middle d).0, (slice_index_or es middle d).1);
      read = entry_read cell_of es middle d (within_line b lt);
      same = sym (ordered k (slice_index_or es middle d).0) ∙ same;
    }

  -- a gap after the last key, and one in an empty line
  pub end_gap : (es : List (K × Chain)) (k : K) (last : ℕ) (d : K × Chain) → IsLine (entries_by cell_of es) → last + 1 ≡ length es → cmp k (slice_index_or es last d).0 ≡ Greater → IsGap (entries_by cell_of es) (cell_of k) (length es)
  end_gap es k last d line e gt =
      subst (λ n. ComesBetween (entries_by cell_of es) (cell_of k) n (length es)) e (key_greater es k 0 (length es) last d line (all_between cell_of es k) (omega arith) (omega (arith, e)) gt)
