-- What entries stand for: those of a zone, place after place, and one more before others.
use Rattle.std.proofs.Common.{◌≡◌, ◌≢◌, ◌⊎◌, ℕ, zero, suc, ◌+◌, ◌<◌, ◌≤◌, inl, inr, List, [], ◌∷◌, ◌++◌, length, drop, replicate, Option, Some, None, true, false, cond, eqb, refl, sym, ap, subst, ◌∙◌, arith, get_or, set, get_or-set_same, get_or-set_other, length-set}
use Rattle.std.specs.Prelude.{ℤ, pos, ◌-◌}
use Rattle.std.specs.List.{AllByRecursion, range_with_len}
use Rattle.std.proofs.lemmas.Bool.{eqb-true, eqb-false, cases_lt, cases_eq}
use Rattle.std.proofs.lemmas.List.{drop_all, ext_get_or, length-map}
use Rattle.std.proofs.lemmas.List.FromFn.{get_or-map-range_with_len, length-range_with_len}
use Rattle.lrp_model.specs.declared.tuples.Cell.{Cell}
use Rattle.lrp_packed.specs.Entries.{ArePacked, IsEntryAt, IsEntryPut, IsFullSize, IsProper, IsPutInCell, bound_in, cell_of_entries, entry_for, read_from, residue_in, table_of_entries, text_in}
use Rattle.lrp_packed.specs.declared.zones.PackedEntry.{PackedEntry}

none_some : {X : Type 0} (x : X) → None ≡ Some x → ⊥
none_some x e = cc

-- what holds of all holds of one more and of each
all_push : {X : Type 0} (P : X → Type 0) (xs : List X) (x : X) → AllByRecursion P xs → P x → AllByRecursion P (xs ++ x ∷ [])
all_push P [] x all p = (p, tt)
all_push P (y ∷ xs) x all p = (all.0, all_push P xs x all.1 p)

pub all_at : {X : Type 0} (P : X → Type 0) (xs : List X) (n : ℕ) (d : X) → n < length xs → AllByRecursion P xs → P (get_or xs n d)
all_at P [] n d h all = absurd (omega arith)
all_at P (x ∷ xs) zero d h all = all.0
all_at P (x ∷ xs) (suc n) d h all = all_at P xs n d (omega arith) all.1

-- a cell is its texts and its residues
cell_is : (c : Cell) (texts : List ℕ) (residues : List ℤ) → c.texts ≡ texts → c.residues ≡ residues → c ≡ record { texts = texts; residues = residues }
cell_is c texts residues e f = ap (λ t. record { texts = t; residues = c.residues }) e ∙ ap (λ r. record { texts = texts; residues = r }) f

-- ---- an entry after others

push_other : (es : List PackedEntry) (e : PackedEntry) (q : ℕ) → e.place ≢ q → entry_for (es ++ e ∷ []) q ≡ entry_for es q
push_other [] e q d =
    elim (eqb e.place q) as (λ t. eqb e.place q ≡ t → cond t (Some e) None ≡ None) [
      | true ↦ λ is. absurd (d (eqb-true _ _ is))
      | false ↦ λ is. refl
    ] refl
push_other (x ∷ es) e q d =
    elim (eqb x.place q) as (λ t. cond t (Some x) (entry_for (es ++ e ∷ []) q) ≡ cond t (Some x) (entry_for es q)) [
      | true ↦ refl
      | false ↦ push_other es e q d
    ]

push_here : (es : List PackedEntry) (e : PackedEntry) → entry_for es e.place ≡ None → entry_for (es ++ e ∷ []) e.place ≡ Some e
push_here [] e none =
    elim (eqb e.place e.place) as (λ t. eqb e.place e.place ≡ t → cond t (Some e) None ≡ Some e) [
      | true ↦ λ is. refl
      | false ↦ λ is. absurd (eqb-false _ _ is refl)
    ] refl
push_here (x ∷ es) e none =
    elim (eqb x.place e.place) as (λ t. cond t (Some x) (entry_for es e.place) ≡ None → cond t (Some x) (entry_for (es ++ e ∷ []) e.place) ≡ Some e) [
      | true ↦ λ h. absurd (none_some x (sym h))
      | false ↦ λ h. push_here es e h
    ] none

-- ---- what stands at places

module _ {X : Type 0} (f : Option PackedEntry → X) (first count : ℕ) where
  read_at : (es : List PackedEntry) (i : ℕ) (d : X) → i < count → get_or (read_from f first count es) i d ≡ f (entry_for es (first + i))
  read_at es i d low = get_or-map-range_with_len (λ place. f (entry_for es place)) first count i (first + i) d low refl

  length_read : (es : List PackedEntry) → length (read_from f first count es) ≡ count
  length_read es = length-map (range_with_len first count) (λ place. f (entry_for es place)) ∙ length-range_with_len first count

  -- a list that has at each place what is read there
  read_is : (es : List PackedEntry) (d : X) (xs : List X) → length xs ≡ count → ((i : ℕ) → i < count → f (entry_for es (first + i)) ≡ get_or xs i d) → read_from f first count es ≡ xs
  read_is es d xs size each = ext_get_or d (read_from f first count es) xs (length_read es ∙ sym size) (λ i h. let l : length (read_from f first count es) ≡ count = length_read es in let low : i < count = omega arith in read_at es i d low ∙ each i low)

none_read : {X : Type 0} (f : Option PackedEntry → X) (first count : ℕ) → read_from f first count [] ≡ replicate count (f None)
none_read f first zero = refl
none_read f first (suc count) = ap (λ xs. f None ∷ xs) (none_read f (first + 1) count)

-- ---- the entries of a zone

module _ (cell : Cell) (table : List (Option ℤ)) where
  -- the entries are those of the first n places
  pub record AreFirst (n : ℕ) (es : List PackedEntry) : Type 0 where
    pub done : (q : ℕ) → q < n → IsEntryAt cell table q (entry_for es q)
    pub rest : (q : ℕ) → n ≤ q → entry_for es q ≡ None
    pub proper : AllByRecursion IsProper es

  pub first_none : (es : List PackedEntry) → es ≡ [] → AreFirst 0 es
  first_none es e = subst (AreFirst 0) (sym e) (record { done = λ q h. absurd (omega arith); rest = λ q h. refl; proper = tt })

  -- the next place has an entry
  pub first_push : (n : ℕ) (es : List PackedEntry) (e : PackedEntry) → IsEntryAt cell table n (Some e) → IsProper e → AreFirst n es → AreFirst (n + 1) (es ++ e ∷ [])
  first_push n es e is p f = record {
    done = λ q h. elim (cases_lt q n) [
      | inl low ↦ subst (IsEntryAt cell table q) (sym (push_other es e q (λ s. let at : e.place ≡ n = is.place_is in omega (arith, low, s, at)))) (f.done q low)
      | inr high ↦ let s : q ≡ n = omega arith in subst (λ k. IsEntryAt cell table k (entry_for (es ++ e ∷ []) k)) (sym s) (subst (IsEntryAt cell table n) (sym here) is)
    ];
    rest = λ q h. push_other es e q (λ s. let at : e.place ≡ n = is.place_is in omega (arith, h, s, at)) ∙ f.rest q (omega arith);
    proper = all_push IsProper es e f.proper p;
  }
    where
      here : entry_for (es ++ e ∷ []) n ≡ Some e
      here = ap (entry_for (es ++ e ∷ [])) (sym is.place_is) ∙ push_here es e (ap (entry_for es) is.place_is ∙ f.rest n (omega arith))

  -- or none
  pub first_pass : (n : ℕ) (es : List PackedEntry) → IsEntryAt cell table n None → AreFirst n es → AreFirst (n + 1) es
  first_pass n es is f = record {
    done = λ q h. elim (cases_lt q n) [
      | inl low ↦ f.done q low
      | inr high ↦ let s : q ≡ n = omega arith in subst (λ k. IsEntryAt cell table k (entry_for es k)) (sym s) (subst (IsEntryAt cell table n) (sym (f.rest n (omega arith))) is)
    ];
    rest = λ q h. f.rest q (omega arith);
    proper = f.proper;
  }

  -- those of all places stand for the zone
  pub all_first : (n : ℕ) (es : List PackedEntry) → n ≡ 97 → IsFullSize cell table → AreFirst n es → ArePacked cell table es
  all_first n es e size f = record {
    proper = f.proper;
    cell_is = sym (cell_is cell (read_from text_in 0 8 es) (read_from residue_in 8 8 es)
        (sym (read_is text_in 0 8 es 0 cell.texts size.texts (λ i h. ap (λ k. text_in (entry_for es k)) (from_none i) ∙ (f.done i (omega arith)).text h)))
        (sym (read_is residue_in 8 8 es (pos 0) cell.residues size.residues (λ i h. (f.done (8 + i) (omega arith)).residue (omega arith) (omega arith) ∙ ap (λ k. get_or cell.residues k (pos 0)) (back 8 i)))));
    table_is = read_is bound_in 16 81 es None table size.bounds (λ i h. (f.done (16 + i) (omega arith)).bound (omega arith) ∙ ap (λ k. get_or table k None) (back 16 i));
  }
    where
      from_none : (i : ℕ) → 0 + i ≡ i
      from_none i = omega arith

      back : (a i : ℕ) → a + i - a ≡ i
      back a i = omega arith

-- ---- an entry before others

module _ (e : PackedEntry) (es : List PackedEntry) where
  there : entry_for (e ∷ es) e.place ≡ Some e
  there =
      elim (eqb e.place e.place) as (λ t. eqb e.place e.place ≡ t → cond t (Some e) (entry_for es e.place) ≡ Some e) [
        | true ↦ λ is. refl
        | false ↦ λ is. absurd (eqb-false _ _ is refl)
      ] refl

  elsewhere : (q : ℕ) → e.place ≢ q → entry_for (e ∷ es) q ≡ entry_for es q
  elsewhere q d =
      elim (eqb e.place q) as (λ t. eqb e.place q ≡ t → cond t (Some e) (entry_for es q) ≡ entry_for es q) [
        | true ↦ λ is. absurd (d (eqb-true _ _ is))
        | false ↦ λ is. refl
      ] refl

  module _ {X : Type 0} (f : Option PackedEntry → X) (first count : ℕ) where
    -- it is read at its place
    read_in : (i : ℕ) → e.place ≡ first + i → i < count → read_from f first count (e ∷ es) ≡ set (read_from f first count es) i (f (Some e))
    read_in i at low =
        read_is f first count (e ∷ es) (f None) (set (read_from f first count es) i (f (Some e))) (length-set (read_from f first count es) i (f (Some e)) ∙ length_read f first count es) (λ p h. elim (cases_eq p i) [
          | inl same ↦ ap f (ap (entry_for (e ∷ es)) (sym (at ∙ ap (λ k. first + k) (sym same))) ∙ there) ∙ sym (ap (λ k. get_or (set (read_from f first count es) i (f (Some e))) k (f None)) same ∙ get_or-set_same (read_from f first count es) i (f (Some e)) (f None) inside)
          | inr other ↦ ap f (elsewhere (first + p) (λ s. other (let k : first + i ≡ first + p = sym at ∙ s in omega (arith, k)))) ∙ sym (get_or-set_other (read_from f first count es) i p (f (Some e)) (f None) other ∙ read_at f first count es p (f None) h)
        ])
      where
        inside : i < length (read_from f first count es)
        inside = let l : length (read_from f first count es) ≡ count = length_read f first count es in omega (arith, l, low)

    -- and nowhere else
    read_out : (e.place < first) ⊎ (first + count ≤ e.place) → read_from f first count (e ∷ es) ≡ read_from f first count es
    read_out out = read_is f first count (e ∷ es) (f None) (read_from f first count es) (length_read f first count es) (λ p h. ap f (elsewhere (first + p) (λ s. apart p h s out)) ∙ sym (read_at f first count es p (f None) h))
      where
        apart : (p : ℕ) → p < count → e.place ≡ first + p → (e.place < first) ⊎ (first + count ≤ e.place) → ⊥
        apart p h s (inl l) = omega (arith, h, s, l)
        apart p h s (inr l) = omega (arith, h, s, l)

-- a text, a residue or a bound is put
module _ (e : PackedEntry) (cell new : Cell) (table : List (Option ℤ)) where
  pub text_put : e.place < 8 → new.texts ≡ set cell.texts e.place e.text → new.residues ≡ cell.residues → IsEntryPut e cell new table table
  text_put low texts residues = record {
    cell_is = λ es h. cell_is new (read_from text_in 0 8 (e ∷ es)) (read_from residue_in 8 8 (e ∷ es))
        (texts ∙ ap (λ (c : Cell). set c.texts e.place e.text) h ∙ sym (read_in e es text_in 0 8 e.place (omega arith) low))
        (residues ∙ ap (λ (c : Cell). c.residues) h ∙ sym (read_out e es residue_in 8 8 (inl low)));
    table_is = λ es h. h ∙ sym (read_out e es bound_in 16 81 (inl (omega (arith, low))));
  }

  -- what is put into the cell alone
  pub cell_put : e.place < 16 → IsPutInCell e cell new → IsEntryPut e cell new table table
  cell_put low put = record { cell_is = put; table_is = λ es h. h ∙ sym (read_out e es bound_in 16 81 (inl low)) }

  pub residue_put : (i : ℕ) → e.place ≡ 8 + i → i < 8 → new.texts ≡ cell.texts → new.residues ≡ set cell.residues i e.time → IsEntryPut e cell new table table
  residue_put i at low texts residues = record {
    cell_is = λ es h. cell_is new (read_from text_in 0 8 (e ∷ es)) (read_from residue_in 8 8 (e ∷ es))
        (texts ∙ ap (λ (c : Cell). c.texts) h ∙ sym (read_out e es text_in 0 8 (inr (omega (arith, at)))))
        (residues ∙ ap (λ (c : Cell). set c.residues i e.time) h ∙ sym (read_in e es residue_in 8 8 i at low));
    table_is = λ es h. h ∙ sym (read_out e es bound_in 16 81 (inl (omega (arith, at, low))));
  }

pub bound_put : (e : PackedEntry) (cell : Cell) (table new : List (Option ℤ)) (i : ℕ) → e.place ≡ 16 + i → i < 81 → new ≡ set table i (Some e.time) → IsEntryPut e cell cell table new
bound_put e cell table new i at low made = record {
  cell_is = λ es h. h ∙ cell_is (cell_of_entries es) (read_from text_in 0 8 (e ∷ es)) (read_from residue_in 8 8 (e ∷ es))
      (sym (read_out e es text_in 0 8 (inr (omega (arith, at)))))
      (sym (read_out e es residue_in 8 8 (inr (omega (arith, at)))));
  table_is = λ es h. made ∙ ap (λ t. set t i (Some e.time)) h ∙ sym (read_in e es bound_in 16 81 i at low);
}

-- ---- from the last entry to the first

-- the cell and the table are those of the entries from a number on
pub record AreWritten (es : List PackedEntry) (left : ℕ) (cell : Cell) (table : List (Option ℤ)) : Type 0 where
  pub cell_is : cell ≡ cell_of_entries (drop left es)
  pub table_is : table ≡ table_of_entries (drop left es)

drop_one : (es : List PackedEntry) (k : ℕ) (d : PackedEntry) → k < length es → drop k es ≡ get_or es k d ∷ drop (suc k) es
drop_one [] k d h = absurd (omega arith)
drop_one (x ∷ es) zero d h = refl
drop_one (x ∷ es) (suc k) d h = drop_one es k d (omega arith)

pub written_none : (es : List PackedEntry) (left : ℕ) (cell : Cell) (table : List (Option ℤ)) → length es ≤ left → cell ≡ record { texts = replicate 8 0; residues = replicate 8 (pos 0) } → table ≡ replicate 81 None → AreWritten es left cell table
written_none es left cell table le c t = record {
  cell_is = c ∙ sym (ap cell_of_entries (drop_all left es le) ∙ cell_is (cell_of_entries []) (replicate 8 0) (replicate 8 (pos 0)) (none_read text_in 0 8) (none_read residue_in 8 8));
  table_is = t ∙ sym (ap table_of_entries (drop_all left es le) ∙ none_read bound_in 16 81);
}

pub written_more : (es : List PackedEntry) (left n : ℕ) (e d : PackedEntry) (cell new : Cell) (table more : List (Option ℤ)) → left ≡ suc n → n < length es → e ≡ get_or es n d → IsEntryPut e cell new table more → AreWritten es left cell table → AreWritten es n new more
written_more es left n e d cell new table more at low is put w = record {
  cell_is = put.cell_is (drop left es) w.cell_is ∙ ap cell_of_entries (sym all);
  table_is = put.table_is (drop left es) w.table_is ∙ ap table_of_entries (sym all);
}
  where
    all : drop n es ≡ e ∷ drop left es
    all = drop_one es n d low ∙ ap (λ x. x ∷ drop (suc n) es) (sym is) ∙ ap (λ k. e ∷ drop k es) (sym at)

-- the same for the cell alone
pub cell_more : (es : List PackedEntry) (left n : ℕ) (e d : PackedEntry) (cell new : Cell) → left ≡ suc n → n < length es → e ≡ get_or es n d → IsPutInCell e cell new → cell ≡ cell_of_entries (drop left es) → new ≡ cell_of_entries (drop n es)
cell_more es left n e d cell new at low is put w = put (drop left es) w ∙ ap cell_of_entries (sym (drop_one es n d low ∙ ap (λ x. x ∷ drop (suc n) es) (sym is) ∙ ap (λ k. e ∷ drop k es) (sym at)))

pub written_all : (es : List PackedEntry) (left : ℕ) (cell : Cell) (table : List (Option ℤ)) → left ≡ 0 → AreWritten es left cell table → (cell ≡ cell_of_entries es) × (table ≡ table_of_entries es)
written_all es left cell table none w = (w.cell_is ∙ ap (λ k. cell_of_entries (drop k es)) none, w.table_is ∙ ap (λ k. table_of_entries (drop k es)) none)
