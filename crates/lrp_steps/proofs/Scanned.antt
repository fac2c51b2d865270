-- The tuples for which a relation holds the values of an atom's terms.
use Rattle.std.proofs.Common.{◌≡◌, ◌≢◌, ℕ, zero, suc, ◌+◌, ◌<◌, ◌≤◌, ◌^◌, ◌⊎◌, inl, inr, Bool, true, false, cond, List, [], ◌∷◌, ◌++◌, length, drop, map, refl, sym, ap, ap₂, subst, ◌∙◌, arith, get_or, Contains, to_z, of_z}
use Rattle.std.specs.Int.{w64}
use Rattle.std.specs.Prelude.{ℤ, pos, nat_abs, max, All, AllPairs, ◌+ℤ◌, ◌≤ℤ◌, flat_map}
use Rattle.std.specs.List.{AllByRecursion, AllZip}
use Rattle.std.proofs.lemmas.Int.{ints}
use Rattle.std.proofs.lemmas.Bool.{cases_lt}
use Rattle.std.proofs.lemmas.List.{drop_more, drop_all}
use Rattle.std.proofs.lemmas.List.Elements.{Contains-append_left, Contains-append_right}
use Rattle.std.proofs.lemmas.List.Sums.{sum_by-cons}
use Rattle.lrp_theory.specs.Divides.{Divides}
use Rattle.lrp_theory.proofs.Modulo.{small_multiple}
use Rattle.lrp_model.specs.Reach.{greatest, scan_reach}
use Rattle.lrp_model.specs.Rows.{time, text, IsInRow}
use Rattle.lrp_model.specs.Satisfaction.{Assignment, term_value}
use Rattle.lrp_model.specs.Sorts.{is_time, is_data, FitsColumn as FitsIn, time_count, text_count}
use Rattle.lrp_model.specs.Texts.{Text, Identifier, Ascends}
use Rattle.lrp_model.specs.declared.formulas.DataTerm.TheVariants.{Var as data_var, Const as data_const}
use Rattle.lrp_model.specs.declared.formulas.Term.{Term}
use Rattle.lrp_model.specs.declared.formulas.Term.TheVariants.{Time as time_term, Data as data_term}
use Rattle.lrp_model.specs.declared.formulas.TimeTerm.TheVariants.{Var as time_var, Int as time_int}
use Rattle.lrp_model.specs.declared.relations.Bound.{Bound}
use Rattle.lrp_model.specs.declared.relations.Column.{Column}
use Rattle.lrp_model.specs.declared.relations.Relation.{Relation}
use Rattle.lrp_model.specs.declared.relations.Row.{Row}
use Rattle.lrp_model.specs.declared.relations.Value.{Value}
use Rattle.lrp_model.specs.declared.relations.Value.TheVariants.{Point, Const}
use Rattle.lrp_model.specs.declared.tuples.Shape.{Shape}
use Rattle.lrp_model.proofs.Ascending.{all_at}
use Rattle.lrp_model.proofs.Decided.{contains_first}
use Rattle.lrp_store.specs.Growing.{IsAdded, IsRefused}
use Rattle.lrp_store.specs.Stores.{StoreView, IsStore, HasReach}
use Rattle.lrp_store.specs.Tables.{AreTexts}
use Rattle.lrp_tables.specs.declared.table.Table.{Table}
use Rattle.lrp_store.proofs.Grown.{Set}
use Rattle.lrp_tables.specs.Calls.{CanBeRow, CanStand}
use Rattle.lrp_tables.specs.Steps.{CanScan}
use Rattle.lrp_tables.specs.Caps.{InhabitsMoreThan}
use Rattle.lrp_tables.specs.Columns.{scan_times, scan_texts, texts_of_term, times_of_term}
use Rattle.lrp_tables.specs.Tables.{AreNamesAmong, HasTexts, IsScanned, IsTableOf}
use Rattle.lrp_tables.proofs.CellsNamed.{AreTuplesOf, env_of, env_times, env_texts}
use Rattle.lrp_tables.proofs.HeadNames.{pairs_apart}
use Rattle.lrp_tables.proofs.Joining.{joint_differs, in_joint_right}
use Rattle.lrp_tables.proofs.Named.{some_is}
use Rattle.lrp_systems.specs.Parts.{Fits, system_reach}
use Rattle.lrp_steps.specs.Patterns.{parts_of, FitsInto, IsOver, MatchesPattern}
use Rattle.lrp_steps.specs.Rows.{bounds_reach, offsets_reach, CanBeRead, DividesPeriod, HasSmallPeriod, HasNoRow, IsOfRow, IsRowTuple}
use Rattle.lrp_steps.specs.declared.pattern.Pattern.{Pattern}
use Rattle.lrp_steps.proofs.Leaves.{joint_short}
use Rattle.lrp_steps.proofs.Parts.{added_nothing}
use Rattle.lrp_tables.proofs.Gathering.{IsGathering, added_as, gathering_none, gathering_more, gathering_refused, gathered, refused_as}
use Rattle.lrp_steps.proofs.Steps.{over_tuples, has_texts, step_table, step_few, step_many, step_reach, empty_store, abs_is, positive, same_word}

-- ---- one row

module _ (domain : List Text) (times texts : List Identifier) (terms : List Term) (row : Row) (shape : Shape) where
  abbrev pub RowTuples : Set
  RowTuples = IsOver shape (length domain) (IsRowTuple domain times texts terms row)

  -- no tuple is of a row without members
  row_nothing : HasNoRow domain times texts terms row → (xs : List ℤ) (ns : List ℕ) → RowTuples xs ns → ⊥
  row_nothing fails xs ns h = fails.none h.is.env ns h.is.texts_are h.is.is

  module _ (p : Pattern) (w : IsOfRow domain times texts terms row p) where
    row_from : (xs : List ℤ) (ns : List ℕ) → RowTuples xs ns → IsOver shape (length domain) (MatchesPattern p) xs ns
    row_from xs ns h = record { times_count = h.times_count; texts_count = h.texts_count; known = h.known; is = subst (λ l. MatchesPattern p l ns) (sym h.is.times_are) (w.from h.is.env ns h.is.texts_are h.is.is) }

    -- what suits the pattern is that of the tuple's own assignment
    row_to : Ascends domain → AllPairs ◌≢◌ times → AllPairs ◌≢◌ texts → length times ≡ shape.times → length texts ≡ shape.texts → (xs : List ℤ) (ns : List ℕ) → IsOver shape (length domain) (MatchesPattern p) xs ns → RowTuples xs ns
    row_to ascends td xd et ex xs ns h =
        let e : map (env_of domain ascends times texts td xd xs ns).times times ≡ xs = env_times domain ascends times texts td xd xs ns (h.times_count ∙ sym et) in
        let a : AreTexts domain ns (map (env_of domain ascends times texts td xd xs ns).texts texts) = env_texts domain ascends times texts td xd xs ns (h.texts_count ∙ sym ex) h.known in
        record {
          times_count = h.times_count;
          texts_count = h.texts_count;
          known = h.known;
          is = record { env = env_of domain ascends times texts td xd xs ns; times_are = sym e; texts_are = a; is = w.to (env_of domain ascends times texts td xd xs ns) ns a (subst (λ l. MatchesPattern p l ns) (sym e) h.is) };
        }

-- ---- values and names

module _ (one other : Assignment) where
  term_same : (t : Term) → ((v : Identifier) → Contains (times_of_term t) v → one.times v ≡ other.times v) → ((v : Identifier) → Contains (texts_of_term t) v → one.texts v ≡ other.texts v) → term_value one t ≡ term_value other t
  term_same (time_term (time_var v plus)) h k = ap (λ x. time (x +ℤ plus)) (h v (contains_first v []))
  term_same (time_term (time_int x)) h k = refl
  term_same (data_term (data_var v)) h k = ap text (k v (contains_first v []))
  term_same (data_term (data_const t)) h k = refl

  -- assignments that agree on the names give the same values
  terms_same : (ts : List Term) → ((v : Identifier) → Contains (flat_map times_of_term ts) v → one.times v ≡ other.times v) → ((v : Identifier) → Contains (flat_map texts_of_term ts) v → one.texts v ≡ other.texts v) → map (term_value one) ts ≡ map (term_value other) ts
  terms_same [] h k = refl
  terms_same (t ∷ ts) h k = ap₂ (λ d ds. d ∷ ds)
      (term_same t (λ v c. h v (Contains-append_left (times_of_term t) (flat_map times_of_term ts) v c)) (λ v c. k v (Contains-append_left (texts_of_term t) (flat_map texts_of_term ts) v c)))
      (terms_same ts (λ v c. h v (Contains-append_right (times_of_term t) (flat_map times_of_term ts) v c)) (λ v c. k v (Contains-append_right (texts_of_term t) (flat_map texts_of_term ts) v c)))

-- equal values at all names are equal at each
same_at : {A : Type 0} (f g : Identifier → A) (names : List Identifier) → map f names ≡ map g names → (v : Identifier) → Contains names v → f v ≡ g v
same_at f g [] e v h = let low : h.0 < 0 = h.1 in absurd (omega (arith, low))
same_at f g (n ∷ names) e v (zero, low, is) = subst (λ u. f u ≡ g u) is (let d : f n ≡ g n = cc in d)
same_at f g (n ∷ names) e v (suc i, low, is) = same_at f g names (let d : map f names ≡ map g names = cc in d) v (i, omega (arith, low), is)

-- numbers have one text each
same_texts : (domain : List Text) (ns : List ℕ) (ts us : List Text) → AreTexts domain ns ts → AreTexts domain ns us → ts ≡ us
same_texts domain [] [] [] a b = refl
same_texts domain [] (t ∷ ts) us a b = absurd a
same_texts domain [] [] (u ∷ us) a b = absurd b
same_texts domain (n ∷ ns) [] us a b = absurd a
same_texts domain (n ∷ ns) (t ∷ ts) [] a b = absurd b
same_texts domain (n ∷ ns) (t ∷ ts) (u ∷ us) a b = ap₂ (λ x xs. x ∷ xs) (some_is (sym a.0 ∙ b.0)) (same_texts domain ns ts us a.1 b.1)

-- ---- counts

one_more : (b : Bool) → b ≡ true → (a m : ℕ) → a ≤ m → suc a ≤ cond b 1 0 + m
one_more true e a m h = omega (arith, h)
one_more false e a m h = cc

few_time_names : (columns : List Column) (terms : List Term) → AllZip FitsIn columns terms → length (flat_map times_of_term terms) ≤ time_count columns
few_time_names [] [] a = omega arith
few_time_names [] (t ∷ ts) a = absurd a
few_time_names (c ∷ cs) [] a = absurd a
few_time_names (c ∷ cs) (t ∷ ts) a = subst (λ n. length (flat_map times_of_term (t ∷ ts)) ≤ n) (sym (sum_by-cons (λ (d : Column). cond (is_time d.sort) 1 0) c cs)) (by t a.0 (few_time_names cs ts a.1))
  where
    by : (t : Term) → FitsIn c t → length (flat_map times_of_term ts) ≤ time_count cs → length (flat_map times_of_term (t ∷ ts)) ≤ cond (is_time c.sort) 1 0 + time_count cs
    by (time_term (time_var v plus)) f h = one_more (is_time c.sort) f (length (flat_map times_of_term ts)) (time_count cs) h
    by (time_term (time_int x)) f h = omega (arith, h)
    by (data_term d) f h = omega (arith, h)

few_text_names : (columns : List Column) (terms : List Term) → AllZip FitsIn columns terms → length (flat_map texts_of_term terms) ≤ text_count columns
few_text_names [] [] a = omega arith
few_text_names [] (t ∷ ts) a = absurd a
few_text_names (c ∷ cs) [] a = absurd a
few_text_names (c ∷ cs) (t ∷ ts) a = subst (λ n. length (flat_map texts_of_term (t ∷ ts)) ≤ n) (sym (sum_by-cons (λ (d : Column). cond (is_data d.sort) 1 0) c cs)) (by t a.0 (few_text_names cs ts a.1))
  where
    by : (t : Term) → FitsIn c t → length (flat_map texts_of_term ts) ≤ text_count cs → length (flat_map texts_of_term (t ∷ ts)) ≤ cond (is_data c.sort) 1 0 + text_count cs
    by (data_term (data_var v)) f h = one_more (is_data c.sort) f (length (flat_map texts_of_term ts)) (text_count cs) h
    by (data_term (data_const x)) f h = omega (arith, h)
    by (time_term t) f h = omega (arith, h)

zip_length : {A B : Type 0} (R : A → B → Type 0) (xs : List A) (ys : List B) → AllZip R xs ys → length xs ≡ length ys
zip_length R [] [] a = refl
zip_length R [] (y ∷ ys) a = absurd a
zip_length R (x ∷ xs) [] a = absurd a
zip_length R (x ∷ xs) (y ∷ ys) a = ap suc (zip_length R xs ys a.1)

-- ---- periods

divisor_low : (p k : ℤ) → pos 1 ≤ℤ p → pos 1 ≤ℤ k → Divides p k → p ≤ℤ k
divisor_low p k lp lk d = elim (cases_lt (nat_abs k) (nat_abs p)) [
  | inl less ↦ (let e : k ≡ pos 0 = small_multiple (nat_abs p) k (subst (λ q. Divides q k) (sym (abs_is p lp)) d) (omega (arith, ints, less, lp, lk)) (omega (arith, ints, less, lp, lk)) in absurd (omega (arith, ints, e, lk)))
  | inr more ↦ omega (arith, ints, more, lp, lk)
]

module _ (domain : List Text) (period : ℤ) (one : pos 1 ≤ℤ period) (top : period ≤ℤ pos (2 ^ 62)) where
  values_small : (columns : List Column) (values : List Value) → AllZip (CanStand domain period) columns values → AllByRecursion HasSmallPeriod values
  values_small [] [] a = tt
  values_small [] (v ∷ vs) a = absurd a
  values_small (c ∷ cs) [] a = absurd a
  values_small (c ∷ cs) (v ∷ vs) a = (by v a.0, values_small cs vs a.1)
    where
      by : (v : Value) → CanStand domain period c v → HasSmallPeriod v
      by (Point at) s = (s.1, (let l : at.period ≤ℤ period = divisor_low at.period period s.1 one s.2 in omega (arith, ints, l, top)))
      by (Const t) s = tt

  values_divide : (k : ℤ) → period ≡ k → (columns : List Column) (values : List Value) → AllZip (CanStand domain period) columns values → AllByRecursion (DividesPeriod k) values
  values_divide k e [] [] a = tt
  values_divide k e [] (v ∷ vs) a = absurd a
  values_divide k e (c ∷ cs) [] a = absurd a
  values_divide k e (c ∷ cs) (v ∷ vs) a = (by v a.0, values_divide k e cs vs a.1)
    where
      by : (v : Value) → CanStand domain period c v → DividesPeriod k v
      by (Point at) s = (s.1, subst (Divides at.period) e s.2)
      by (Const t) s = tt

-- ---- the reach of rows

greatest_append : (xs ys : List ℕ) → greatest (xs ++ ys) ≡ max (greatest xs) (greatest ys)
greatest_append [] ys = by (greatest ys)
  where
    by : (a : ℕ) → a ≡ max 0 a
    by a = omega arith
greatest_append (x ∷ xs) ys = by x (greatest (xs ++ ys)) (greatest xs) (greatest ys) (greatest_append xs ys)
  where
    by : (a b c d : ℕ) → b ≡ max c d → max a b ≡ max (max a c) d
    by a b c d e = omega (arith, e)

abbrev mosts : Row → List ℕ
mosts row = map (λ (bound : Bound). nat_abs bound.most) row.bounds

greatest_row : (rows : List Row) (i : ℕ) (row : Row) → i < length rows → row ≡ get_or rows i row → greatest (mosts row) ≤ greatest (flat_map mosts rows)
greatest_row [] i row low is = absurd (omega (arith, low))
greatest_row (r ∷ rows) zero row low is = by (greatest (mosts row)) (greatest (mosts r)) (greatest (flat_map mosts rows)) (greatest (mosts r ++ flat_map mosts rows)) (ap (λ q. greatest (mosts q)) is) (greatest_append (mosts r) (flat_map mosts rows))
  where
    by : (a b c d : ℕ) → a ≡ b → d ≡ max b c → a ≤ d
    by a b c d e f = omega (arith, e, f)
greatest_row (r ∷ rows) (suc i) row low is = by (greatest (mosts row)) (greatest (mosts r)) (greatest (flat_map mosts rows)) (greatest (mosts r ++ flat_map mosts rows)) (greatest_row rows i row (omega (arith, low)) is) (greatest_append (mosts r) (flat_map mosts rows))
  where
    by : (a b c d : ℕ) → a ≤ c → d ≡ max b c → a ≤ d
    by a b c d e f = omega (arith, e, f)

-- ---- all rows

-- the tuple is of some row of the list
pub record IsAtomTuple (domain : List Text) (times texts : List Identifier) (terms : List Term) (rows : List Row) (xs : List ℤ) (ns : List ℕ) : Type 0 where
  pub row : Row
  pub listed : Contains rows row
  pub is : IsRowTuple domain times texts terms row xs ns

-- of the tuples of all rows, all were added but those of the rows that are left
pub record IsScanning (domain : List Text) (times texts : List Identifier) (terms : List Term) (rows rest : List Row) (cap high : ℕ) (start out : StoreView) : Type 0 where
  pub gathering : IsGathering (IsOver start.shape (length domain) (IsAtomTuple domain times texts terms rows)) (IsAtomTuple domain times texts terms rest) cap high start out

module _ (domain : List Text) (ascends : Ascends domain) (relation : Relation) (terms : List Term) (period : ℤ) (one : pos 1 ≤ℤ period) (top : period ≤ℤ pos (2 ^ 62)) (can : CanScan domain period relation terms) (room : scan_reach relation.rows terms (nat_abs period) ≤ 2 ^ 62)
    (times texts : List Identifier) (et : times ≡ scan_times terms) (ex : texts ≡ scan_texts terms) (cap : ℕ) (start : StoreView) (begun : start ≡ empty_store times texts (nat_abs (to_z w64 (of_z w64 period)))) where
  abbrev k : ℕ
  k = nat_abs period

  abbrev high : ℕ
  high = scan_reach relation.rows terms k

  low : 0 < k
  low = positive period one

  fresh : start ≡ empty_store times texts k
  fresh = begun ∙ ap (λ n. empty_store times texts n) (same_word period one top)

  abbrev shape : Shape
  shape = record { times = length times; texts = length texts }

  start_shape : start.shape ≡ shape
  start_shape = ap (λ (s : StoreView). s.shape) fresh

  start_period : start.period ≡ k
  start_period = ap (λ (s : StoreView). s.period) fresh

  -- ---- the columns

  pub few_times : length times ≤ 8
  few_times = subst (λ l. length l ≤ 8) (sym et) (by (length (scan_times terms)) (length (flat_map times_of_term terms)) (time_count relation.columns) (joint_short [] (flat_map times_of_term terms)) (few_time_names relation.columns terms can.terms_fit) can.times)
    where
      by : (a b c : ℕ) → a ≤ 0 + b → b ≤ c → c ≤ 8 → a ≤ 8
      by a b c h g f = omega (arith, h, g, f)

  pub few_texts : length texts ≤ 8
  few_texts = subst (λ l. length l ≤ 8) (sym ex) (by (length (scan_texts terms)) (length (flat_map texts_of_term terms)) (text_count relation.columns) (joint_short [] (flat_map texts_of_term terms)) (few_text_names relation.columns terms can.terms_fit) can.texts)
    where
      by : (a b c : ℕ) → a ≤ 0 + b → b ≤ c → c ≤ 8 → a ≤ 8
      by a b c h g f = omega (arith, h, g, f)

  pub times_among : AreNamesAmong (flat_map times_of_term terms) times
  times_among = subst (AreNamesAmong (flat_map times_of_term terms)) (sym et) (in_joint_right [] (flat_map times_of_term terms))

  pub texts_among : AreNamesAmong (flat_map texts_of_term terms) texts
  texts_among = subst (AreNamesAmong (flat_map texts_of_term terms)) (sym ex) (in_joint_right [] (flat_map texts_of_term terms))

  differ_times : AllPairs ◌≢◌ times
  differ_times = subst (AllPairs ◌≢◌) (sym et) (joint_differs [] (flat_map times_of_term terms) (λ i j d l h. absurd (omega (arith, h))))

  differ_texts : AllPairs ◌≢◌ texts
  differ_texts = subst (AllPairs ◌≢◌) (sym ex) (joint_differs [] (flat_map texts_of_term terms) (λ i j d l h. absurd (omega (arith, h))))

  pub names_differ : AllPairs ◌≢◌ (times ++ texts)
  names_differ = pairs_apart times texts differ_times differ_texts (λ name h g. can.apart name (subst (λ l. Contains l name) et h) (subst (λ l. Contains l name) ex g))

  -- ---- the set

  abbrev Scanned : Assignment → Type 0
  Scanned = IsScanned domain relation terms

  abbrev Atoms : Set
  Atoms = IsAtomTuple domain times texts terms relation.rows

  -- what is said of a tuple's assignment is said of each that has the tuple
  moved : (env other : Assignment) (ns : List ℕ) → map env.times times ≡ map other.times times → AreTexts domain ns (map other.texts texts) → AreTexts domain ns (map env.texts texts) → map (term_value other) terms ≡ map (term_value env) terms
  moved env other ns e a b = terms_same other env terms (λ v h. same_at other.times env.times times (sym e) v (times_among v h)) (λ v h. same_at other.texts env.texts texts (same_texts domain ns (map other.texts texts) (map env.texts texts) a b) v (texts_among v h))

  are : AreTuplesOf domain times texts (IsOver shape (length domain) Atoms) Scanned
  are = over_tuples domain times texts shape (length domain) refl refl refl Atoms Scanned
      (λ env ns a h. record {
        known = subst (λ l. HasTexts domain l env) ex (has_texts domain texts env ns a);
        row = h.row;
        listed = h.listed;
        is = subst (IsInRow h.row) (moved env h.is.env ns h.is.times_are h.is.texts_are a) h.is.is;
      })
      (λ env m. subst (λ l. HasTexts domain l env) (sym ex) m.known)
      (λ env m ns a. record { row = m.row; listed = m.listed; is = record { env = env; times_are = refl; texts_are = a; is = m.is } })

  -- ---- row after row

  -- the reach, by the period of the store
  abbrev begun_high : ℕ
  begun_high = scan_reach relation.rows terms start.period

  as_high : (rest : List Row) (out : StoreView) → IsScanning domain times texts terms relation.rows rest cap begun_high start out → IsScanning domain times texts terms relation.rows rest cap high start out
  as_high rest out f = subst (λ n. IsScanning domain times texts terms relation.rows rest cap (scan_reach relation.rows terms n) start out) start_period f

  as_begun : (rest : List Row) (out : StoreView) → IsScanning domain times texts terms relation.rows rest cap high start out → IsScanning domain times texts terms relation.rows rest cap begun_high start out
  as_begun rest out f = subst (λ n. IsScanning domain times texts terms relation.rows rest cap (scan_reach relation.rows terms n) start out) (sym start_period) f

  pub scanning_none : IsStore start → IsScanning domain times texts terms relation.rows relation.rows cap begun_high start start
  scanning_none valid = as_begun relation.rows start (record { gathering = gathering_none (IsOver start.shape (length domain) Atoms) cap high start Atoms valid (λ xs ns h. h.is) })

  -- the rows as they are read
  module _ (read : List Row) (same : read ≡ relation.rows) (i : ℕ) (row : Row) (i_inside : i < length read) (row_is : row ≡ get_or read i row) where
    inside : i < length relation.rows
    inside = subst (λ l. i < length l) same i_inside

    is : row ≡ get_or relation.rows i row
    is = row_is ∙ ap (λ l. get_or l i row) same

    listed : Contains relation.rows row
    listed = (i, inside, sym is)

    row_can : CanBeRow domain period relation.columns row
    row_can = all_at (CanBeRow domain period relation.columns) relation.rows row can.rows listed

    row_high : bounds_reach row.bounds terms + k ≤ high
    row_high = by (greatest (mosts row)) (greatest (flat_map mosts relation.rows)) (offsets_reach terms) (greatest_row relation.rows i row inside is)
      where
        by : (a b c : ℕ) → a ≤ b → a + c + k ≤ b + c + k
        by a b c h = omega (arith, h)

    pub row_reads : CanBeRead terms row
    row_reads = record {
      count = sym (zip_length (CanStand domain period) relation.columns row.values row_can.values) ∙ zip_length FitsIn relation.columns terms can.terms_fit;
      values = values_small domain period one top relation.columns row.values row_can.values;
      room = by (bounds_reach row.bounds terms) high row_high room low;
    }
      where
        by : (a b : ℕ) → a + k ≤ b → b ≤ 2 ^ 62 → 0 < k → a < 2 ^ 62
        by a b h g l = omega (arith, h, g, l)

    module _ (out : StoreView) (g : IsScanning domain times texts terms relation.rows (drop i relation.rows) cap begun_high start out) where
      f : IsScanning domain times texts terms relation.rows (drop i relation.rows) cap high start out
      f = as_high (drop i relation.rows) out g

      same_shape : out.shape ≡ start.shape
      same_shape = f.gathering.grown.shape

      out_period : out.period ≡ k
      out_period = f.gathering.grown.period ∙ start_period

      row_valid : IsStore out
      row_valid = f.gathering.grown.valid

      row_times : length times ≡ out.shape.times
      row_times = ap (λ (q : Shape). q.times) (sym (same_shape ∙ start_shape))

      row_texts : length texts ≡ out.shape.texts
      row_texts = ap (λ (q : Shape). q.texts) (sym (same_shape ∙ start_shape))

      row_periods : AllByRecursion (DividesPeriod (pos out.period)) row.values
      row_periods = subst (λ n. AllByRecursion (DividesPeriod (pos n)) row.values) (sym out_period) (values_divide domain period one top (pos k) (sym (abs_is period one)) relation.columns row.values row_can.values)

      row_room : bounds_reach row.bounds terms + out.period ≤ 2 ^ 62
      row_room = subst (λ n. bounds_reach row.bounds terms + n ≤ 2 ^ 62) (sym out_period) (by (bounds_reach row.bounds terms + k) high row_high room)
        where
          by : (a b : ℕ) → a ≤ b → b ≤ 2 ^ 62 → a ≤ 2 ^ 62
          by a b h g = omega (arith, h, g)

      within : bounds_reach row.bounds terms + out.period ≤ high
      within = subst (λ n. bounds_reach row.bounds terms + n ≤ high) (sym out_period) row_high

      abbrev OfRow : Set
      OfRow = IsOver out.shape (length domain) (IsRowTuple domain times texts terms row)

      to_atoms : (xs : List ℤ) (ns : List ℕ) → OfRow xs ns → IsOver start.shape (length domain) Atoms xs ns
      to_atoms xs ns h =
          let g = subst (λ (q : Shape). IsOver q (length domain) (IsRowTuple domain times texts terms row) xs ns) same_shape h in
          record { times_count = g.times_count; texts_count = g.texts_count; known = g.known; is = record { row = row; listed = listed; is = g.is } }

      from_atoms : (xs : List ℤ) (ns : List ℕ) → IsOver start.shape (length domain) Atoms xs ns → IsAtomTuple domain times texts terms (drop i relation.rows) xs ns → OfRow xs ns ⊎ IsAtomTuple domain times texts terms (drop (i + 1) relation.rows) xs ns
      from_atoms xs ns h l = by (subst (λ rs. Contains rs l.row) (drop_more relation.rows i row inside ∙ ap (λ r. r ∷ drop (i + 1) relation.rows) (sym is)) l.listed)
        where
          by : Contains (row ∷ drop (i + 1) relation.rows) l.row → OfRow xs ns ⊎ IsAtomTuple domain times texts terms (drop (i + 1) relation.rows) xs ns
          by (zero, lo, e) = inl (subst (λ (q : Shape). IsOver q (length domain) (IsRowTuple domain times texts terms row) xs ns) (sym same_shape) (record { times_count = h.times_count; texts_count = h.texts_count; known = h.known; is = subst (λ r. IsRowTuple domain times texts terms r xs ns) (sym e) l.is }))
          by (suc j, lo, e) = inr (record { row = l.row; listed = (j, omega (arith, lo), e); is = l.is })

      -- nothing is added for a row without members
      pub row_passed : HasNoRow domain times texts terms row → IsAdded OfRow cap (bounds_reach row.bounds terms + out.period) out out
      row_passed fails = added_nothing cap (bounds_reach row.bounds terms + out.period) OfRow out row_valid (row_nothing domain times texts terms row out.shape fails)

      -- and for any other one what its pattern asks for
      module _ (p : Pattern) (w : IsOfRow domain times texts terms row p) (size : ℕ) (count : size ≡ length domain) where
        pub row_fits : FitsInto p out
        row_fits = record { fits = subst (λ n. All (Fits n out.period) (parts_of p)) row_times (w.fits out.period row_valid.period_low row_periods row_room); known = w.size }

        abbrev Asked : ℕ → Set
        Asked n = IsOver out.shape n (MatchesPattern p)

        asked_reach : system_reach out.period (parts_of p) ≤ bounds_reach row.bounds terms + out.period
        asked_reach = w.reach out.period (bounds_reach row.bounds terms + out.period) row_valid.period_low (omega arith)

        asked_row : (xs : List ℤ) (ns : List ℕ) → Asked (length domain) xs ns → OfRow xs ns
        asked_row = row_to domain times texts terms row out.shape p w ascends differ_times differ_texts row_times row_texts

        pub row_added : (new : StoreView) → IsAdded (Asked size) cap (system_reach out.period (parts_of p)) out new → IsAdded OfRow cap (bounds_reach row.bounds terms + out.period) out new
        row_added new a = added_as cap (Asked (length domain)) OfRow (system_reach out.period (parts_of p)) (bounds_reach row.bounds terms + out.period) asked_reach out new row_valid asked_row (row_from domain times texts terms row out.shape p w)
            (subst (λ n. IsAdded (Asked n) cap (system_reach out.period (parts_of p)) out new) count a)

        pub row_refused : (new : StoreView) → IsRefused (Asked size) cap (system_reach out.period (parts_of p)) out new → IsRefused OfRow cap (bounds_reach row.bounds terms + out.period) out new
        row_refused new r = refused_as cap (Asked (length domain)) OfRow (system_reach out.period (parts_of p)) (bounds_reach row.bounds terms + out.period) asked_reach out new row_valid asked_row
            (subst (λ n. IsRefused (Asked n) cap (system_reach out.period (parts_of p)) out new) count r)

      pub scanning_more : (new : StoreView) → IsAdded OfRow cap (bounds_reach row.bounds terms + out.period) out new → IsScanning domain times texts terms relation.rows (drop (i + 1) relation.rows) cap begun_high start new
      scanning_more new a = as_begun (drop (i + 1) relation.rows) new (record { gathering = gathering_more (IsOver start.shape (length domain) Atoms) cap high start (IsAtomTuple domain times texts terms (drop i relation.rows)) (IsAtomTuple domain times texts terms (drop (i + 1) relation.rows)) OfRow (bounds_reach row.bounds terms + out.period) out new f.gathering within to_atoms from_atoms a })

      pub scan_many : (new : StoreView) → IsRefused OfRow cap (bounds_reach row.bounds terms + out.period) out new → InhabitsMoreThan cap domain k (scan_times terms) (scan_texts terms) Scanned
      scan_many new r = subst (λ l. InhabitsMoreThan cap domain k (scan_times terms) l Scanned) ex (subst (λ l. InhabitsMoreThan cap domain k l texts Scanned) et
          (step_many domain ascends times texts differ_times differ_texts few_times few_texts k low (IsOver shape (length domain) Atoms) Scanned are cap start new fresh high
          (subst (λ (q : Shape). IsRefused (IsOver q (length domain) Atoms) cap high start new) start_shape (gathering_refused (IsOver start.shape (length domain) Atoms) cap high start (IsAtomTuple domain times texts terms (drop i relation.rows)) OfRow (bounds_reach row.bounds terms + out.period) out new f.gathering within to_atoms r))))

  -- ---- all of them

  module _ (read : List Row) (same : read ≡ relation.rows) (i : ℕ) (read_all : length read ≤ i) (out : StoreView) (g : IsScanning domain times texts terms relation.rows (drop i relation.rows) cap begun_high start out) where
    end : length relation.rows ≤ i
    end = subst (λ l. length l ≤ i) same read_all

    whole : IsScanning domain times texts terms relation.rows (drop i relation.rows) cap high start out
    whole = as_high (drop i relation.rows) out g

    all : IsAdded (IsOver shape (length domain) Atoms) cap high start out
    all = subst (λ (q : Shape). IsAdded (IsOver q (length domain) Atoms) cap high start out) start_shape (gathered (IsOver start.shape (length domain) Atoms) cap high start (IsAtomTuple domain times texts terms (drop i relation.rows)) out whole.gathering
        (λ xs ns h l. let c = subst (λ rs. Contains rs l.row) (drop_all i relation.rows end) l.listed in let lo : c.0 < 0 = c.1 in omega (arith, lo)))

    pub scan_table : (made : Table) → made.vars.times ≡ times → made.vars.texts ≡ texts → made.store ≡ out → IsTableOf domain (scan_times terms) (scan_texts terms) k Scanned made
    scan_table made mt mx ms = subst (λ l. IsTableOf domain (scan_times terms) l k Scanned made) ex (subst (λ l. IsTableOf domain l texts k Scanned made) et
        (step_table domain ascends times texts differ_times differ_texts few_times few_texts k low (IsOver shape (length domain) Atoms) Scanned are cap start out fresh high all made mt mx ms))

    pub scan_few : InhabitsMoreThan cap domain k (scan_times terms) (scan_texts terms) Scanned → ⊥
    scan_few more = step_few domain ascends times texts differ_times differ_texts few_times few_texts k low (IsOver shape (length domain) Atoms) Scanned are cap start out fresh high all
        (subst (λ l. InhabitsMoreThan cap domain k l texts Scanned) (sym et) (subst (λ l. InhabitsMoreThan cap domain k (scan_times terms) l Scanned) (sym ex) more))

    pub scan_high : HasReach out high
    scan_high = step_reach domain ascends times texts differ_times differ_texts few_times few_texts k low (IsOver shape (length domain) Atoms) Scanned are cap start out fresh high all

    pub made_times : length times ≡ out.shape.times
    made_times = ap (λ (q : Shape). q.times) (sym (all.grown.shape ∙ start_shape))

    pub made_texts : length texts ≡ out.shape.texts
    made_texts = ap (λ (q : Shape). q.texts) (sym (all.grown.shape ∙ start_shape))
