-- A query with one time column has one answer text in rows of a period: the rows are fixed by the answers.
use Rattle.std.proofs.Common.{◌≡◌, ◌≢◌, ℕ, zero, suc, ◌+◌, ◌*◌, ◌⊎◌, inl, inr, List, [], ◌∷◌, length, Bool, true, false, Some, None, cond, negsuc, Less, Equal, Greater, arith, refl, sym, subst, ap, ap₂, ◌∙◌}
use Rattle.std.specs.Prelude.{ℤ, pos, ◌+ℤ◌, ◌-ℤ◌, ◌≤ℤ◌, ◌<ℤ◌, neg_ℤ, ◌↔◌, Contains, AllPairs}
use Rattle.std.specs.List.{AllByRecursion, AllZip}
use Rattle.std.specs.Str.{bytes_eq}
use Rattle.std.specs.Cmp.{IsTotalOrder}
use Rattle.std.specs.Cmp.Lexicographic.{bytes_decides, slice_cmp}
use Rattle.std.specs.Ordering.{int_cmp, nat_cmp, ordering_reverse, ordering_then}
use Rattle.std.specs.declared.cmp.Ordering.{Ordering}
use Rattle.std.proofs.Math.IntN.{◌*ℤ◌}
use Rattle.std.proofs.lemmas.Cmp.{int_cmp_total, lists_total, nat_cmp_total, nat_list_cmp_total, on_total, then_total, tied_itself}
use Rattle.std.proofs.lemmas.Int.{ints}
use Rattle.lrp_theory.specs.Divides.{Divides}
use Rattle.lrp_theory.proofs.Modulo.{Divides-+, Divides--, Divides-is, Divides-self, Divides-zero, small_multiple}
use Rattle.lrp_model.specs.AnswerTexts.{ComesBefore, HasPeriod, IsAnswerRelation, IsAnswerRow, IsAnswerTextOf, IsApart, IsLeastRowBound, IsOwnBound, MayStandBeside, OfOneCell, row_cell_cmp, value_residues, value_texts}
use Rattle.lrp_model.specs.Formulas.{Question}
use Rattle.lrp_model.specs.Printed.{relation_bytes}
use Rattle.lrp_model.specs.Rows.{Datum, IsInRow, IsOf, MeetsBound, rows_in, rows_of, text, time, times_of}
use Rattle.lrp_theory.specs.Entries.{node}
use Rattle.lrp_model.specs.Satisfaction.{IsAnswer, IsOfSort, Structure, structure}
use Rattle.lrp_model.specs.Sorts.{is_time, time_count}
use Rattle.lrp_model.proofs.ColumnCounts.{times_more, one_more, none_more}
use Rattle.lrp_model.specs.Texts.{Identifier, text_cmp}
use Rattle.lrp_model.specs.declared.relations.Bound.{Bound}
use Rattle.lrp_model.specs.declared.relations.Column.{Column}
use Rattle.lrp_model.specs.declared.relations.Relation.{Relation}
use Rattle.lrp_model.specs.declared.relations.Row.{Row}
use Rattle.lrp_model.specs.declared.relations.RowPoint.{RowPoint}
use Rattle.lrp_model.specs.declared.relations.Sort.{Sort}
use Rattle.lrp_model.specs.declared.relations.Sort.TheVariants.{Data, Named, Time}
use Rattle.lrp_model.specs.declared.relations.Value.{Value}
use Rattle.lrp_model.specs.declared.relations.Value.TheVariants.{Const, Point}
use Rattle.lrp_model.proofs.Ascending.{all_at}
use Rattle.lrp_spans.proofs.Lists.{head_in, in_cons, in_none, later, pairs_head, pairs_right}
use Rattle.lrp_store.proofs.Unions.{one_number}

-- ---- lists in a strict order are fixed by their elements
first_same : {X : Type 0} (R : X → X → Type 0) (x y : X) (xs ys : List X) → ((a b : X) → Contains (x ∷ xs) a → Contains (x ∷ xs) b → R a b → R b a → ⊥) → AllPairs R (x ∷ xs) → AllPairs R (y ∷ ys) → (y ≡ x) ⊎ Contains ys x → (x ≡ y) ⊎ Contains xs y → x ≡ y
first_same R x y xs ys strict p q (inl e) b = sym e
first_same R x y xs ys strict p q (inr m) (inl e) = e
first_same R x y xs ys strict p q (inr m) (inr n) = absurd (strict x y (head_in x xs) (later x xs y n) (pairs_head R x xs p y n) (pairs_head R y ys q x m))

-- the head doesn't stand in the list again
twice : {X : Type 0} (R : X → X → Type 0) (x : X) (xs : List X) → ((a b : X) → Contains (x ∷ xs) a → Contains (x ∷ xs) b → R a b → R b a → ⊥) → AllPairs R (x ∷ xs) → (z : X) → Contains xs z → x ≡ z → ⊥
twice R x xs strict p z c e =
    let r : R x x = subst (R x) (sym e) (pairs_head R x xs p z c) in
    strict x x (head_in x xs) (head_in x xs) r r

none_again : {X : Type 0} (R : X → X → Type 0) (x y : X) (xs ys : List X) → ((a b : X) → Contains (x ∷ xs) a → Contains (x ∷ xs) b → R a b → R b a → ⊥) → AllPairs R (y ∷ ys) → x ≡ y → (z : X) → Contains ys z → x ≡ z → ⊥
none_again R x y xs ys strict q e z c f =
    let r : R x x = subst (λ w. R w x) (sym e) (subst (R y) (sym f) (pairs_head R y ys q z c)) in
    strict x x (head_in x xs) (head_in x xs) r r

pub same_list : {X : Type 0} (R : X → X → Type 0) (xs ys : List X) → ((x y : X) → Contains xs x → Contains xs y → R x y → R y x → ⊥) → AllPairs R xs → AllPairs R ys → ((x : X) → Contains xs x → Contains ys x) → ((y : X) → Contains ys y → Contains xs y) → xs ≡ ys
same_list R [] [] strict p q to from = refl
same_list R [] (y ∷ ys) strict p q to from = absurd (in_none y (from y (head_in y ys)))
same_list R (x ∷ xs) [] strict p q to from = absurd (in_none x (to x (head_in x xs)))
same_list R (x ∷ xs) (y ∷ ys) strict p q to from =
    let e : x ≡ y = first_same R x y xs ys strict p q (in_cons y ys x (to x (head_in x xs))) (in_cons x xs y (from y (head_in y ys))) in
    let t : xs ≡ ys = same_list R xs ys (λ a b ca cb. strict a b (later x xs a ca) (later x xs b cb)) (pairs_right R (x ∷ []) xs p) (pairs_right R (y ∷ []) ys q)
    (λ z c. elim (in_cons y ys z (to z (later x xs z c))) [
      | inl f ↦ absurd (twice R x xs strict p z c (e ∙ f))
      | inr m ↦ m
    ])
    (λ z c. elim (in_cons x xs z (from z (later y ys z c))) [
      | inl f ↦ absurd (none_again R x y xs ys strict q e z c f)
      | inr m ↦ m
    ]) in
    ap₂ (λ z zs. z ∷ zs) e t

-- ---- tuples with another time

-- the tuple with z at each time
retimed : ℤ → List Datum → List Datum
retimed z [] = []
retimed z (time x ∷ tuple) = time z ∷ retimed z tuple
retimed z (text t ∷ tuple) = text t ∷ retimed z tuple

retimed_none : (z : ℤ) (tuple : List Datum) → times_of tuple ≡ [] → retimed z tuple ≡ tuple
unfolding retimed
retimed_none z [] e = refl
retimed_none z (time x ∷ tuple) e = absurd (no_list x (times_of tuple) e)
  where
    no_list : (x : ℤ) (xs : List ℤ) → x ∷ xs ≡ [] → ⊥
    no_list x xs e = cc
retimed_none z (text t ∷ tuple) e = ap (λ r. text t ∷ r) (retimed_none z tuple e)

retimed_times : (z x : ℤ) (tuple : List Datum) → times_of tuple ≡ x ∷ [] → times_of (retimed z tuple) ≡ z ∷ []
unfolding retimed
retimed_times z x [] e = absurd (no_list x [] (sym e))
  where
    no_list : (x : ℤ) (xs : List ℤ) → x ∷ xs ≡ [] → ⊥
    no_list x xs e = cc
retimed_times z x (time y ∷ tuple) e = let n : times_of tuple ≡ [] = cc in ap (λ xs. z ∷ xs) (ap times_of (retimed_none z tuple n) ∙ n)
retimed_times z x (text t ∷ tuple) e = retimed_times z x tuple e

moved_member : (K : ℕ) (p : RowPoint) (x z : ℤ) → p.period ≡ pos K → Divides (pos K) (z -ℤ x) → Divides p.period (x -ℤ p.offset) → Divides p.period (z -ℤ p.offset)
moved_member K p x z e d h = subst (λ k. Divides k (z -ℤ p.offset)) (sym e)
    (Divides-is (pos K) ((z -ℤ x) +ℤ (x -ℤ p.offset)) _ (omega (arith, ints)) (Divides-+ (pos K) (z -ℤ x) (x -ℤ p.offset) d (subst (λ k. Divides k (x -ℤ p.offset)) e h)))

retimed_of : (K : ℕ) (values : List Value) (tuple : List Datum) (x z : ℤ) → AllByRecursion (HasPeriod K) values → times_of tuple ≡ x ∷ [] → Divides (pos K) (z -ℤ x) → IsOf values tuple → IsOf values (retimed z tuple)
unfolding retimed
retimed_of K [] [] x z p e d h = h
retimed_of K [] (w ∷ tuple) x z p e d h = absurd h
retimed_of K (v ∷ values) [] x z p e d h = absurd (no_of v h)
  where
    no_of : (v : Value) → IsOf (v ∷ values) [] → ⊥
    no_of (Point q) h = h
    no_of (Const t) h = h
retimed_of K (Point q ∷ values) (time y ∷ tuple) x z p e d h =
    let n : times_of tuple ≡ [] = cc in
    let s : y ≡ x = cc in
    (moved_member K q x z p.0.0 d (subst (λ w. Divides q.period (w -ℤ q.offset)) s h.0), subst (IsOf values) (sym (retimed_none z tuple n)) h.1)
retimed_of K (Point q ∷ values) (text t ∷ tuple) x z p e d h = absurd h
retimed_of K (Const c ∷ values) (time y ∷ tuple) x z p e d h = absurd h
retimed_of K (Const c ∷ values) (text t ∷ tuple) x z p e d h = (h.0, retimed_of K values tuple x z p.1 e d h.1)

-- ---- the values of a row are fixed by a member
same_point : (K : ℕ) (p q : RowPoint) (x : ℤ) → HasPeriod K (Point p) → HasPeriod K (Point q) → Divides p.period (x -ℤ p.offset) → Divides q.period (x -ℤ q.offset) → p ≡ q
same_point K p q x hp hq dp dq =
    let d : Divides (pos K) (x -ℤ p.offset) = subst (λ k. Divides k (x -ℤ p.offset)) hp.0 dp in
    let f : Divides (pos K) (x -ℤ q.offset) = subst (λ k. Divides k (x -ℤ q.offset)) hq.0 dq in
    let pl : pos 0 ≤ℤ p.offset = hp.1 in
    let ph : p.offset <ℤ pos K = hp.2 in
    let ql : pos 0 ≤ℤ q.offset = hq.1 in
    let qh : q.offset <ℤ pos K = hq.2 in
    let g : Divides (pos K) (p.offset -ℤ q.offset) = Divides-is (pos K) ((x -ℤ q.offset) -ℤ (x -ℤ p.offset)) _ (omega (arith, ints)) (Divides-- (pos K) (x -ℤ q.offset) (x -ℤ p.offset) f d) in
    let z : p.offset -ℤ q.offset ≡ pos 0 = small_multiple K (p.offset -ℤ q.offset) g (omega (arith, ints, ql, qh, pl, ph)) (omega (arith, ints, ql, qh, pl, ph)) in
    let o : p.offset ≡ q.offset = omega (arith, ints, z) in
    ap₂ (λ a b. record { offset = a; period = b }) o (hp.0 ∙ sym hq.0)

same_values : (K : ℕ) (values others : List Value) (tuple : List Datum) → AllByRecursion (HasPeriod K) values → AllByRecursion (HasPeriod K) others → IsOf values tuple → IsOf others tuple → values ≡ others
same_values K [] [] tuple p q h g = refl
same_values K [] (w ∷ others) [] p q h g = absurd (no_of w g)
  where
    no_of : (v : Value) → IsOf (v ∷ others) [] → ⊥
    no_of (Point q) h = h
    no_of (Const t) h = h
same_values K [] (w ∷ others) (d ∷ tuple) p q h g = absurd h
same_values K (v ∷ values) others [] p q h g = absurd (no_of v h)
  where
    no_of : (v : Value) → IsOf (v ∷ values) [] → ⊥
    no_of (Point q) h = h
    no_of (Const t) h = h
same_values K (v ∷ values) [] (d ∷ tuple) p q h g = absurd g
same_values K (Point a ∷ values) (Point b ∷ others) (time x ∷ tuple) p q h g = ap₂ (λ v vs. v ∷ vs) (ap Point (same_point K a b x p.0 q.0 h.0 g.0)) (same_values K values others tuple p.1 q.1 h.1 g.1)
same_values K (Point a ∷ values) (Point b ∷ others) (text t ∷ tuple) p q h g = absurd h
same_values K (Point a ∷ values) (Const c ∷ others) (time x ∷ tuple) p q h g = absurd g
same_values K (Point a ∷ values) (Const c ∷ others) (text t ∷ tuple) p q h g = absurd h
same_values K (Const c ∷ values) (Point b ∷ others) (time x ∷ tuple) p q h g = absurd h
same_values K (Const c ∷ values) (Point b ∷ others) (text t ∷ tuple) p q h g = absurd g
same_values K (Const c ∷ values) (Const b ∷ others) (time x ∷ tuple) p q h g = absurd h
same_values K (Const c ∷ values) (Const b ∷ others) (text t ∷ tuple) p q h g = ap₂ (λ v vs. v ∷ vs) (ap Const (sym h.0 ∙ g.0)) (same_values K values others tuple p.1 q.1 h.1 g.1)

-- ---- bounds on one time
-- a number between two that meet a bound meets it too
between : (x y z : ℤ) (b : Bound) → x ≤ℤ z → z ≤ℤ y → MeetsBound (x ∷ []) b → MeetsBound (y ∷ []) b → MeetsBound (z ∷ []) b
between x y z b l h m n = at b.left b.right b.most m n
  where
    below : (z y a : ℤ) → z ≤ℤ y → (y -ℤ pos 0) ≤ℤ a → (z -ℤ pos 0) ≤ℤ a
    below z y a h n = omega (arith, ints)

    above : (x z a : ℤ) → x ≤ℤ z → (pos 0 -ℤ x) ≤ℤ a → (pos 0 -ℤ z) ≤ℤ a
    above x z a l m = omega (arith, ints)

    none : (y z a : ℤ) → (y -ℤ y) ≤ℤ a → (z -ℤ z) ≤ℤ a
    none y z a n = omega (arith, ints)

    at : (i j : ℕ) (a : ℤ) → (node (x ∷ []) i -ℤ node (x ∷ []) j) ≤ℤ a → (node (y ∷ []) i -ℤ node (y ∷ []) j) ≤ℤ a → (node (z ∷ []) i -ℤ node (z ∷ []) j) ≤ℤ a
    at zero zero a m n = m
    at zero (suc zero) a m n = above x z a l m
    at zero (suc (suc j)) a m n = m
    at (suc zero) zero a m n = below z y a h n
    at (suc zero) (suc zero) a m n = none y z a n
    at (suc zero) (suc (suc j)) a m n = below z y a h n
    at (suc (suc i)) zero a m n = m
    at (suc (suc i)) (suc zero) a m n = above x z a l m
    at (suc (suc i)) (suc (suc j)) a m n = m

all_between : (x y z : ℤ) (bounds : List Bound) → x ≤ℤ z → z ≤ℤ y → AllByRecursion (MeetsBound (x ∷ [])) bounds → AllByRecursion (MeetsBound (y ∷ [])) bounds → AllByRecursion (MeetsBound (z ∷ [])) bounds
all_between x y z [] l h m n = m
all_between x y z (b ∷ bs) l h m n = (between x y z b l h m.0 n.0, all_between x y z bs l h m.1 n.1)

-- ---- the times of answers
more_times : (M : Structure) (s : Sort) (d : Datum) (tuple : List Datum) (n : ℕ) → IsOfSort M s d → length (times_of tuple) ≡ n → length (times_of (d ∷ tuple)) ≡ cond (is_time s) 1 0 + n
more_times M Time (time x) tuple n i e = ap suc e ∙ sym (one_more n)
more_times M Time (text t) tuple n i e = absurd i
more_times M Data (time x) tuple n i e = absurd i
more_times M Data (text t) tuple n i e = e ∙ sym (none_more n)
more_times M (Named name) (time x) tuple n i e = absurd i
more_times M (Named name) (text t) tuple n i e = e ∙ sym (none_more n)

times_size : (M : Structure) (columns : List Column) (tuple : List Datum) → AllZip (λ c d. IsOfSort M c.sort d) columns tuple → length (times_of tuple) ≡ time_count columns
times_size M [] [] h = refl
times_size M [] (d ∷ tuple) h = absurd h
times_size M (c ∷ columns) [] h = absurd h
times_size M (c ∷ columns) (d ∷ tuple) h = more_times M c.sort d tuple (time_count columns) h.0 (times_size M columns tuple h.1) ∙ sym (times_more c columns)

-- ---- the order of rows
rows_total : IsTotalOrder row_cell_cmp
rows_total = then_total (on_total (λ r. value_texts r.values) (lists_total nat_list_cmp_total)) (on_total (λ r. value_residues r.values) (lists_total int_cmp_total))

-- rows of which neither is after the other are of one cell
neither : (o p : Ordering) → o ≡ ordering_reverse p → o ≢ Greater → p ≢ Greater → o ≡ Equal
neither Less Less e h g = cc
neither Less Equal e h g = cc
neither Less Greater e h g = absurd (g refl)
neither Equal p e h g = refl
neither Greater p e h g = absurd (h refl)

-- the bounds are in a strict order
bounds_total : IsTotalOrder (λ (b c : Bound). ordering_then (nat_cmp b.left c.left) (nat_cmp b.right c.right))
bounds_total = then_total (on_total (λ (b : Bound). b.left) nat_cmp_total) (on_total (λ (b : Bound). b.right) nat_cmp_total)

less_less : (o p : Ordering) → o ≡ ordering_reverse p → o ≡ Less → p ≡ Less → ⊥
less_less Less Less e h g = cc
less_less Less Equal e h g = cc
less_less Less Greater e h g = cc
less_less Equal p e h g = cc
less_less Greater p e h g = cc

bounds_strict : (b c : Bound) → ComesBefore b c → ComesBefore c b → ⊥
bounds_strict b c h g = less_less (ordering_then (nat_cmp b.left c.left) (nat_cmp b.right c.right)) (ordering_then (nat_cmp c.left b.left) (nat_cmp c.right b.right)) (bounds_total.antisymm b c) h g

-- ---- each row of an answer has a member
first_of : List Value → List Datum
first_of [] = []
first_of (Point p ∷ values) = time p.offset ∷ first_of values
first_of (Const t ∷ values) = text t ∷ first_of values

first_is : (values : List Value) → IsOf values (first_of values)
unfolding first_of
first_is [] = tt
first_is (Point p ∷ values) = (Divides-is p.period (pos 0) _ (omega (arith, ints)) (Divides-zero p.period), first_is values)
first_is (Const t ∷ values) = (refl, first_is values)

some_member : (K m : ℕ) (row : Row) → IsAnswerRow K m row → (tuple : List Datum) × IsInRow row tuple
some_member K m row h = at row.bounds refl
  where
    at : (bounds : List Bound) → row.bounds ≡ bounds → (tuple : List Datum) × IsInRow row tuple
    at [] e = (first_of row.values, record { values = first_is row.values; bounds = subst (AllByRecursion (MeetsBound (times_of (first_of row.values)))) (sym e) tt })
    at (b ∷ bounds) e = let own : IsOwnBound row m b = (subst (AllByRecursion (IsOwnBound row m)) e h.own).0 in (own.least.attained.0, own.least.attained.1)

-- of two elements of a list that is in order, one is the other or comes before it
pub either : {X : Type 0} (R : X → X → Type 0) (xs : List X) (x y : X) → AllPairs R xs → Contains xs x → Contains xs y → (x ≡ y) ⊎ (R x y ⊎ R y x)
either R [] x y p c d = absurd (in_none x c)
either R (z ∷ zs) x y p c d = elim (in_cons z zs x c) [
  | inl e ↦ elim (in_cons z zs y d) [
    | inl f ↦ inl (sym e ∙ f)
    | inr n ↦ inr (inl (subst (λ w. R w y) e (pairs_head R z zs p y n)))
  ]
  | inr m ↦ elim (in_cons z zs y d) [
    | inl f ↦ inr (inr (subst (λ w. R w x) f (pairs_head R z zs p x m)))
    | inr n ↦ either R zs x y (pairs_right R (z ∷ []) zs p) m n
  ]
]

-- rows with the same values are of one cell
one_cell : (r s : Row) → s.values ≡ r.values → OfOneCell r s
one_cell r s e = subst (λ vs. ordering_then (slice_cmp text_cmp (value_texts r.values) (value_texts vs)) (slice_cmp int_cmp (value_residues r.values) (value_residues vs)) ≡ Equal) (sym e) (tied_itself rows_total r)

-- the residue of a time is the first one of the values
first_residue : (K : ℕ) (values : List Value) (tuple : List Datum) (x : ℤ) → AllByRecursion (HasPeriod K) values → IsOf values tuple → times_of tuple ≡ x ∷ [] → (c : ℤ) × (rest : List ℤ) × (value_residues values ≡ c ∷ rest) × Divides (pos K) (x -ℤ c)
first_residue K [] [] x p h e = absurd (no_list x [] (sym e))
  where
    no_list : (x : ℤ) (xs : List ℤ) → x ∷ xs ≡ [] → ⊥
    no_list x xs e = cc
first_residue K [] (d ∷ tuple) x p h e = absurd h
first_residue K (v ∷ values) [] x p h e = absurd (no_of v h)
  where
    no_of : (v : Value) → IsOf (v ∷ values) [] → ⊥
    no_of (Point q) h = h
    no_of (Const t) h = h
first_residue K (Point q ∷ values) (time y ∷ tuple) x p h e =
    let s : y ≡ x = cc in
    (q.offset, value_residues values, refl, subst (λ w. Divides (pos K) (w -ℤ q.offset)) s (subst (λ k. Divides k (y -ℤ q.offset)) p.0.0 h.0))
first_residue K (Point q ∷ values) (text t ∷ tuple) x p h e = absurd h
first_residue K (Const c ∷ values) (time y ∷ tuple) x p h e = absurd h
first_residue K (Const c ∷ values) (text t ∷ tuple) x p h e = first_residue K values tuple x p.1 h.1 e

same_residue : (K : ℕ) (values : List Value) (t u : List Datum) (x y : ℤ) → AllByRecursion (HasPeriod K) values → IsOf values t → IsOf values u → times_of t ≡ x ∷ [] → times_of u ≡ y ∷ [] → Divides (pos K) (x -ℤ y)
same_residue K values t u x y p h g e f =
    let a = first_residue K values t x p h e in
    let b = first_residue K values u y p g f in
    let s : a.0 ≡ b.0 = heads a.0 b.0 a.1 b.1 (sym a.2 ∙ b.2) in
    Divides-is (pos K) ((x -ℤ a.0) -ℤ (y -ℤ a.0)) _ (omega (arith, ints)) (Divides-- (pos K) (x -ℤ a.0) (y -ℤ a.0) a.3 (subst (λ c. Divides (pos K) (y -ℤ c)) (sym s) b.3))
  where
    heads : (c d : ℤ) (cs ds : List ℤ) → c ∷ cs ≡ d ∷ ds → c ≡ d
    heads c d cs ds e = cc

-- ---- the rows of one relation of answers
module _ {called : Identifier} (K : ℕ) (db : List Relation) (q : Question) (one : time_count q.head ≡ 1) (answer : Relation) (is : IsAnswerRelation called K db q answer) where
  abbrev After : Row → Row → Type 0
  After r s = (row_cell_cmp r s ≢ Greater) × (OfOneCell r s → IsApart K r s)

  row_is : (r : Row) → Contains answer.rows r → IsAnswerRow K 1 r
  row_is r c = subst (λ m. IsAnswerRow K m r) one (all_at (IsAnswerRow K (time_count q.head)) answer.rows r is.rows c)

  own_rows : rows_of (answer ∷ []) answer.name ≡ answer.rows
  own_rows = ap (λ b. rows_in (cond b (Some answer) None)) ((bytes_decides answer.name answer.name).1 refl)

  answers : (r : Row) → Contains answer.rows r → (t : List Datum) → IsInRow r t → IsAnswer db q t
  answers r c t i = (is.holds t).1 (r, subst (λ rs. Contains rs r) (sym own_rows) c, i)

  held : (t : List Datum) → IsAnswer db q t → (r : Row) × Contains answer.rows r × IsInRow r t
  held t w = let h = (is.holds t).0 w in (h.0, subst (λ rs. Contains rs h.0) own_rows h.1, h.2)

  time_of : (t : List Datum) → IsAnswer db q t → (x : ℤ) × (times_of t ≡ x ∷ [])
  time_of t w = one_number (times_of t) (times_size (structure db q) q.head t w.fits ∙ one)

  apart : AllPairs (λ r s. OfOneCell r s → IsApart K r s) answer.rows
  apart = subst (λ m. AllPairs (λ r s. OfOneCell r s → MayStandBeside (IsAnswer db q) K m r s) answer.rows) one is.beside

  in_order : AllPairs After answer.rows
  in_order i j d il jl = (is.cells i j d il jl, apart i j d il jl)

  strict : (r s : Row) → Contains answer.rows r → Contains answer.rows s → After r s → After s r → ⊥
  strict r s c d p o =
      let e : row_cell_cmp r s ≡ Equal = neither (row_cell_cmp r s) (row_cell_cmp s r) (rows_total.antisymm r s) p.0 o.0 in
      let f : row_cell_cmp s r ≡ Equal = neither (row_cell_cmp s r) (row_cell_cmp r s) (rows_total.antisymm s r) o.0 p.0 in
      let m = some_member K 1 r (row_is r c) in
      let n = some_member K 1 s (row_is s d) in
      let a : (node (times_of m.0) 1 +ℤ pos K) <ℤ node (times_of n.0) 1 = p.1 e m.0 n.0 m.1 n.1 in
      let b : (node (times_of n.0) 1 +ℤ pos K) <ℤ node (times_of m.0) 1 = o.1 f n.0 m.0 n.1 m.1 in
      absurd (omega (arith, ints, a, b))

  -- times of two rows that lie apart
  far : (r s : Row) (u v : List Datum) (x y : ℤ) → times_of u ≡ x ∷ [] → times_of v ≡ y ∷ [] → IsApart K r s → IsInRow r u → IsInRow s v → (x +ℤ pos K) <ℤ y
  far r s u v x y e f a iu iv = subst (λ ys. (x +ℤ pos K) <ℤ node ys 1) f (subst (λ xs. (node xs 1 +ℤ pos K) <ℤ node (times_of v) 1) e (a u v iu iv))

  -- an answer of the row's cell whose time is at most a period from that of a member is a member
  next : (r : Row) → Contains answer.rows r → (u v : List Datum) (x y : ℤ) → times_of u ≡ x ∷ [] → times_of v ≡ y ∷ [] → y ≤ℤ (x +ℤ pos K) → x ≤ℤ (y +ℤ pos K) → IsInRow r u → IsOf r.values v → IsAnswer db q v → IsInRow r v
  next r c u v x y e f yx xy iu of w =
      let h = held v w in
      let s : Row = h.0 in
      let iv : IsInRow s v = h.2 in
      let same : s.values ≡ r.values = same_values K s.values r.values v (row_is s h.1).period (row_is r c).period iv.values of in
      elim (either After answer.rows r s in_order c h.1) [
        | inl k ↦ subst (λ z. IsInRow z v) (sym k) iv
        | inr k ↦ elim k [
          | inl p ↦ (let l : (x +ℤ pos K) <ℤ y = far r s u v x y e f (p.1 (one_cell r s same)) iu iv in absurd (omega (arith, ints, l, yx)))
          | inr p ↦ (let l : (y +ℤ pos K) <ℤ x = far s r v u y x f e (p.1 (one_cell s r (sym same))) iv iu in absurd (omega (arith, ints, l, xy)))
        ]
      ]

-- ---- two relations of the same answers
module _ {called : Identifier} (K : ℕ) (db other_db : List Relation) (q other : Question) (one : time_count q.head ≡ 1) (other_one : time_count other.head ≡ 1)
    (same : (t : List Datum) → IsAnswer db q t → IsAnswer other_db other t) (answer second : Relation) (is : IsAnswerRelation called K db q answer) (also : IsAnswerRelation called K other_db other second) where
  module _ (r s : Row) (c : Contains answer.rows r) (d : Contains second.rows s) (m : List Datum) (i : IsInRow r m) (j : IsInRow s m) where
    period_is : AllByRecursion (HasPeriod K) r.values
    period_is = (row_is K db q one answer is r c).period

    values_are : r.values ≡ s.values
    values_are = same_values K r.values s.values m period_is (row_is K other_db other other_one second also s d).period i.values j.values

    answer_of : (t : List Datum) → IsInRow r t → IsAnswer other_db other t
    answer_of t h = same t (answers K db q one answer is r c t h)

    values_of : (t : List Datum) → IsInRow r t → IsOf s.values t
    values_of t h = subst (λ vs. IsOf vs t) values_are h.values

    -- the row has what lies between two of its members
    mid : (t u v : List Datum) (x y z w : ℤ) → IsInRow r t → IsInRow r u → IsInRow r v → times_of t ≡ x ∷ [] → times_of u ≡ y ∷ [] → times_of v ≡ z ∷ [] → y ≤ℤ w → w ≤ℤ z → Divides (pos K) (w -ℤ x) → IsInRow r (retimed w t)
    mid t u v x y z w it iu iv et eu ev l h k = record {
      values = retimed_of K r.values t x w period_is et k it.values;
      bounds = subst (λ xs. AllByRecursion (MeetsBound xs) r.bounds) (sym (retimed_times w x t et)) (all_between y z w r.bounds l h (subst (λ xs. AllByRecursion (MeetsBound xs) r.bounds) eu iu.bounds) (subst (λ xs. AllByRecursion (MeetsBound xs) r.bounds) ev iv.bounds));
    }

    module _ (x0 : ℤ) (e0 : times_of m ≡ x0 ∷ []) where
      step : (u t : List Datum) (x y : ℤ) → times_of u ≡ x ∷ [] → times_of t ≡ y ∷ [] → y ≤ℤ (x +ℤ pos K) → x ≤ℤ (y +ℤ pos K) → IsInRow s u → IsInRow r t → IsInRow s t
      step u t x y e f yx xy iu it = next K other_db other other_one second also s d u t x y e f yx xy iu (values_of t it) (answer_of t it)

      up : (n : ℕ) (t : List Datum) (x : ℤ) → IsInRow r t → times_of t ≡ x ∷ [] → x ≡ x0 +ℤ pos (K * n) → IsInRow s t
      up zero t x it e f = step m t x0 x e0 e (let p : K * 0 ≡ 0 = omega arith in omega (arith, ints, f, p)) (let p : K * 0 ≡ 0 = omega arith in omega (arith, ints, f, p)) j it
      up (suc n) t x it e f =
          let p : K * suc n ≡ K * n + K = omega arith in
          let w : ℤ = x -ℤ pos K in
          let g : w ≡ x0 +ℤ pos (K * n) = omega (arith, ints, f, p) in
          let k : Divides (pos K) (w -ℤ x) = Divides-is (pos K) (pos 0 -ℤ pos K) _ (omega (arith, ints)) (Divides-- (pos K) (pos 0) (pos K) (Divides-zero (pos K)) (Divides-self (pos K))) in
          let iw : IsInRow r (retimed w t) = mid t m t x x0 x w it i it e e0 e (omega (arith, ints, g)) (omega (arith, ints)) k in
          step (retimed w t) t w x (retimed_times w x t e) e (omega (arith, ints)) (omega (arith, ints)) (up n (retimed w t) w iw (retimed_times w x t e) g) it

      down : (n : ℕ) (t : List Datum) (x : ℤ) → IsInRow r t → times_of t ≡ x ∷ [] → x ≡ x0 -ℤ pos (K * n) → IsInRow s t
      down zero t x it e f = step m t x0 x e0 e (let p : K * 0 ≡ 0 = omega arith in omega (arith, ints, f, p)) (let p : K * 0 ≡ 0 = omega arith in omega (arith, ints, f, p)) j it
      down (suc n) t x it e f =
          let p : K * suc n ≡ K * n + K = omega arith in
          let w : ℤ = x +ℤ pos K in
          let g : w ≡ x0 -ℤ pos (K * n) = omega (arith, ints, f, p) in
          let k : Divides (pos K) (w -ℤ x) = Divides-is (pos K) (pos K) _ (omega (arith, ints)) (Divides-self (pos K)) in
          let iw : IsInRow r (retimed w t) = mid t t m x x x0 w it it i e e e0 (omega (arith, ints)) (omega (arith, ints, g)) k in
          step (retimed w t) t w x (retimed_times w x t e) e (omega (arith, ints)) (omega (arith, ints)) (down n (retimed w t) w iw (retimed_times w x t e) g) it

      walked : (t : List Datum) (x : ℤ) → IsInRow r t → times_of t ≡ x ∷ [] → (n : ℤ) → x -ℤ x0 ≡ pos K *ℤ n → IsInRow s t
      walked t x it e (pos n) f = up n t x it e (let g : x -ℤ x0 ≡ pos (K * n) = f in omega (arith, ints, g))
      walked t x it e (negsuc n) f = down (suc n) t x it e (let g : x -ℤ x0 ≡ neg_ℤ (pos (K * suc n)) = f in omega (arith, ints, g))

    -- the members of the first row are members of the second
    members : (t : List Datum) → IsInRow r t → IsInRow s t
    members t it =
        let a = time_of K db q one answer is m (answers K db q one answer is r c m i) in
        let b = time_of K db q one answer is t (answers K db q one answer is r c t it) in
        let k = same_residue K r.values t m b.0 a.0 period_is it.values i.values b.1 a.1 in
        walked a.0 a.1 t b.0 it b.1 k.times k.is

-- ---- rows of both with a member in common are one
module _ {called : Identifier} (K : ℕ) (db other_db : List Relation) (q other : Question) (one : time_count q.head ≡ 1) (other_one : time_count other.head ≡ 1)
    (to : (t : List Datum) → IsAnswer db q t → IsAnswer other_db other t) (from : (t : List Datum) → IsAnswer other_db other t → IsAnswer db q t)
    (answer second : Relation) (is : IsAnswerRelation called K db q answer) (also : IsAnswerRelation called K other_db other second) where
  module _ (r s : Row) (c : Contains answer.rows r) (d : Contains second.rows s) (m : List Datum) (i : IsInRow r m) (j : IsInRow s m) where
    there : (t : List Datum) → IsInRow r t → IsInRow s t
    there = members K db other_db q other one other_one to answer second is also r s c d m i j

    back : (t : List Datum) → IsInRow s t → IsInRow r t
    back = members K other_db db other q other_one one from second answer also is s r d c m j i

  least_moved : (r s : Row) → ((t : List Datum) → IsInRow r t → IsInRow s t) → ((t : List Datum) → IsInRow s t → IsInRow r t) → (i j : ℕ) (a : ℤ) → IsLeastRowBound r i j a → IsLeastRowBound s i j a
  least_moved r s f g i j a l = record { met = λ t h. l.met t (g t h); attained = (l.attained.0, f l.attained.0 l.attained.1, l.attained.2) }

  bound_moved : (r s : Row) → IsAnswerRow K 1 r → IsAnswerRow K 1 s → ((t : List Datum) → IsInRow r t → IsInRow s t) → ((t : List Datum) → IsInRow s t → IsInRow r t) → (b : Bound) → Contains r.bounds b → Contains s.bounds b
  bound_moved r s p o f g b h =
      let w : IsOwnBound r 1 b = all_at (IsOwnBound r 1) r.bounds b p.own h in
      o.all b.left b.right b.most w.left w.right w.apart (least_moved r s f g b.left b.right b.most w.least)

  same_row : (r s : Row) → Contains answer.rows r → Contains second.rows s → (m : List Datum) → IsInRow r m → IsInRow s m → r ≡ s
  same_row r s c d m i j =
      let p : IsAnswerRow K 1 r = row_is K db q one answer is r c in
      let o : IsAnswerRow K 1 s = row_is K other_db other other_one second also s d in
      let f = there r s c d m i j in
      let g = back r s c d m i j in
      let v : r.values ≡ s.values = same_values K r.values s.values m p.period o.period i.values j.values in
      let b : r.bounds ≡ s.bounds = same_list ComesBefore r.bounds s.bounds (λ x y cx cy. bounds_strict x y) p.ordered o.ordered (bound_moved r s p o f g) (bound_moved s r o p g f) in
      ap₂ (λ vs bs. record { values = vs; bounds = bs }) v b

  row_there : (r : Row) → Contains answer.rows r → Contains second.rows r
  row_there r c =
      let m = some_member K 1 r (row_is K db q one answer is r c) in
      let h = held K other_db other other_one second also m.0 (to m.0 (answers K db q one answer is r c m.0 m.1)) in
      subst (Contains second.rows) (sym (same_row r h.0 c h.1 m.0 m.1 h.2)) h.1

-- queries with one head have one number of time columns
other_one : (q other : Question) → q.head ≡ other.head → time_count q.head ≡ 1 → time_count other.head ≡ 1
other_one q other heads one = ap time_count (sym heads) ∙ one

module _ {called : Identifier} (K : ℕ) (db other_db : List Relation) (q other : Question) (heads : q.head ≡ other.head) (one : time_count q.head ≡ 1)
    (same : (t : List Datum) → IsAnswer db q t ↔ IsAnswer other_db other t) where
  same_relation : (answer second : Relation) → IsAnswerRelation called K db q answer → IsAnswerRelation called K other_db other second → answer ≡ second
  same_relation answer second is also =
      let rows : answer.rows ≡ second.rows = same_list (After K db q one answer is) answer.rows second.rows (strict K db q one answer is) (in_order K db q one answer is) (in_order K other_db other (other_one q other heads one) second also)
      (row_there K db other_db q other one (other_one q other heads one) (λ t. (same t).0) (λ t. (same t).1) answer second is also)
      (row_there K other_db db other q (other_one q other heads one) one (λ t. (same t).1) (λ t. (same t).0) second answer also is) in
      made (is.name ∙ sym also.name) (is.columns ∙ heads ∙ sym also.columns) rows
    where
      made : answer.name ≡ second.name → answer.columns ≡ second.columns → answer.rows ≡ second.rows → answer ≡ second
      made a b c = ap₂ (λ n cs. record { name = n; columns = cs; rows = answer.rows }) a b ∙ ap (λ rs. record { name = second.name; columns = second.columns; rows = rs }) c

  -- equal heads and equal answers, one text
  pub one_text : (bytes other_bytes : List ℕ) → IsAnswerTextOf called K db q bytes → IsAnswerTextOf called K other_db other other_bytes → bytes ≡ other_bytes
  one_text bytes other_bytes h g = by (bytes_eq bytes other_bytes) refl
    where
      some : (t : List Datum) → IsAnswer db q t → bytes ≡ other_bytes
      some t w =
          let a = h.some t w in
          let b = g.some t ((same t).0 w) in
          a.layout ∙ ap relation_bytes (same_relation a.answer b.answer a.is b.is) ∙ sym b.layout

      none : (bytes ≡ other_bytes → ⊥) → bytes ≡ other_bytes
      none differ = h.none (λ t w. differ (some t w)) ∙ sym (g.none (λ t w. differ (some t ((same t).1 w))))

      by : (b : Bool) → bytes_eq bytes other_bytes ≡ b → bytes ≡ other_bytes
      by true e = (bytes_decides bytes other_bytes).0 e
      by false e = none (λ s. absurd (clash (sym ((bytes_decides bytes other_bytes).1 s) ∙ e)))
        where
          clash : true ≡ false → ⊥
          clash e = cc
