-- Two pages of one window put together are the page of the answers of the one and of the other.
use Rattle.std.proofs.Common.{◌≡◌, ◌⊎◌, inl, inr, map, ℕ, zero, suc, ◌<◌, ◌≤◌, List, [], ◌∷◌, length, take, take_all, Option, Some, None, option_map, Bool, Contains, arith, refl, sym, ap, ap₂, subst, ◌∙◌}
use Rattle.std.specs.Prelude.{ℤ, pos, slice_get, IsTrue}
use Rattle.std.specs.List.{AllByRecursion}
use Rattle.std.specs.Cmp.Lexicographic.{slice_cmp}
use Rattle.std.specs.Ordering.{int_cmp, nat_cmp, ordering_then}
use Rattle.std.proofs.lemmas.Cmp.{nat_cmp_total, tied_itself}
use Rattle.std.proofs.lemmas.List.{length-map}
use Rattle.std.proofs.lemmas.Option.{slice_get-map, slice_get_within}
use Rattle.lrp_model.specs.Order.{Before, tuple_cmp}
use Rattle.lrp_model.specs.Pages.{AfterAll, ComesAfter, IsAhead, IsPage, Rises, last_of}
use Rattle.lrp_model.specs.Pairs.{AllPairsByRecursion}
use Rattle.lrp_model.specs.Rows.{Tuple}
use Rattle.lrp_model.specs.Texts.{Ascends, Text}
use Rattle.lrp_model.specs.declared.relations.Column.{Column}
use Rattle.lrp_model.specs.declared.tuples.Shape.{Shape}
use Rattle.lrp_model.specs.declared.tuples.Spot.{Spot}
use Rattle.lrp_model.proofs.Ascending.{all_at}
use Rattle.lrp_model.proofs.Decided.{Decided}
use Rattle.lrp_model.proofs.Resume.{before_trans, decided_before, tuples_total, up_to}
use Rattle.lrp_store.specs.Least.{StandsFor}
use Rattle.lrp_store.proofs.Held.{Contains-from_get}
use Rattle.lrp_answers.specs.Cursors.{spot_cmp}
use Rattle.lrp_answers.specs.Merging.{AreMergedLists, HasMore, IsEarlierSpot, IsMergedPage, IsTakenFrom}
use Rattle.lrp_answers.specs.Spots.{spot_tuple}
use Rattle.lrp_answers.specs.declared.merging.SpotPage.{SpotPage}
use Rattle.lrp_answers.proofs.MergeLaws.{all_by, entry}
use Rattle.lrp_answers.proofs.Moves.{get_of}
use Rattle.lrp_answers.proofs.Orders.{front_cmp, int_same, not_less_itself, numbers_cmp}

-- ---- the last entry

-- what comes after all comes after the last
after_last : (ts : List Tuple) (t : Tuple) → AfterAll ts t → ComesAfter (last_of ts) t
after_last [] t h = tt
after_last (u ∷ []) t h = h.0
after_last (u ∷ v ∷ vs) t h = after_last (v ∷ vs) t h.1

-- and the other way round
all_before : (ts : List Tuple) (t : Tuple) → Rises ts → ComesAfter (last_of ts) t → AfterAll ts t
all_before ts t rises h = by (last_of ts) refl h
  where
    before : (l u : Tuple) → Before l t → (u ≡ l) ⊎ Before u l → Before u t
    before l u k (inl e) = subst (λ w. Before w t) (sym e) k
    before l u k (inr b) = before_trans u l t b k

    none : (us : List Tuple) → last_of us ≡ None → AfterAll us t
    none [] e = tt
    none (u ∷ []) e = cc
    none (u ∷ v ∷ vs) e = absurd (some v vs e)
      where
        some : (v : Tuple) (vs : List Tuple) → last_of (v ∷ vs) ≡ None → ⊥
        some v [] f = cc
        some v (w ∷ ws) f = some w ws f

    all : (us : List Tuple) (l : Tuple) → Before l t → AllByRecursion (λ u. (u ≡ l) ⊎ Before u l) us → AfterAll us t
    all [] l k g = tt
    all (u ∷ us) l k g = (before l u k g.0, all us l k g.1)

    by : (o : Option Tuple) → last_of ts ≡ o → ComesAfter o t → AfterAll ts t
    by None e k = none ts e
    by (Some l) e k = all ts l k (up_to ts l e rises)

decided_after : (o : Option Tuple) (t : Tuple) → Decided (ComesAfter o t)
decided_after None t = inl tt
decided_after (Some l) t = decided_before l t

-- ---- of one of two pages

module _ (P : Tuple → Type 0) (from to : ℤ) (after : Option Tuple) (limit : ℕ) (page : List Tuple) (more : Bool) (is : IsPage P from to after limit page more) (i : ℕ) (made : List Tuple) (own : IsTakenFrom Before page i made) (short : length made ≤ limit) where
  -- an entry of the page that was not taken comes after all that were put together
  after_made : (k : ℕ) (t : Tuple) → i ≤ k → slice_get page k ≡ Some t → AfterAll made t
  after_made k t l e = all_by (λ u. Before u t) made (λ u c. own.later k t u l e c)

  -- and so does what comes after the whole page
  past_made : (t : Tuple) → AfterAll page t → IsTrue more → AfterAll made t
  past_made t h m = by (cut i (length page))
    where
      cut : (p q : ℕ) → (p < q) ⊎ (q ≤ p)
      cut p q = grind arith

      by : (i < length page) ⊎ (length page ≤ i) → AfterAll made t
      by (inl l) =
          let next = entry page i l in
          let last : Before next.0 t = all_at (λ u. Before u t) page next.0 h (Contains-from_get page i next.0 next.1) in
          all_by (λ u. Before u t) made (λ u c. before_trans u next.0 t (own.later i next.0 u (omega arith) next.1 c) last)
      by (inr l) =
          let full : length page ≡ limit = is.full m in
          let s : length made ≤ limit = short in
          let e : made ≡ take i page = own.alone (omega arith) in
          subst (λ us. AfterAll us t) (sym (e ∙ take_all i page (omega arith))) h

  -- each answer that is ahead was put together, or comes after all of them and is among what the page has more
  pub each : (t : Tuple) → IsAhead P from to after t → Contains made t ⊎ (AfterAll made t × (IsTrue more ⊎ (i < length page)))
  each t d = by (decided_after (last_of page) t)
    where
      low : (k n : ℕ) → (k < n) ⊎ (n ≤ k)
      low k n = grind arith

      at : (k : ℕ) → slice_get page k ≡ Some t → (k < i) ⊎ (i ≤ k) → Contains made t ⊎ (AfterAll made t × (IsTrue more ⊎ (i < length page)))
      at k e (inl l) = inl (own.taken k t l e)
      at k e (inr l) = inr (after_made k t l e, inr (let w : k < length page = slice_get_within page k t e in omega arith))

      by : Decided (ComesAfter (last_of page) t) → Contains made t ⊎ (AfterAll made t × (IsTrue more ⊎ (i < length page)))
      by (inl c) =
          let all : AfterAll page t = all_before page t is.rises c in
          let m : IsTrue more = is.more_is.1 (t, d, all) in
          inr (past_made t all m, inl m)
      by (inr n) = let place = get_of page t (is.whole t d n) in at place.0 place.1 (low place.0 i)

  -- what the page has more comes after all
  pub rest : IsTrue more ⊎ (i < length page) → (t : Tuple) × IsAhead P from to after t × AfterAll made t
  rest (inl m) = let t = is.more_is.0 m in (t.0, t.1, past_made t.0 t.2 m)
  rest (inr l) = let next = entry page i l in (next.0, all_at (IsAhead P from to after) page next.0 is.due (Contains-from_get page i next.0 next.1), after_made i next.0 (omega arith) next.1)

  -- and then the limit is reached
  pub full : (length made ≡ limit) ⊎ (i ≡ length page) → IsTrue more ⊎ (i < length page) → length made ≡ limit
  full (inl e) h = e
  full (inr e) (inl m) = let f : length page ≡ limit = is.full m in let l : i ≤ length made = own.few in let s : length made ≤ limit = short in omega arith
  full (inr e) (inr l) = absurd (omega arith)

-- ---- of both

module _ (P Q : Tuple → Type 0) (from to : ℤ) (after : Option Tuple) (limit : ℕ) (left right : List Tuple) (more_left more_right : Bool) (is_left : IsPage P from to after limit left more_left) (is_right : IsPage Q from to after limit right more_right)
    (i j : ℕ) (made : List Tuple) (merged : AreMergedLists Before left right i j made) (short : length made ≤ limit) (whole : (length made ≡ limit) ⊎ ((i ≡ length left) × (j ≡ length right))) where
  lefts : (t : Tuple) → IsAhead P from to after t → IsAhead (λ u. P u ⊎ Q u) from to after t
  lefts t d = record { is = inl d.is; inside = d.inside; later = d.later }

  rights : (t : Tuple) → IsAhead Q from to after t → IsAhead (λ u. P u ⊎ Q u) from to after t
  rights t d = record { is = inr d.is; inside = d.inside; later = d.later }

  split : (t : Tuple) → IsAhead (λ u. P u ⊎ Q u) from to after t → Contains made t ⊎ (AfterAll made t × ((IsTrue more_left ⊎ (i < length left)) ⊎ (IsTrue more_right ⊎ (j < length right))))
  split t d = by d.is
    where
      from_left : Contains made t ⊎ (AfterAll made t × (IsTrue more_left ⊎ (i < length left))) → Contains made t ⊎ (AfterAll made t × ((IsTrue more_left ⊎ (i < length left)) ⊎ (IsTrue more_right ⊎ (j < length right))))
      from_left (inl c) = inl c
      from_left (inr h) = inr (h.0, inl h.1)

      from_right : Contains made t ⊎ (AfterAll made t × (IsTrue more_right ⊎ (j < length right))) → Contains made t ⊎ (AfterAll made t × ((IsTrue more_left ⊎ (i < length left)) ⊎ (IsTrue more_right ⊎ (j < length right))))
      from_right (inl c) = inl c
      from_right (inr h) = inr (h.0, inr h.1)

      by : P t ⊎ Q t → Contains made t ⊎ (AfterAll made t × ((IsTrue more_left ⊎ (i < length left)) ⊎ (IsTrue more_right ⊎ (j < length right))))
      by (inl p) = from_left (each P from to after limit left more_left is_left i made merged.lefts short t (record { is = p; inside = d.inside; later = d.later }))
      by (inr q) = from_right (each Q from to after limit right more_right is_right j made merged.rights short t (record { is = q; inside = d.inside; later = d.later }))

  rest_of : (IsTrue more_left ⊎ (i < length left)) ⊎ (IsTrue more_right ⊎ (j < length right)) → (t : Tuple) × IsAhead (λ u. P u ⊎ Q u) from to after t × AfterAll made t
  rest_of (inl h) = let r = rest P from to after limit left more_left is_left i made merged.lefts short h in (r.0, lefts r.0 r.1, r.2)
  rest_of (inr h) = let r = rest Q from to after limit right more_right is_right j made merged.rights short h in (r.0, rights r.0 r.1, r.2)

  left_end : (length made ≡ limit) ⊎ ((i ≡ length left) × (j ≡ length right)) → (length made ≡ limit) ⊎ (i ≡ length left)
  left_end (inl e) = inl e
  left_end (inr e) = inr e.0

  right_end : (length made ≡ limit) ⊎ ((i ≡ length left) × (j ≡ length right)) → (length made ≡ limit) ⊎ (j ≡ length right)
  right_end (inl e) = inl e
  right_end (inr e) = inr e.1

  full_of : (IsTrue more_left ⊎ (i < length left)) ⊎ (IsTrue more_right ⊎ (j < length right)) → length made ≡ limit
  full_of (inl h) = full P from to after limit left more_left is_left i made merged.lefts short (left_end whole) h
  full_of (inr h) = full Q from to after limit right more_right is_right j made merged.rights short (right_end whole) h

  due : (t : Tuple) → Contains left t ⊎ Contains right t → IsAhead (λ u. P u ⊎ Q u) from to after t
  due t (inl c) = lefts t (all_at (IsAhead P from to after) left t is_left.due c)
  due t (inr c) = rights t (all_at (IsAhead Q from to after) right t is_right.due c)

  pub tuples_page : (more : Bool) → (IsTrue more → (IsTrue more_left ⊎ (i < length left)) ⊎ (IsTrue more_right ⊎ (j < length right))) → ((IsTrue more_left ⊎ (i < length left)) ⊎ (IsTrue more_right ⊎ (j < length right)) → IsTrue more)
      → IsPage (λ t. P t ⊎ Q t) from to after limit made more
  tuples_page more to_rest from_rest = record {
    rises = merged.rises;
    due = all_by (IsAhead (λ u. P u ⊎ Q u) from to after) made (λ t c. due t (merged.from t c));
    whole = λ t d unless. listed t unless (split t d);
    more_is = (λ m. rest_of (to_rest m), λ r. left_out r.0 r.2 (split r.0 r.1));
    short = short;
    full = λ m. full_of (to_rest m);
  }
    where
      listed : (t : Tuple) → (ComesAfter (last_of made) t → ⊥) → Contains made t ⊎ (AfterAll made t × ((IsTrue more_left ⊎ (i < length left)) ⊎ (IsTrue more_right ⊎ (j < length right)))) → Contains made t
      listed t unless (inl c) = c
      listed t unless (inr h) = absurd (unless (after_last made t h.0))

      left_out : (t : Tuple) → AfterAll made t → Contains made t ⊎ (AfterAll made t × ((IsTrue more_left ⊎ (i < length left)) ⊎ (IsTrue more_right ⊎ (j < length right)))) → IsTrue more
      left_out t h (inl c) = absurd (not_less_itself tuples_total t (all_at (λ u. Before u t) made t h c))
      left_out t h (inr r) = from_rest r.1

-- ---- spots and their tuples

front_map : {X Y : Type 0} (f : X → Y) (n : ℕ) (xs : List X) → map f (take n xs) ≡ take n (map f xs)
front_map f zero xs = refl
front_map f (suc n) [] = refl
front_map f (suc n) (x ∷ xs) = ap (λ ys. f x ∷ ys) (front_map f n xs)

-- a value of a list of images is one of an entry
mapped_at : {X Y : Type 0} (f : X → Y) (xs : List X) (k : ℕ) (y : Y) → slice_get (map f xs) k ≡ Some y → (x : X) × (slice_get xs k ≡ Some x) × (f x ≡ y)
mapped_at f [] k y e = cc
mapped_at f (x ∷ xs) zero y e = (x, refl, let same : f x ≡ y = cc in same)
mapped_at f (x ∷ xs) (suc k) y e = mapped_at f xs k y e

image_at : {X Y : Type 0} (f : X → Y) (xs : List X) (k : ℕ) (x : X) → slice_get xs k ≡ Some x → slice_get (map f xs) k ≡ Some (f x)
image_at f xs k x e = slice_get-map f xs k ∙ ap (option_map f) e

image_in : {X Y : Type 0} (f : X → Y) (xs : List X) (x : X) → Contains xs x → Contains (map f xs) (f x)
image_in f xs x c = let g = get_of xs x c in Contains-from_get (map f xs) g.0 (f x) (image_at f xs g.0 x g.1)

mapped_in : {X Y : Type 0} (f : X → Y) (xs : List X) (y : Y) → Contains (map f xs) y → (x : X) × Contains xs x × (f x ≡ y)
mapped_in f xs y c =
    let g = get_of (map f xs) y c in
    let m = mapped_at f xs g.0 y g.1 in
    (m.0, Contains-from_get xs g.0 m.0 m.1, m.2)

module _ (columns : List Column) (shape : Shape) (domain : List Text) (ascends : Ascends domain) where
  abbrev tuple : Spot → Tuple
  tuple spot = spot_tuple columns shape domain spot

  -- the spot stands for its tuple
  abbrev Stands : Spot → Type 0
  Stands spot = StandsFor shape domain spot (spot_tuple columns shape domain spot)

  -- so spots compare like their tuples
  compared : (a b : Spot) → Stands a → Stands b → spot_cmp a b ≡ tuple_cmp (tuple a) (tuple b)
  compared a b p q =
      ap₂ ordering_then
      (front_cmp int_cmp (pos 0) (int_same (pos 0) (pos 0) refl) shape.times a.times b.times (p.times_padded.size ∙ sym q.times_padded.size) p.times_padded.zeros q.times_padded.zeros ∙ ap₂ (slice_cmp int_cmp) p.times q.times)
      (front_cmp nat_cmp 0 (tied_itself nat_cmp_total 0) shape.texts a.texts b.texts (p.texts_padded.size ∙ sym q.texts_padded.size) p.texts_padded.zeros q.texts_padded.zeros ∙ numbers_cmp domain ascends _ _ _ _ p.texts q.texts)

  before : (a b : Spot) → Stands a → Stands b → IsEarlierSpot a b → Before (tuple a) (tuple b)
  before a b p q e = sym (compared a b p q) ∙ e

  -- spots of a page are in order
  pub spots_rise : (spots : List Spot) → AllByRecursion Stands spots → Rises (map tuple spots) → AllPairsByRecursion IsEarlierSpot spots
  spots_rise [] stand h = tt
  spots_rise (x ∷ xs) stand h = (each xs stand.1 h.0, spots_rise xs stand.1 h.1)
    where
      each : (ys : List Spot) → AllByRecursion Stands ys → AllByRecursion (Before (tuple x)) (map tuple ys) → AllByRecursion (IsEarlierSpot x) ys
      each [] s k = tt
      each (y ∷ ys) s k = (compared x y stand.0 s.0 ∙ k.0, each ys s.1 k.1)

  tuples_rise : (spots : List Spot) → AllByRecursion Stands spots → AllPairsByRecursion IsEarlierSpot spots → Rises (map tuple spots)
  tuples_rise [] stand h = tt
  tuples_rise (x ∷ xs) stand h = (each xs stand.1 h.0, tuples_rise xs stand.1 h.1)
    where
      each : (ys : List Spot) → AllByRecursion Stands ys → AllByRecursion (IsEarlierSpot x) ys → AllByRecursion (Before (tuple x)) (map tuple ys)
      each [] s k = tt
      each (y ∷ ys) s k = (before x y stand.0 s.0 k.0, each ys s.1 k.1)

  taken_tuples : (own made : List Spot) (i : ℕ) → AllByRecursion Stands own → AllByRecursion Stands made → IsTakenFrom IsEarlierSpot own i made → IsTakenFrom Before (map tuple own) i (map tuple made)
  taken_tuples own made i stand standing is = record {
    low = (let l : i ≤ length own = is.low in let e : length (map tuple own) ≡ length own = length-map own tuple in omega arith);
    few = (let l : i ≤ length made = is.few in let e : length (map tuple made) ≡ length made = length-map made tuple in omega arith);
    taken = λ k t l e. let m = mapped_at tuple own k t e in subst (Contains (map tuple made)) m.2 (image_in tuple made m.0 (is.taken k m.0 l m.1));
    later = λ k t u l e c.
        let m = mapped_at tuple own k t e in
        let n = mapped_in tuple made u c in
        subst (λ v. Before v t) n.2 (subst (λ v. Before (tuple n.0) v) m.2
        (before n.0 m.0 (all_at Stands made n.0 standing n.1) (all_at Stands own m.0 stand (Contains-from_get own k m.0 m.1)) (is.later k m.0 n.0 l m.1 n.1)));
    alone = λ l. let e : length (map tuple made) ≡ length made = length-map made tuple in ap (map tuple) (is.alone (omega arith)) ∙ front_map tuple i own;
  }

  merged_tuples : (left right made : List Spot) (i j : ℕ) → AllByRecursion Stands left → AllByRecursion Stands right → AllByRecursion Stands made → AreMergedLists IsEarlierSpot left right i j made → AreMergedLists Before (map tuple left) (map tuple right) i j (map tuple made)
  merged_tuples left right made i j lefts rights all is = record {
    rises = tuples_rise made all is.rises;
    from = λ t c. let m = mapped_in tuple made t c in subst (λ u. Contains (map tuple left) u ⊎ Contains (map tuple right) u) m.2 (by m.0 (is.from m.0 m.1));
    lefts = taken_tuples left made i lefts all is.lefts;
    rights = taken_tuples right made j rights all is.rights;
  }
    where
      by : (x : Spot) → Contains left x ⊎ Contains right x → Contains (map tuple left) (tuple x) ⊎ Contains (map tuple right) (tuple x)
      by x (inl c) = inl (image_in tuple left x c)
      by x (inr c) = inr (image_in tuple right x c)

  -- what was put together stands for its tuples
  pub merged_stand : (left right made : List Spot) (i j : ℕ) → AllByRecursion Stands left → AllByRecursion Stands right → AreMergedLists IsEarlierSpot left right i j made → AllByRecursion Stands made
  merged_stand left right made i j lefts rights is = all_by Stands made (λ x c. by x (is.from x c))
    where
      by : (x : Spot) → Contains left x ⊎ Contains right x → Stands x
      by x (inl c) = all_at Stands left x lefts c
      by x (inr c) = all_at Stands right x rights c

  as_many : (page : SpotPage) (taken : ℕ) → HasMore page taken → IsTrue page.more ⊎ (taken < length (map tuple page.spots))
  as_many page taken (inl m) = inl m
  as_many page taken (inr l) = inr (let e : length (map tuple page.spots) ≡ length page.spots = length-map page.spots tuple in omega arith)

  no_more : (page : SpotPage) (taken : ℕ) → IsTrue page.more ⊎ (taken < length (map tuple page.spots)) → HasMore page taken
  no_more page taken (inl m) = inl m
  no_more page taken (inr l) = inr (let e : length (map tuple page.spots) ≡ length page.spots = length-map page.spots tuple in omega arith)

  pub merged_page : (P Q : Tuple → Type 0) (from to : ℤ) (after : Option Tuple) (limit : ℕ) (left right made : SpotPage) → IsMergedPage left right limit made → AllByRecursion Stands left.spots → AllByRecursion Stands right.spots
      → IsPage P from to after limit (map tuple left.spots) left.more → IsPage Q from to after limit (map tuple right.spots) right.more → IsPage (λ t. P t ⊎ Q t) from to after limit (map tuple made.spots) made.more
  merged_page P Q from to after limit left right made is lefts rights p q =
      tuples_page P Q from to after limit (map tuple left.spots) (map tuple right.spots) left.more right.more p q is.i is.j (map tuple made.spots)
      (merged_tuples left.spots right.spots made.spots is.i is.j lefts rights (merged_stand left.spots right.spots made.spots is.i is.j lefts rights is.merged) is.merged)
      (let e : length (map tuple made.spots) ≡ length made.spots = length-map made.spots tuple in let s : length made.spots ≤ limit = is.short in omega arith)
      (ends is.whole) made.more (λ m. to_rest (is.more_is.0 m)) (λ r. is.more_is.1 (from_rest r))
    where
      ends : (length made.spots ≡ limit) ⊎ ((is.i ≡ length left.spots) × (is.j ≡ length right.spots)) → (length (map tuple made.spots) ≡ limit) ⊎ ((is.i ≡ length (map tuple left.spots)) × (is.j ≡ length (map tuple right.spots)))
      ends (inl e) = inl (length-map made.spots tuple ∙ e)
      ends (inr e) = inr (e.0 ∙ sym (length-map left.spots tuple), e.1 ∙ sym (length-map right.spots tuple))

      to_rest : HasMore left is.i ⊎ HasMore right is.j → (IsTrue left.more ⊎ (is.i < length (map tuple left.spots))) ⊎ (IsTrue right.more ⊎ (is.j < length (map tuple right.spots)))
      to_rest (inl h) = inl (as_many left is.i h)
      to_rest (inr h) = inr (as_many right is.j h)

      from_rest : (IsTrue left.more ⊎ (is.i < length (map tuple left.spots))) ⊎ (IsTrue right.more ⊎ (is.j < length (map tuple right.spots))) → HasMore left is.i ⊎ HasMore right is.j
      from_rest (inl h) = inl (no_more left is.i h)
      from_rest (inr h) = inr (no_more right is.j h)
