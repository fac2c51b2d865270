-- Rows of a relation as patterns.
use Rattle.std.proofs.Common.{◌≡◌, ◌≢◌, ℕ, zero, suc, ◌+◌, ◌-◌, ◌*◌, ◌<◌, ◌≤◌, ◌^◌, inl, inr, Bool, true, false, List, [], ◌∷◌, ◌++◌, length, take, drop, map, Option, None, Some, refl, sym, ap, subst, ◌∙◌, arith, get_or, Contains, bytes_eq}
use Rattle.std.specs.Prelude.{ℤ, pos, neg_ℤ, nat_abs, min, max, All, ◌+ℤ◌, ◌-ℤ◌, ◌≤ℤ◌, ◌<ℤ◌, ◌==◌, if◌then◌else◌, flat_map, slice_get, MatchOption}
use Rattle.std.specs.Cmp.Lexicographic.{bytes_decides}
use Rattle.std.specs.List.{AllByRecursion}
use Rattle.std.proofs.lemmas.Int.{ints}
use Rattle.std.proofs.Common.{to_z, of_z}
use Rattle.std.specs.Int.{w64}
use Rattle.std.proofs.lemmas.List.{drop_more, take_more, length-take, get_or_default, get_or_append_left, get_or-append-add, length-append, length-map}
use Rattle.std.proofs.lemmas.Bool.{cases_lt}
use Rattle.lrp_theory.specs.Divides.{Divides}
use Rattle.lrp_theory.specs.Entries.{node}
use Rattle.lrp_model.specs.Reach.{greatest, term_offset, term_magnitudes}
use Rattle.lrp_model.specs.Rows.{Datum, time, text, IsOf, MeetsBound}
use Rattle.lrp_model.specs.Satisfaction.{Assignment, Passes, term_value, time_value}
use Rattle.lrp_model.specs.Texts.{Text, Identifier}
use Rattle.lrp_model.specs.declared.formulas.DataTerm.{DataTerm}
use Rattle.lrp_model.specs.declared.formulas.DataTerm.TheVariants.{Const as data_const}
use Rattle.lrp_model.specs.declared.formulas.Term.{Term}
use Rattle.lrp_model.specs.declared.formulas.Term.TheVariants.{Time as time_term, Data as data_term}
use Rattle.lrp_model.specs.declared.formulas.Test.{Test}
use Rattle.lrp_model.specs.declared.formulas.Test.TheVariants.{Member, Equal}
use Rattle.lrp_model.specs.declared.formulas.TimeTerm.{TimeTerm}
use Rattle.lrp_model.specs.declared.relations.Bound.{Bound}
use Rattle.lrp_model.specs.declared.relations.Row.{Row}
use Rattle.lrp_model.specs.declared.relations.RowPoint.{RowPoint}
use Rattle.lrp_model.specs.declared.relations.Value.{Value}
use Rattle.lrp_model.specs.declared.relations.Value.TheVariants.{Point, Const}
use Rattle.std.proofs.lemmas.Option.{slice_get_within, get_or_from_slice_get}
use Rattle.lrp_model.proofs.Ascending.{all_at}
use Rattle.lrp_model.proofs.Logic.{all_append}
use Rattle.lrp_tables.proofs.Joining.{at_place}
use Rattle.lrp_systems.specs.Parts.{PartView, Fits, part_reach, system_reach}
use Rattle.lrp_tables.specs.Calls.{test_period}
use Rattle.lrp_zone.specs.Zones.{ZoneView, IsMember as InZone, reach_of}
use Rattle.lrp_zone.specs.Given.{bound_at, IsGivenZone as IsZoneOf, HasNone, AreGiven, MeetsGiven}
use Rattle.lrp_steps.specs.declared.asked.AskedText.{AskedText}
use Rattle.lrp_steps.specs.declared.comparisons.ShiftedColumn.{ShiftedColumn}
use Rattle.lrp_steps.specs.declared.pattern.Pattern.{Pattern}
use Rattle.lrp_steps.specs.Comparisons.{side_value}
use Rattle.lrp_steps.specs.Conditions.{condition_reach, IsWithTest, HasNoTest, IsWithZone}
use Rattle.lrp_steps.specs.Patterns.{parts_of}
use Rattle.lrp_steps.specs.Rows.{IsAskedText, IsOfValue, DividesPeriod, HasSmallPeriod, term_times, offsets_reach, bounds_reach, IsShifted, MeetsEach, IsZoneOfBounds, HasNoBounded, IsWithBounds, HasNoBounds, IsWithValue, HasNoValue, IsWithValues, HasNoValues, IsNeverOf, AreNeverOf, IsOfRow, HasNoRow}
use Rattle.lrp_steps.proofs.Compared.{one_divides}
use Rattle.lrp_steps.proofs.Conditioned.{zone_to, zone_from, all_places, all_values}
use Rattle.lrp_steps.proofs.Found.{all_one, reach_more}
use Rattle.lrp_steps.proofs.Steps.{free, free_reach, free_suits}
use Rattle.std.proofs.lemmas.List.Elements.{All-append, All-get_or, Contains-append_left, Contains-append_right}

-- ---- the value of a term

module _ (domain : List Text) (times texts : List Identifier) (value : Value) (term : Term) (test : Test) (old new : Pattern)
    (to : (env : Assignment) → Passes env test → IsOfValue value (term_value env term)) (from : (env : Assignment) → IsOfValue value (term_value env term) → Passes env test) where
  -- a value that a test asks for
  pub value_by : condition_reach test ≡ 0 → ((k : ℕ) → DividesPeriod (pos k) value → Divides (test_period test) (pos k)) → IsWithTest domain times texts test old new → IsWithValue domain times texts value term old new
  value_by none divides w = record {
    size = w.size;
    to = λ env ns a h. let g = w.to env ns a h in (g.0, to env g.1);
    from = λ env ns a h i. w.from env ns a h (from env i);
    fits = λ k p high all. w.fits k (divides k p) (inr (small (condition_reach test) k none high)) all;
    reach = λ k high le all. w.reach k high (subst (λ n. (if nat_abs (test_period test) == k then n else n + (k - 1)) ≤ high) (sym none) (by k high (nat_abs (test_period test) == k) le)) all;
  }
    where
      small : (n k : ℕ) → n ≡ 0 → k ≤ 2 ^ 62 → n + k ≤ 2 ^ 62
      small n k e h = omega (arith, e, h)

      by : (k high : ℕ) (b : Bool) → k ≤ high → (if b then 0 else 0 + (k - 1)) ≤ high
      by k high true le = omega (arith, le)
      by k high false le = omega (arith, le)

  pub value_none : HasNoTest domain times texts test old → HasNoValue domain times texts value term old
  value_none fails = record { none = λ env ns a h i. fails.none env ns a h (from env i) }

-- what one term has, all of them have
pub in_flat : {X Y : Type 0} (f : X → List Y) (xs : List X) (i : ℕ) (x : X) (y : Y) → i < length xs → x ≡ get_or xs i x → Contains (f x) y → Contains (flat_map f xs) y
in_flat f [] i x y low is h = absurd (omega (arith, low))
in_flat f (v ∷ vs) zero x y low is h = Contains-append_left (f v) (flat_map f vs) y (subst (λ u. Contains (f u) y) is h)
in_flat f (v ∷ vs) (suc i) x y low is h = Contains-append_right (f v) (flat_map f vs) y (in_flat f vs i x y (omega (arith, low)) is h)

-- a point for a time, and a constant for a text
module _ (domain : List Text) (times texts : List Identifier) (value : Value) (term : Term) (old : Pattern) where
  pub point_found : (at : RowPoint) (t : TimeTerm) → value ≡ Point at → term ≡ time_term t → (found : Option Pattern) → MatchOption found (HasNoTest domain times texts (Member t at) old) (IsWithTest domain times texts (Member t at) old) → MatchOption found (HasNoValue domain times texts value term old) (IsWithValue domain times texts value term old)
  point_found at t ev et None h = value_none domain times texts value term (Member t at) old old (λ env i. subst (λ v. IsOfValue v (term_value env term)) (sym ev) (subst (λ u. IsOfValue (Point at) (term_value env u)) (sym et) i)) (λ env i. subst (λ u. IsOfValue (Point at) (term_value env u)) et (subst (λ v. IsOfValue v (term_value env term)) ev i)) h
  point_found at t ev et (Some new) h = value_by domain times texts value term (Member t at) old new (λ env i. subst (λ v. IsOfValue v (term_value env term)) (sym ev) (subst (λ u. IsOfValue (Point at) (term_value env u)) (sym et) i)) (λ env i. subst (λ u. IsOfValue (Point at) (term_value env u)) et (subst (λ v. IsOfValue v (term_value env term)) ev i)) refl (λ k p. (subst (DividesPeriod (pos k)) ev p).1) h

  pub constant_found : (t : Text) (d : DataTerm) → value ≡ Const t → term ≡ data_term d → (found : Option Pattern) → MatchOption found (HasNoTest domain times texts (Equal d (data_const t)) old) (IsWithTest domain times texts (Equal d (data_const t)) old) → MatchOption found (HasNoValue domain times texts value term old) (IsWithValue domain times texts value term old)
  constant_found t d ev et None h = value_none domain times texts value term (Equal d (data_const t)) old old (λ env i. subst (λ v. IsOfValue v (term_value env term)) (sym ev) (subst (λ u. IsOfValue (Const t) (term_value env u)) (sym et) i)) (λ env i. subst (λ u. IsOfValue (Const t) (term_value env u)) et (subst (λ v. IsOfValue v (term_value env term)) ev i)) h
  constant_found t d ev et (Some new) h = value_by domain times texts value term (Equal d (data_const t)) old new (λ env i. subst (λ v. IsOfValue v (term_value env term)) (sym ev) (subst (λ u. IsOfValue (Const t) (term_value env u)) (sym et) i)) (λ env i. subst (λ u. IsOfValue (Const t) (term_value env u)) et (subst (λ v. IsOfValue v (term_value env term)) ev i)) refl (λ k p. one_divides (pos k)) h

  -- no text is in a point, and no time is a constant
  pub no_text : (at : RowPoint) (d : DataTerm) → value ≡ Point at → term ≡ data_term d → HasNoValue domain times texts value term old
  no_text at d ev et = record { none = λ env ns a h i. subst (λ u. IsOfValue (Point at) (term_value env u)) et (subst (λ v. IsOfValue v (term_value env term)) ev i) }

  pub no_time : (c : Text) (t : TimeTerm) → value ≡ Const c → term ≡ time_term t → HasNoValue domain times texts value term old
  no_time c t ev et = record { none = λ env ns a h i. subst (λ u. IsOfValue (Const c) (term_value env u)) et (subst (λ v. IsOfValue v (term_value env term)) ev i) }

-- the elements before one of them, and that one
pub front_get : {X : Type 0} (xs : List X) (i : ℕ) (x : X) → slice_get xs i ≡ Some x → take (i + 1) xs ≡ take i xs ++ x ∷ []
front_get xs i x e = take_more xs i x (slice_get_within xs i x e) ∙ ap (λ y. take i xs ++ y ∷ []) (get_or_from_slice_get xs i x x e)

pub flat_get : {X Y : Type 0} (f : X → List Y) (xs : List X) (i : ℕ) (x : X) (y : Y) → slice_get xs i ≡ Some x → Contains (f x) y → Contains (flat_map f xs) y
flat_get f xs i x y e h = in_flat f xs i x y (slice_get_within xs i x e) (sym (get_or_from_slice_get xs i x x e)) h

-- fronts of lists of one length
pub same_front : {X Y : Type 0} (n : ℕ) (xs : List X) (ys : List Y) → length xs ≡ length ys → length (take n xs) ≡ length (take n ys)
same_front n xs ys e = length-take n xs ∙ ap (min n) e ∙ sym (length-take n ys)

pub period_get : (values : List Value) (i : ℕ) (value : Value) → slice_get values i ≡ Some value → AllByRecursion HasSmallPeriod values → HasSmallPeriod value
period_get values i value e all = all_at HasSmallPeriod values value all (at_place values i value e)

-- ---- the values of all terms

-- lists of one length, one more
values_more : (values : List Value) (tuple : List Datum) (value : Value) (datum : Datum) → length values ≡ length tuple → (IsOf values tuple × IsOfValue value datum → IsOf (values ++ value ∷ []) (tuple ++ datum ∷ [])) × (IsOf (values ++ value ∷ []) (tuple ++ datum ∷ []) → IsOf values tuple × IsOfValue value datum)
values_more [] [] value datum e = one value datum
  where
    one : (value : Value) (datum : Datum) → (Unit {0} × IsOfValue value datum → IsOf (value ∷ []) (datum ∷ [])) × (IsOf (value ∷ []) (datum ∷ []) → Unit {0} × IsOfValue value datum)
    one (Point at) (time x) = ((λ h. (h.1, tt)), λ h. (tt, h.0))
    one (Point at) (text t) = ((λ h. h.1), λ h. absurd h)
    one (Const c) (time x) = ((λ h. h.1), λ h. absurd h)
    one (Const c) (text t) = ((λ h. (h.1, tt)), λ h. (tt, h.0))
values_more [] (d ∷ tuple) value datum e = absurd (omega (arith, e))
values_more (v ∷ values) [] value datum e = absurd (omega (arith, e))
values_more (Point at ∷ values) (time x ∷ tuple) value datum e = let r = values_more values tuple value datum (omega (arith, e)) in ((λ h. (h.0.0, r.0 (h.0.1, h.1))), λ h. let g = r.1 h.1 in ((h.0, g.0), g.1))
values_more (Const c ∷ values) (text t ∷ tuple) value datum e = let r = values_more values tuple value datum (omega (arith, e)) in ((λ h. (h.0.0, r.0 (h.0.1, h.1))), λ h. let g = r.1 h.1 in ((h.0, g.0), g.1))
values_more (Point at ∷ values) (text t ∷ tuple) value datum e = ((λ h. absurd h.0), λ h. absurd h)
values_more (Const c ∷ values) (time x ∷ tuple) value datum e = ((λ h. absurd h.0), λ h. absurd h)

map_push : (env : Assignment) (terms : List Term) (term : Term) → map (term_value env) (terms ++ term ∷ []) ≡ map (term_value env) terms ++ term_value env term ∷ []
map_push env [] term = refl
map_push env (t ∷ terms) term = ap (λ l. term_value env t ∷ l) (map_push env terms term)

module _ (domain : List Text) (times texts : List Identifier) where
  -- no value is asked for yet
  pub values_none : (old : Pattern) → old ≡ free → IsWithValues domain times texts [] [] old
  values_none old e = record {
    size = ap (λ (p : Pattern). length p.texts) e;
    to = λ env ns a h. tt;
    from = λ env ns a h. free_suits old e (map env.times times) ns;
    fits = λ k d h. subst (λ (p : Pattern). All (Fits (length times) k) (parts_of p)) (sym e) (λ i x low. absurd (omega arith));
    reach = λ k high h. free_reach old e k high;
  }

  module _ (values : List Value) (terms : List Term) (value : Value) (term : Term) (count : length values ≡ length terms) (old : Pattern) (w : IsWithValues domain times texts values terms old) where
    split : (env : Assignment) → IsOf (values ++ value ∷ []) (map (term_value env) (terms ++ term ∷ [])) → IsOf values (map (term_value env) terms) × IsOfValue value (term_value env term)
    split env h = (values_more values (map (term_value env) terms) value (term_value env term) (count ∙ sym (length-map terms (term_value env)))).1 (subst (IsOf (values ++ value ∷ [])) (map_push env terms term) h)

    both : (env : Assignment) → IsOf values (map (term_value env) terms) → IsOfValue value (term_value env term) → IsOf (values ++ value ∷ []) (map (term_value env) (terms ++ term ∷ []))
    both env h i = subst (IsOf (values ++ value ∷ [])) (sym (map_push env terms term)) ((values_more values (map (term_value env) terms) value (term_value env term) (count ∙ sym (length-map terms (term_value env)))).0 (h, i))

    -- one more is
    pub values_one_more : (new : Pattern) → IsWithValue domain times texts value term old new → IsWithValues domain times texts (values ++ value ∷ []) (terms ++ term ∷ []) new
    values_one_more new v = record {
      size = v.size;
      to = λ env ns a h. let g = v.to env ns a h in both env (w.to env ns a g.0) g.1;
      from = λ env ns a h. let g = split env h in v.from env ns a (w.from env ns a g.0) g.1;
      fits = λ k p high. let g = (all_append (DividesPeriod (pos k)) values (value ∷ [])).0 p in v.fits k g.1.0 high (w.fits k g.0 high);
      reach = λ k high le. v.reach k high le (w.reach k high le);
    }

    -- nothing has one more
    pub values_no : HasNoValue domain times texts value term old → HasNoValues domain times texts (values ++ value ∷ []) (terms ++ term ∷ [])
    values_no fails = record { none = λ env ns a h. let g = split env h in fails.none env ns a (w.from env ns a g.0) g.1 }

-- what all values are, the first ones are
values_front : (n : ℕ) (values : List Value) (tuple : List Datum) → IsOf values tuple → IsOf (take n values) (take n tuple)
values_front zero values tuple h = tt
values_front (suc n) [] [] h = tt
values_front (suc n) [] (d ∷ tuple) h = absurd h
values_front (suc n) (v ∷ values) [] h = absurd (none v h)
  where
    none : (v : Value) → IsOf (v ∷ values) [] → ⊥
    none (Point at) h = h
    none (Const c) h = h
values_front (suc n) (Point at ∷ values) (time x ∷ tuple) h = (h.0, values_front n values tuple h.1)
values_front (suc n) (Const c ∷ values) (text t ∷ tuple) h = (h.0, values_front n values tuple h.1)
values_front (suc n) (Point at ∷ values) (text t ∷ tuple) h = absurd h
values_front (suc n) (Const c ∷ values) (time x ∷ tuple) h = absurd h

take_map : (env : Assignment) (n : ℕ) (terms : List Term) → take n (map (term_value env) terms) ≡ map (term_value env) (take n terms)
take_map env zero terms = refl
take_map env (suc n) [] = refl
take_map env (suc n) (t ∷ terms) = ap (λ l. term_value env t ∷ l) (take_map env n terms)

pub none_of_values : (domain : List Text) (times texts : List Identifier) (values : List Value) (terms : List Term) (n : ℕ) → HasNoValues domain times texts (take n values) (take n terms) → HasNoValues domain times texts values terms
none_of_values domain times texts values terms n fails = record { none = λ env ns a h. fails.none env ns a (subst (IsOf (take n values)) (take_map env n terms) (values_front n values (map (term_value env) terms) h)) }

-- ---- values that fail for each assignment

-- another text is never what the term stands for
pub other_text : (value : Value) (term : Term) (here asked : Text) → value ≡ Const here → term ≡ data_term (data_const asked) → bytes_eq here asked ≡ false → IsNeverOf value term
other_text value term here asked ev et differ = record { none = λ env h. (let same : bytes_eq here asked ≡ true = (bytes_decides here asked).1 (sym (subst (λ u. IsOfValue (Const here) (term_value env u)) et (subst (λ v. IsOfValue v (term_value env term)) ev h))) in cc) }

pub never_equal : (value : Value) (term : Term) (here asked : Text) → value ≡ Const here → term ≡ data_term (data_const asked) → here ≢ asked → IsNeverOf value term
never_equal value term here asked ev et differ = record { none = λ env h. differ (sym (subst (λ u. IsOfValue (Const here) (term_value env u)) et (subst (λ v. IsOfValue v (term_value env term)) ev h))) }

first_and_rest : (v : Value) (values : List Value) (d : Datum) (tuple : List Datum) → IsOf (v ∷ values) (d ∷ tuple) → IsOfValue v d × IsOf values tuple
first_and_rest (Point at) values (time x) tuple h = h
first_and_rest (Const c) values (text t) tuple h = h
first_and_rest (Point at) values (text t) tuple h = absurd h
first_and_rest (Const c) values (time x) tuple h = absurd h

-- what all terms stand for is of the values, so what each stands for is
value_at : (env : Assignment) (values : List Value) (terms : List Term) (i : ℕ) (value : Value) (term : Term) → i < length values → i < length terms → value ≡ get_or values i value → term ≡ get_or terms i term → IsOf values (map (term_value env) terms) → IsOfValue value (term_value env term)
value_at env [] terms i value term low high ev et h = absurd (omega (arith, low))
value_at env (v ∷ values) [] i value term low high ev et h = absurd (omega (arith, high))
value_at env (v ∷ values) (t ∷ terms) zero value term low high ev et h =
    subst (λ w. IsOfValue w (term_value env term)) (sym ev) (subst (λ u. IsOfValue v (term_value env u)) (sym et) (first_and_rest v values (term_value env t) (map (term_value env) terms) h).0)
value_at env (v ∷ values) (t ∷ terms) (suc i) value term low high ev et h = value_at env values terms i value term (omega (arith, low)) (omega (arith, high)) ev et (first_and_rest v values (term_value env t) (map (term_value env) terms) h).1

-- where one value fails, all of them do
pub never_by : (values : List Value) (terms : List Term) (i : ℕ) (value : Value) (term : Term) → slice_get values i ≡ Some value → slice_get terms i ≡ Some term → IsNeverOf value term → AreNeverOf values terms
never_by values terms i value term ev et never = record {
  none = λ env h. never.none env (value_at env values terms i value term (slice_get_within values i value ev) (slice_get_within terms i term et)
      (sym (get_or_from_slice_get values i value value ev)) (sym (get_or_from_slice_get terms i term term et)) h);
}

-- another text stands where one of the texts that are asked for would
pub never_asked : (values : List Value) (asked : List AskedText) (i : ℕ) (one : AskedText) (value : Value) → i < length asked → one ≡ get_or asked i one → slice_get values one.place ≡ Some value → IsNeverOf value (data_term (data_const one.text.now)) → (terms : List Term) → All (IsAskedText terms) asked → AreNeverOf values terms
never_asked values asked i one value low is ev never terms all =
    never_by values terms one.place value (data_term (data_const one.text.now)) ev (subst (IsAskedText terms) (sym is) (All-get_or (IsAskedText terms) asked i one low all)).is never

-- ---- the sides of bounds

-- of no times, each column is the number zero
pub node_none : (n : ℕ) → node [] n ≡ pos 0
node_none zero = refl
node_none (suc n) = refl

-- a time column after the first one
pub after : (x : ℤ) (xs : List ℤ) (n : ℕ) → n ≢ 1 → node (x ∷ xs) n ≡ node xs (n - 1)
after x [] zero h = refl
after x (y ∷ xs) zero h = refl
after x xs (suc zero) h = absurd (h refl)
after x xs (suc (suc n)) h = let e : suc n ≡ suc (suc n) - 1 = omega arith in ap (node xs) e

-- the terms from one of them on
next_of : (terms : List Term) (i : ℕ) (item : Term) → i < length terms → item ≡ get_or terms i item → drop i terms ≡ item ∷ drop (i + 1) terms
next_of terms i item low is = drop_more terms i item low ∙ ap (λ u. u ∷ drop (i + 1) terms) (sym is)

-- the first time among the terms that are left
pub first_left : (env : Assignment) (terms : List Term) (i : ℕ) (item : Term) (t : TimeTerm) (n : ℕ) → i < length terms → item ≡ get_or terms i item → item ≡ time_term t → n ≡ 1 → node (term_times env (drop i terms)) n ≡ time_value env t
first_left env terms i item t n low is e en = ap (λ l. node (term_times env l) n) (next_of terms i item low is ∙ ap (λ u. u ∷ drop (i + 1) terms) e) ∙ ap (node (time_value env t ∷ term_times env (drop (i + 1) terms))) en

-- a later one, after a time
pub later_left : (env : Assignment) (terms : List Term) (i : ℕ) (item : Term) (t : TimeTerm) (n next : ℕ) → i < length terms → item ≡ get_or terms i item → item ≡ time_term t → n ≢ 1 → next ≡ n - 1 → node (term_times env (drop i terms)) n ≡ node (term_times env (drop (i + 1) terms)) next
later_left env terms i item t n next low is e other en = ap (λ l. node (term_times env l) n) (next_of terms i item low is ∙ ap (λ u. u ∷ drop (i + 1) terms) e) ∙ after (time_value env t) (term_times env (drop (i + 1) terms)) n other ∙ ap (node (term_times env (drop (i + 1) terms))) (sym en)

-- a text is not counted
pub text_left : (env : Assignment) (terms : List Term) (i : ℕ) (item : Term) (n next : ℕ) → i < length terms → item ≡ get_or terms i item → ((t : TimeTerm) → item ≡ time_term t → ⊥) → next ≡ n → node (term_times env (drop i terms)) n ≡ node (term_times env (drop (i + 1) terms)) next
text_left env terms i item n next low is none en = ap (λ l. node (term_times env l) n) (next_of terms i item low is) ∙ by item none ∙ ap (node (term_times env (drop (i + 1) terms))) (sym en)
  where
    by : (u : Term) → ((t : TimeTerm) → u ≡ time_term t → ⊥) → node (term_times env (u ∷ drop (i + 1) terms)) n ≡ node (term_times env (drop (i + 1) terms)) n
    by (time_term t) h = absurd (h t refl)
    by (data_term t) h = refl

greatest_in : (ns : List ℕ) (n : ℕ) → Contains ns n → n ≤ greatest ns
greatest_in [] n h = let low : h.0 < 0 = h.1 in absurd (omega (arith, low))
greatest_in (m ∷ ns) n (zero, low, e) = by m (greatest ns) n e
  where
    by : (a b c : ℕ) → a ≡ c → c ≤ max a b
    by a b c e = omega (arith, e)
greatest_in (m ∷ ns) n (suc i, low, e) = by m (greatest ns) n (greatest_in ns n (i, omega (arith, low), e))
  where
    by : (a b c : ℕ) → c ≤ b → c ≤ max a b
    by a b c h = omega (arith, h)

pub offset_within : (terms : List Term) (i : ℕ) (item : Term) (t : TimeTerm) → i < length terms → item ≡ get_or terms i item → item ≡ time_term t → nat_abs (term_offset t) ≤ greatest (flat_map term_magnitudes terms)
offset_within terms i item t low is e = greatest_in (flat_map term_magnitudes terms) (nat_abs (term_offset t)) (in_flat term_magnitudes terms i item (nat_abs (term_offset t)) low is (subst (λ u. Contains (term_magnitudes u) (nat_abs (term_offset t))) (sym e) (0, omega arith, refl)))

-- ---- bounds

-- bounds by places and by recursion
all_to_zip : {A B : Type 0} (P : A → Type 0) (Q : B → Type 0) → (xs : List A) (ys : List B) → length xs ≡ length ys → ((i : ℕ) (x : A) (y : B) → i < length xs → P (get_or xs i x) → Q (get_or ys i y)) → All P xs → AllByRecursion Q ys
all_to_zip P Q [] [] e f h = tt
all_to_zip P Q [] (y ∷ ys) e f h = absurd (omega (arith, e))
all_to_zip P Q (x ∷ xs) [] e f h = absurd (omega (arith, e))
all_to_zip P Q (x ∷ xs) (y ∷ ys) e f h = (f 0 x y (omega arith) (h 0 x (omega arith)), all_to_zip P Q xs ys (omega (arith, e)) (λ i a b low. f (suc i) a b (omega (arith, low))) (λ k d low. h (suc k) d (omega (arith, low))))

zip_to_all : {A B : Type 0} (P : A → Type 0) (Q : B → Type 0) → (xs : List A) (ys : List B) → length xs ≡ length ys → ((i : ℕ) (x : A) (y : B) → i < length xs → Q (get_or ys i y) → P (get_or xs i x)) → AllByRecursion Q ys → All P xs
zip_to_all P Q [] [] e f h k d low = absurd (omega (arith, low))
zip_to_all P Q [] (y ∷ ys) e f h k d low = absurd (omega (arith, e))
zip_to_all P Q (x ∷ xs) [] e f h k d low = absurd (omega (arith, e))
zip_to_all P Q (x ∷ xs) (y ∷ ys) e f h zero d low = f 0 x y (omega arith) h.0
zip_to_all P Q (x ∷ xs) (y ∷ ys) e f h (suc k) d low = zip_to_all P Q xs ys (omega (arith, e)) (λ i a b l. f (suc i) a b (omega (arith, l))) h.1 k d (omega (arith, low))

-- a bound of sides, as one of their columns
pub shift_bound : (times : List Identifier) (terms : List Term) (bound new : Bound) (l r : ShiftedColumn) → ((env : Assignment) → side_value l (map env.times times) ≡ node (term_times env terms) bound.left) → ((env : Assignment) → side_value r (map env.times times) ≡ node (term_times env terms) bound.right)
    → l.column ≤ length times → r.column ≤ length times → nat_abs l.plus ≤ greatest (flat_map term_magnitudes terms) → nat_abs r.plus ≤ greatest (flat_map term_magnitudes terms) → new.left ≡ l.column → new.right ≡ r.column → new.most ≡ (bound.most -ℤ l.plus) +ℤ r.plus → IsShifted times terms bound new
shift_bound times terms bound new l r lv rv lc rc ls rs el er em = record {
  left = subst (λ n. n ≤ length times) (sym el) lc;
  right = subst (λ n. n ≤ length times) (sym er) rc;
  small = size (nat_abs new.most) (greatest (flat_map term_magnitudes terms)) new.most bound.most l.plus r.plus em ls rs refl;
  to = λ env h. to_it new.most bound.most l.plus r.plus (node (map env.times times) l.column) (node (map env.times times) r.column) (node (term_times env terms) bound.left) (node (term_times env terms) bound.right) em (lv env) (rv env) (subst (λ n. (node (map env.times times) n -ℤ node (map env.times times) r.column) ≤ℤ new.most) el (subst (λ n. (node (map env.times times) new.left -ℤ node (map env.times times) n) ≤ℤ new.most) er h));
  from = λ env h. subst (λ n. (node (map env.times times) n -ℤ node (map env.times times) new.right) ≤ℤ new.most) (sym el) (subst (λ n. (node (map env.times times) l.column -ℤ node (map env.times times) n) ≤ℤ new.most) (sym er) (from_it new.most bound.most l.plus r.plus (node (map env.times times) l.column) (node (map env.times times) r.column) (node (term_times env terms) bound.left) (node (term_times env terms) bound.right) em (lv env) (rv env) h));
}
  where
    size : (a g : ℕ) (m b p q : ℤ) → m ≡ (b -ℤ p) +ℤ q → nat_abs p ≤ g → nat_abs q ≤ g → a ≡ nat_abs m → a ≤ nat_abs b + 2 * g
    size a g m b p q e h k f = omega (arith, ints, e, h, k, f)

    to_it : (m b p q x y u v : ℤ) → m ≡ (b -ℤ p) +ℤ q → x +ℤ p ≡ u → y +ℤ q ≡ v → (x -ℤ y) ≤ℤ m → (u -ℤ v) ≤ℤ b
    to_it m b p q x y u v e f g h = omega (arith, ints, e, f, g, h)

    from_it : (m b p q x y u v : ℤ) → m ≡ (b -ℤ p) +ℤ q → x +ℤ p ≡ u → y +ℤ q ≡ v → (u -ℤ v) ≤ℤ b → (x -ℤ y) ≤ℤ m
    from_it m b p q x y u v e f g h = omega (arith, ints, e, f, g, h)

-- the words of a bound that is shifted
pub shift_words : (b p q : ℤ) (g : ℕ) → nat_abs b + 2 * g < 2 ^ 62 → nat_abs p ≤ g → nat_abs q ≤ g → to_z w64 (of_z w64 (to_z w64 (of_z w64 (to_z w64 (of_z w64 b) -ℤ to_z w64 (of_z w64 p))) +ℤ to_z w64 (of_z w64 q))) ≡ (b -ℤ p) +ℤ q
shift_words b p q g room h k =
    ap (λ x. to_z w64 (of_z w64 (to_z w64 (of_z w64 (x -ℤ to_z w64 (of_z w64 p))) +ℤ to_z w64 (of_z w64 q)))) (word b (omega (arith, ints, room, h, k)) (omega (arith, ints, room, h, k)))
    ∙ ap (λ x. to_z w64 (of_z w64 (to_z w64 (of_z w64 (b -ℤ x)) +ℤ to_z w64 (of_z w64 q)))) (word p (omega (arith, ints, room, h, k)) (omega (arith, ints, room, h, k)))
    ∙ ap (λ x. to_z w64 (of_z w64 (x +ℤ to_z w64 (of_z w64 q)))) (word (b -ℤ p) (omega (arith, ints, room, h, k)) (omega (arith, ints, room, h, k)))
    ∙ ap (λ x. to_z w64 (of_z w64 ((b -ℤ p) +ℤ x))) (word q (omega (arith, ints, room, h, k)) (omega (arith, ints, room, h, k)))
    ∙ word ((b -ℤ p) +ℤ q) (omega (arith, ints, room, h, k)) (omega (arith, ints, room, h, k))
  where
    word : (m : ℤ) → neg_ℤ (pos (2 ^ 63)) ≤ℤ m → m <ℤ pos (2 ^ 63) → to_z w64 (of_z w64 m) ≡ m
    word m low high = omega (arith, ints, low, high)

-- the zone of bounds
module _ (bounds : List Bound) (columns : ℕ) (rs : List ℤ) (count : length rs ≡ columns) where
  abbrev none_at : Bound
  none_at = record { left = 0; right = 0; most = pos 0 }

  pub bounded_given : All (λ (b : Bound). (b.left ≤ columns) × (b.right ≤ columns)) bounds → All (λ (b : Bound). nat_abs b.most ≤ 2 ^ 62) bounds → AreGiven (pos 1) rs bounds
  bounded_given between small = record {
    each = λ i h. let b = between i none_at h in record {
      left = subst (λ n. (bound_at bounds i).left ≤ n) (sym count) b.0;
      right = subst (λ n. (bound_at bounds i).right ≤ n) (sym count) b.1;
      fits = record { room = inl (one_divides _, small i none_at h) };
    };
  }

  met_given : (xs : List ℤ) → length xs ≡ columns → MeetsEach bounds xs → MeetsGiven (pos 1) rs bounds xs
  met_given xs e h = record { count = e ∙ sym count; residues = record { each = λ p low. one_divides _ }; meets = λ i low. h i none_at low }

  pub bounded_none : HasNone (pos 1) rs bounds → HasNoBounded bounds columns
  bounded_none none = record { none = λ xs e h. none.none xs (met_given xs e h) }

  pub bounded_some : (z : ZoneView) → IsZoneOf (pos 1) rs bounds z → IsZoneOfBounds bounds columns z
  bounded_some z of = record {
    period = one;
    count = ap length of.residues ∙ count;
    to = λ xs h k d low. subst (λ (b : Bound). (node xs b.left -ℤ node xs b.right) ≤ℤ b.most) (get_or_default bounds k none_at d low) ((of.to xs h).meets k low);
    from = λ xs e h. of.from xs (met_given xs e h);
    reach = λ high all. by (reach_of z) high z.period one (of.reach high (λ i low. all i none_at low));
  }
    where
      one : z.period ≡ 1
      one = let e = of.period in omega (arith, ints, e)

      by : (a h p : ℕ) → p ≡ 1 → a ≤ h + (p - 1) → a ≤ h
      by a h p e l = omega (arith, e, l)

-- each bound of new is that of old, shifted
pub record AreShifted (times : List Identifier) (terms : List Term) (old new : List Bound) : Type 0 where
  pub count : length new ≡ length old
  pub each : (i : ℕ) (d e : Bound) → i < length new → IsShifted times terms (get_or old i e) (get_or new i d)

-- a bound's magnitude is at most the greatest
pub bound_within : (bounds : List Bound) (i : ℕ) (d : Bound) → i < length bounds → nat_abs (get_or bounds i d).most ≤ greatest (map (λ (b : Bound). nat_abs b.most) bounds)
bound_within [] i d low = absurd (omega (arith, low))
bound_within (b ∷ bounds) zero d low = by (nat_abs b.most) (greatest (map (λ (b : Bound). nat_abs b.most) bounds))
  where
    by : (x y : ℕ) → x ≤ max x y
    by x y = omega arith
bound_within (b ∷ bounds) (suc i) d low = by (nat_abs (get_or bounds i d).most) (nat_abs b.most) (greatest (map (λ (b : Bound). nat_abs b.most) bounds)) (bound_within bounds i d (omega (arith, low)))
  where
    by : (z x y : ℕ) → z ≤ y → z ≤ max x y
    by z x y h = omega (arith, h)

pub no_shifted : (times : List Identifier) (terms : List Term) → AreShifted times terms [] []
no_shifted times terms = record { count = refl; each = λ i d e low. absurd (omega (arith, low)) }

pub one_shifted : (times : List Identifier) (terms : List Term) (old new : List Bound) (bound shifted : Bound) → AreShifted times terms old new → IsShifted times terms bound shifted → AreShifted times terms (old ++ bound ∷ []) (new ++ shifted ∷ [])
one_shifted times terms old new bound shifted are is = record {
  count = length-append new (shifted ∷ []) ∙ ap (λ n. n + 1) are.count ∙ sym (length-append old (bound ∷ []));
  each = λ i d e low. elim (cases_lt i (length new)) [
    | inl less ↦ subst (λ b. IsShifted times terms b (get_or (new ++ shifted ∷ []) i d)) (sym (get_or_append_left old (bound ∷ []) e i (subst (λ n. i < n) are.count less))) (subst (λ b. IsShifted times terms (get_or old i e) b) (sym (get_or_append_left new (shifted ∷ []) d i less)) (are.each i d e less))
    | inr more ↦
        let at : i ≡ length new = (let n : length (new ++ shifted ∷ []) ≡ length new + 1 = length-append new (shifted ∷ []) in omega (arith, n, low, more)) in
        let here : get_or (new ++ shifted ∷ []) i d ≡ shifted = ap (λ k. get_or (new ++ shifted ∷ []) k d) (let z : i ≡ length new + 0 = omega (arith, at) in z) ∙ get_or-append-add new (shifted ∷ []) 0 d in
        let there : get_or (old ++ bound ∷ []) i e ≡ bound = ap (λ k. get_or (old ++ bound ∷ []) k e) (let z : i ≡ length old + 0 = (let c = are.count in omega (arith, at, c)) in z) ∙ get_or-append-add old (bound ∷ []) 0 e in
        subst (λ b. IsShifted times terms b (get_or (new ++ shifted ∷ []) i d)) (sym there) (subst (λ b. IsShifted times terms bound b) (sym here) is)
  ];
}

-- a bound and the offsets have room
pub bound_room : (bounds : List Bound) (terms : List Term) (i : ℕ) (d : Bound) → bounds_reach bounds terms < 2 ^ 62 → i < length bounds → nat_abs (get_or bounds i d).most + offsets_reach terms < 2 ^ 62
bound_room bounds terms i d room low = by (nat_abs (get_or bounds i d).most) (greatest (map (λ (b : Bound). nat_abs b.most) bounds)) (offsets_reach terms) (bound_within bounds i d low) room
  where
    by : (a g o : ℕ) → a ≤ g → g + o < 2 ^ 62 → a + o < 2 ^ 62
    by a g o h r = omega (arith, h, r)

module _ (times : List Identifier) (terms : List Term) (old new : List Bound) (are : AreShifted times terms old new) where
  -- the shifted bounds are met where the others are
  pub shifted_to : (env : Assignment) → MeetsEach new (map env.times times) → AllByRecursion (MeetsBound (term_times env terms)) old
  shifted_to env = all_to_zip (λ (b : Bound). (node (map env.times times) b.left -ℤ node (map env.times times) b.right) ≤ℤ b.most) (MeetsBound (term_times env terms)) new old are.count (λ i x y low. (are.each i x y low).to env)

  pub shifted_from : (env : Assignment) → AllByRecursion (MeetsBound (term_times env terms)) old → MeetsEach new (map env.times times)
  shifted_from env = zip_to_all (λ (b : Bound). (node (map env.times times) b.left -ℤ node (map env.times times) b.right) ≤ℤ b.most) (MeetsBound (term_times env terms)) new old are.count (λ i x y low. (are.each i x y low).from env)

  pub shifted_between : All (λ (b : Bound). (b.left ≤ length times) × (b.right ≤ length times)) new
  shifted_between k d low = let s = are.each k d d low in (s.left, s.right)

  pub shifted_small : All (λ (b : Bound). nat_abs b.most ≤ bounds_reach old terms) new
  shifted_small k d low = by (nat_abs (get_or new k d).most) (nat_abs (get_or old k d).most) (offsets_reach terms) (greatest (map (λ (b : Bound). nat_abs b.most) old)) (are.each k d d low).small (bound_within old k d (let e = are.count in omega (arith, low, e)))
    where
      by : (a b c g : ℕ) → a ≤ b + c → b ≤ g → a ≤ g + c
      by a b c g h l = omega (arith, h, l)

  pub shifted_fit : bounds_reach old terms < 2 ^ 62 → All (λ (b : Bound). nat_abs b.most ≤ 2 ^ 62) new
  shifted_fit room k d low = by (nat_abs (get_or new k d).most) (bounds_reach old terms) (shifted_small k d low) room
    where
      by : (a b : ℕ) → a ≤ b → b < 2 ^ 62 → a ≤ 2 ^ 62
      by a b h r = omega (arith, h, r)

  pub shifted_no : HasNoBounded new (length times) → HasNoBounds times terms old
  shifted_no fails = record { none = λ env h. fails.none (map env.times times) (length-map times env.times) (shifted_from env h) }

  -- a pattern with the zone of the shifted bounds
  module _ (z : ZoneView) (is : IsZoneOfBounds new (length times) z) (places : List ℕ) (size : length places ≡ 8) (each : (i : ℕ) → i < 8 → get_or places i 0 ≡ i + 1) (few : length times ≤ 8) (pattern more : Pattern) (known : length pattern.texts ≡ 8)
      (w : IsWithZone pattern (record { zone = z; places = take (length times) places }) more) where
    abbrev part : PartView
    part = record { zone = z; places = take (length times) places }

    part_within : (k high : ℕ) → 0 < k → bounds_reach old terms + k ≤ high → part_reach k part ≤ high
    part_within k high low h = by (z.period == k) (reach_of z) (bounds_reach old terms) (is.reach (bounds_reach old terms) shifted_small) h
      where
        by : (b : Bool) (r m : ℕ) → r ≤ m → m + k ≤ high → (if b then r else r + (k - 1)) ≤ high
        by true r m l h = omega (arith, l, h)
        by false r m l h = omega (arith, l, h)

    pub with_shifted : IsWithBounds times terms old pattern more
    with_shifted = record {
      size = ap length w.texts ∙ known;
      to = λ env ns h. let g = zone_to pattern more part w (map env.times times) ns h in (g.0, shifted_to env (is.to (map env.times times) (subst (InZone z) (all_values places size each (length times) few (map env.times times) (length-map times env.times)) g.1)));
      from = λ env ns h m. zone_from pattern more part w (map env.times times) ns h (subst (InZone z) (sym (all_values places size each (length times) few (map env.times times) (length-map times env.times))) (is.from (map env.times times) (length-map times env.times) (shifted_from env m)));
      fits = λ k low room all. subst (λ ps. All (Fits (length times) k) ps) (sym w.zones) (All-append (Fits (length times) k) (parts_of pattern) (part ∷ []) all (all_one (Fits (length times) k) part (record {
        places = all_places places size each (length times) few;
        multiple = subst (λ p. Divides (pos p) (pos k)) (sym is.period) (one_divides (pos k));
        reach = λ n. by (reach_of z) (bounds_reach old terms) k (is.reach (bounds_reach old terms) shifted_small) room;
      })));
      reach = λ k high low h le. subst (λ ps. system_reach k ps ≤ high) (sym w.zones) (both (system_reach k (parts_of pattern ++ part ∷ [])) (part_reach k part) (system_reach k (parts_of pattern)) high (reach_more k (parts_of pattern) part) (part_within k high low h) le);
    }
      where
        by : (r m k : ℕ) → r ≤ m → m + k ≤ 2 ^ 62 → r + k ≤ 2 ^ 62
        by r m k l h = omega (arith, l, h)

        both : (a b c d : ℕ) → a ≤ max b c → b ≤ d → c ≤ d → a ≤ d
        both a b c d h k l = omega (arith, h, k, l)

-- ---- rows

module _ (domain : List Text) (times texts : List Identifier) (terms : List Term) (row : Row) (mid : Pattern) (v : IsWithValues domain times texts row.values terms mid) where
  pub row_of : (new : Pattern) → IsWithBounds times terms row.bounds mid new → IsOfRow domain times texts terms row new
  row_of new b = record {
    size = b.size;
    to = λ env ns a h. let g = b.to env ns h in record { values = v.to env ns a g.0; bounds = g.1 };
    from = λ env ns a h. b.from env ns (v.from env ns a h.values) h.bounds;
    fits = λ k low p room. b.fits k low room (v.fits k p (by (bounds_reach row.bounds terms) k (2 ^ 62) room));
    reach = λ k high low h. b.reach k high low h (v.reach k high (by (bounds_reach row.bounds terms) k high h));
  }
    where
      by : (m k high : ℕ) → m + k ≤ high → k ≤ high
      by m k high h = omega (arith, h)

  pub row_no : HasNoBounds times terms row.bounds → HasNoRow domain times texts terms row
  row_no fails = record { none = λ env ns a h. fails.none env h.bounds }

  pub row_found : (found : Option Pattern) → MatchOption found (HasNoBounds times terms row.bounds) (IsWithBounds times terms row.bounds mid) → MatchOption found (HasNoRow domain times texts terms row) (IsOfRow domain times texts terms row)
  row_found None h = row_no h
  row_found (Some new) h = row_of new h

pub row_never : (domain : List Text) (times texts : List Identifier) (terms : List Term) (row : Row) → AreNeverOf row.values terms → HasNoRow domain times texts terms row
row_never domain times texts terms row never = record { none = λ env ns a h. never.none env h.values }

pub row_none : (domain : List Text) (times texts : List Identifier) (terms : List Term) (row : Row) → HasNoValues domain times texts row.values terms → HasNoRow domain times texts terms row
row_none domain times texts terms row fails = record { none = λ env ns a h. fails.none env ns a h.values }

-- no bounds ask for nothing
pub no_bounds : (times : List Identifier) (terms : List Term) (bounds : List Bound) → length bounds ≡ 0 → (old : Pattern) → length old.texts ≡ 8 → IsWithBounds times terms bounds old old
no_bounds times terms [] e old known = record {
  size = known;
  to = λ env ns h. (h, tt);
  from = λ env ns h m. h;
  fits = λ k low room all. all;
  reach = λ k high low h le. le;
}
no_bounds times terms (b ∷ bounds) e old known = absurd (omega (arith, e))
