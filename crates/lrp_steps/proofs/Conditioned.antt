-- Patterns with one condition more.
use Rattle.std.proofs.Common.{◌≡◌, ◌≢◌, ℕ, zero, suc, ◌+◌, ◌-◌, ◌<◌, ◌≤◌, ◌⊎◌, inl, inr, List, [], ◌∷◌, ◌++◌, length, take, map, Option, None, Some, Result, Ok, Err, Bool, true, false, refl, sym, ap, subst, ◌∙◌, arith, get_or}
use Rattle.std.specs.Prelude.{ℤ, pos, nat_abs, MatchOption, IfOk, max, All, slice_get, ◌+ℤ◌, ◌-ℤ◌, ◌≤ℤ◌, ◌==◌, if◌then◌else◌}
use Rattle.std.proofs.lemmas.Int.{ints}
use Rattle.std.proofs.lemmas.List.{ext_get_or, get_or-take, length-take-le, length-map}
use Rattle.std.proofs.lemmas.List.Elements.{All-append}
use Rattle.lrp_theory.specs.Divides.{Divides}
use Rattle.lrp_theory.specs.Entries.{node}
use Rattle.lrp_model.specs.Texts.{Text, Identifier}
use Rattle.lrp_model.specs.Reach.{term_offset, test_reach}
use Rattle.lrp_model.specs.Satisfaction.{Assignment, Passes, time_value}
use Rattle.lrp_model.specs.declared.formulas.TimeTerm.{TimeTerm}
use Rattle.lrp_model.specs.declared.formulas.Test.{Test}
use Rattle.lrp_model.specs.declared.formulas.Test.TheVariants.{Compare, Member, Equal}
use Rattle.lrp_zone.specs.Zones.{ZoneView, IsZone, reach_of}
use Rattle.lrp_zone.specs.Spread.{target, ArePlaces}
use Rattle.lrp_store.specs.Tables.{AreTexts}
use Rattle.lrp_systems.specs.Parts.{PartView, InPart, Fits, part_reach, system_reach}
use Rattle.lrp_tables.specs.Calls.{test_period}
use Rattle.lrp_steps.specs.declared.pattern.Pattern.{Pattern}
use Rattle.lrp_steps.specs.declared.comparisons.ShiftedColumn.{ShiftedColumn}
use Rattle.lrp_steps.specs.Comparisons.{side_value}
use Rattle.lrp_steps.specs.Conditions.{IsWithZone, IsWithTest, HasNoTest, IsWithPair, IsWithText, HasNoText, brought, condition_reach}
use Rattle.lrp_steps.specs.Patterns.{parts_of, MatchesPattern, AreKnown, AreEqual}
use Rattle.lrp_steps.proofs.Compared.{one_divides}
use Rattle.lrp_model.specs.Texts.{Ascends}
use Rattle.lrp_model.specs.Satisfaction.{text_value}
use Rattle.lrp_model.specs.declared.relations.RowPoint.{RowPoint}
use Rattle.lrp_model.specs.declared.formulas.TimeTerm.TheVariants.{Var as time_var}
use Rattle.lrp_model.specs.declared.formulas.DataTerm.{DataTerm}
use Rattle.lrp_model.specs.declared.formulas.DataTerm.TheVariants.{Var as data_var}
use Rattle.lrp_theory.proofs.Modulo.{Divides-is, Divides-zero, small_multiple}
use Rattle.lrp_zone.specs.Zones.{IsResidue}
use Rattle.lrp_zone.specs.Given.{bound_at, IsStoredFor, IsGivenZone, HasNone, MeetsGiven}
use Rattle.lrp_zone.proofs.Reaches.{small_reach}
use Rattle.lrp_theory.specs.Entries.{entry, AtMost}
use Rattle.lrp_tables.specs.Columns.{IsPlace}
use Rattle.lrp_tables.proofs.Joining.{node_there, same_place}
use Rattle.lrp_tables.proofs.Numbers.{domain_differs}
use Rattle.lrp_steps.specs.declared.pair.TextPair.{TextPair}
use Rattle.lrp_steps.specs.Patterns.{part_of, IsKnownToo, IsNotKnown}
use Rattle.lrp_steps.proofs.Steps.{zip_get, mapped_get, abs_is}
use Rattle.lrp_steps.proofs.Found.{all_left, all_last, all_one, reach_more}

module _ (old new : Pattern) (part : PartView) (w : IsWithZone old part new) where
  -- the pattern and the zone
  pub zone_to : (xs : List ℤ) (ns : List ℕ) → MatchesPattern new xs ns → MatchesPattern old xs ns × InPart part xs
  zone_to xs ns h =
      let all = subst (λ ps. All (λ p. InPart p xs) ps) w.zones h.zones in (
        record { zones = all_left (λ p. InPart p xs) (parts_of old) (part ∷ []) all; known = subst (λ k. AreKnown k ns) w.texts h.known; equal = subst (λ ps. AreEqual ps ns) w.equal h.equal },
        all_last (λ p. InPart p xs) (parts_of old) part all,
      )

  pub zone_from : (xs : List ℤ) (ns : List ℕ) → MatchesPattern old xs ns → InPart part xs → MatchesPattern new xs ns
  zone_from xs ns h i = record {
    zones = subst (λ ps. All (λ p. InPart p xs) ps) (sym w.zones) (All-append (λ p. InPart p xs) (parts_of old) (part ∷ []) h.zones (all_one (λ p. InPart p xs) part i));
    known = subst (λ k. AreKnown k ns) (sym w.texts) h.known;
    equal = subst (λ ps. AreEqual ps ns) (sym w.equal) h.equal;
  }

  module _ (domain : List Text) (times texts : List Identifier) (test : Test) (period : part.zone.period ≡ nat_abs (test_period test)) (low : pos 1 ≤ℤ test_period test) (reach : reach_of part.zone ≤ condition_reach test) (places : ArePlaces part.places (length times))
      (to : (env : Assignment) → InPart part (map env.times times) → Passes env test) (from : (env : Assignment) → Passes env test → InPart part (map env.times times)) (size : length old.texts ≡ 8) where
    -- a test that is the zone
    pub zone_test : IsWithTest domain times texts test old new
    zone_test = record {
      size = ap length w.texts ∙ size;
      to = λ env ns a h. let g = zone_to (map env.times times) ns h in (g.0, to env g.1);
      from = λ env ns a h p. zone_from (map env.times times) ns h (from env p);
      fits = λ k d room all. subst (λ ps. All (Fits (length times) k) ps) (sym w.zones) (All-append (Fits (length times) k) (parts_of old) (part ∷ []) all (all_one (Fits (length times) k) part (record {
        places = places;
        multiple = subst (λ z. Divides z (pos k)) (sym (ap pos period ∙ abs_same)) d;
        reach = λ n. elim room [ inl e ↦ absurd (n (period ∙ e)) | inr l ↦ omega arith ];
      })));
      reach = λ k high b le. subst (λ ps. system_reach k ps ≤ high) (sym w.zones) (let m : system_reach k (parts_of old ++ part ∷ []) ≤ max (part_reach k part) (system_reach k (parts_of old)) = reach_more k (parts_of old) part in let p = own k high b in omega (arith, m, p, le));
    }
      where
        abs_same : pos (nat_abs (test_period test)) ≡ test_period test
        abs_same = omega (arith, ints)

        own : (k high : ℕ) → brought k (nat_abs (test_period test)) (condition_reach test) ≤ high → part_reach k part ≤ high
        own k high b = subst (λ p. (if p == k then reach_of part.zone else reach_of part.zone + (k - 1)) ≤ high) (sym period) (by (nat_abs (test_period test) == k) b)
          where
            by : (t : Bool) → (if t then condition_reach test else condition_reach test + (k - 1)) ≤ high → (if t then reach_of part.zone else reach_of part.zone + (k - 1)) ≤ high
            by true h = omega arith
            by false h = omega arith

-- all places in order
module _ (places : List ℕ) (size : length places ≡ 8) (each : (i : ℕ) → i < 8 → get_or places i 0 ≡ i + 1) (n : ℕ) (few : n ≤ 8) where
  front : length (take n places) ≡ n
  front = length-take-le n places (omega arith)

  place_at : (i : ℕ) → i < n → get_or (take n places) i 0 ≡ i + 1
  place_at i h = get_or-take n places i 0 h ∙ each i (omega arith)

  pub all_places : ArePlaces (take n places) n
  all_places = record {
    low = λ p h. let e = place_at p (omega (arith, front)) in at_low p e;
    high = λ p h. at_high p (omega (arith, front));
    differ = λ p q h k e. differ p q (omega (arith, front)) (omega (arith, front)) e;
  }
    where
      at_low : (p : ℕ) → get_or (take n places) p 0 ≡ p + 1 → 0 < target (take n places) (p + 1)
      at_low p e = subst (λ i. 0 < target (take n places) i) (let l : suc p ≡ p + 1 = omega arith in l) (omega (arith, e))

      at_high : (p : ℕ) → p ≤ n → target (take n places) p ≤ n
      at_high zero h = omega arith
      at_high (suc p) h = let e = place_at p (omega arith) in omega (arith, e)

      differ : (p q : ℕ) → p ≤ n → q ≤ n → target (take n places) p ≡ target (take n places) q → p ≡ q
      differ zero zero h k e = refl
      differ zero (suc q) h k e = let f = place_at q (omega arith) in absurd (omega (arith, e, f))
      differ (suc p) zero h k e = let f = place_at p (omega arith) in absurd (omega (arith, e, f))
      differ (suc p) (suc q) h k e = let f = place_at p (omega arith) in let g = place_at q (omega arith) in omega (arith, e, f, g)

  pub all_values : (xs : List ℤ) → length xs ≡ n → map (node xs) (take n places) ≡ xs
  all_values xs e = ext_get_or (pos 0) (map (node xs) (take n places)) xs (length-map (take n places) (node xs) ∙ front ∙ sym e) (λ i h.
      let l : i < n = (let m = length-map (take n places) (node xs) in let f = front in omega arith) in
      mapped_node xs (take n places) i (let f = front in omega arith) ∙ ap (node xs) (place_at i l) ∙ ap (node xs) (let s : i + 1 ≡ suc i = omega arith in s))
    where
      mapped_node : (xs : List ℤ) (ps : List ℕ) (i : ℕ) → i < length ps → get_or (map (node xs) ps) i (pos 0) ≡ node xs (get_or ps i 0)
      mapped_node xs [] i h = absurd (omega arith)
      mapped_node xs (p ∷ ps) zero h = refl
      mapped_node xs (p ∷ ps) (suc i) h = mapped_node xs ps i (omega arith)

-- the same numbers as they are passed
pub shift_words : (r k j o u p q : ℤ) → j ≡ k → u ≡ o → q ≡ p → ((x : ℤ) → Divides j (x -ℤ r) → Divides j ((x +ℤ q) -ℤ u)) → (x : ℤ) → Divides k (x -ℤ r) → Divides k ((x +ℤ p) -ℤ o)
shift_words r k j o u p q ek eo ep f x d = subst (λ y. Divides k ((x +ℤ p) -ℤ y)) eo (subst (λ y. Divides k ((x +ℤ y) -ℤ u)) ep (subst (λ y. Divides y ((x +ℤ q) -ℤ u)) ek (f x (subst (λ y. Divides y (x -ℤ r)) (sym ek) d))))

pub shift_back : (r k j o u p q : ℤ) → j ≡ k → u ≡ o → q ≡ p → ((x : ℤ) → Divides j ((x +ℤ q) -ℤ u) → Divides j (x -ℤ r)) → (x : ℤ) → Divides k ((x +ℤ p) -ℤ o) → Divides k (x -ℤ r)
shift_back r k j o u p q ek eo ep f x d = subst (λ y. Divides y (x -ℤ r)) ek (f x (subst (λ y. Divides y ((x +ℤ q) -ℤ u)) (sym ek) (subst (λ y. Divides k ((x +ℤ y) -ℤ u)) (sym ep) (subst (λ y. Divides k ((x +ℤ p) -ℤ y)) (sym eo) d))))

pub of_words : (j k q r : ℤ) (z : ZoneView) → j ≡ k → q ≡ r → IsGivenZone j (q ∷ []) [] z → IsGivenZone k (r ∷ []) [] z
of_words j k q r z ek er h = subst (λ y. IsGivenZone y (r ∷ []) [] z) ek (subst (λ y. IsGivenZone j (y ∷ []) [] z) er h)

pub none_words : (j k q r : ℤ) → j ≡ k → q ≡ r → HasNone j (q ∷ []) [] → HasNone k (r ∷ []) []
none_words j k q r ek er h = subst (λ y. HasNone y (r ∷ []) []) ek (subst (λ y. HasNone j (y ∷ []) []) er h)

-- a pair more
pub pair_made : (old new : Pattern) (left right : ℕ) (pair : TextPair) (middle : List TextPair) → new.zones ≡ old.zones → new.texts ≡ old.texts → new.equal ≡ middle ++ pair ∷ [] → middle ≡ old.equal → pair.left ≡ left - 1 → pair.right ≡ right - 1 → IsWithPair old left right new
pair_made old new left right pair middle ez ex ee em el er = record { zones = ez; texts = ex; pair = pair; left_is = el; right_is = er; equal = ee ∙ ap (λ l. l ++ pair ∷ []) em }

-- what an answer says, in other words
pub ok_map : {X E : Type 0} (r : Result X E) (P Q : X → Type 0) → ((x : X) → P x → Q x) → IfOk r P → IfOk r Q
ok_map (Ok x) P Q f h = f x h
ok_map (Err e) P Q f h = tt

-- what is said by a match on an option, where it has a value and where it has none
pub matched_some : {X : Type 0} (P : Type 0) (Q : X → Type 0) (o : Option X) (x : X) → o ≡ Some x → MatchOption o P Q → Q x
matched_some P Q o x e h = subst (λ u. MatchOption u P Q) e h

pub matched_none : {X : Type 0} (P : Type 0) (Q : X → Type 0) (o : Option X) → o ≡ None → MatchOption o P Q → P
matched_none P Q o e h = subst (λ u. MatchOption u P Q) e h

pub var_value : (env : Assignment) (names : List Identifier) (term : TimeTerm) (name : Identifier) (plus q : ℤ) (column : ℕ) → term ≡ time_var name plus → IsPlace names column name → q ≡ term_offset term → side_value (record { column = column; plus = q }) (map env.times names) ≡ time_value env term
var_value env names term name plus q column is p e = ap (λ x. x +ℤ q) (node_there env.times names column name p) ∙ ap (λ z. env.times name +ℤ z) (e ∙ ap term_offset is) ∙ sym (ap (time_value env) is)

-- ---- tests that ask nothing of times

module _ (domain : List Text) (times texts : List Identifier) (test : Test) (old new : Pattern) (size : length new.texts ≡ 8) (same : new.zones ≡ old.zones)
    (to : (env : Assignment) (ns : List ℕ) → AreTexts domain ns (map env.texts texts) → MatchesPattern new (map env.times times) ns → AreKnown old.texts ns × AreEqual old.equal ns × Passes env test)
    (from : (env : Assignment) (ns : List ℕ) → AreTexts domain ns (map env.texts texts) → MatchesPattern old (map env.times times) ns → Passes env test → AreKnown new.texts ns × AreEqual new.equal ns) where
  pub text_test : IsWithTest domain times texts test old new
  text_test = record {
    size = size;
    to = λ env ns a h. let g = to env ns a h in (record { zones = subst (λ zs. All (λ p. InPart p (map env.times times)) (map part_of zs)) same h.zones; known = g.0; equal = g.1 }, g.2);
    from = λ env ns a h p. let g = from env ns a h p in record { zones = subst (λ zs. All (λ p. InPart p (map env.times times)) (map part_of zs)) (sym same) h.zones; known = g.0; equal = g.1 };
    fits = λ k d room all. subst (λ zs. All (Fits (length times) k) (map part_of zs)) (sym same) all;
    reach = λ k high b le. subst (λ zs. system_reach k (map part_of zs) ≤ high) (sym same) le;
  }

-- a test that every assignment passes
pub same_test : (domain : List Text) (times texts : List Identifier) (test : Test) (old : Pattern) → length old.texts ≡ 8 → ((env : Assignment) → Passes env test) → (new : Pattern) → new ≡ old → IsWithTest domain times texts test old new
same_test domain times texts test old known passes new same = text_test domain times texts test old new (ap (λ (p : Pattern). length p.texts) same ∙ known) (ap (λ (p : Pattern). p.zones) same)
    (λ env ns a h. let g = subst (λ (p : Pattern). MatchesPattern p (map env.times times) ns) same h in (g.known, g.equal, passes env))
    (λ env ns a h p. let g = subst (λ (q : Pattern). MatchesPattern q (map env.times times) ns) (sym same) h in (g.known, g.equal))

-- ---- a time in a point

-- each time is in a point of period 1
pub any_test : (domain : List Text) (times texts : List Identifier) (term : TimeTerm) (point : RowPoint) → point.period ≡ pos 1 → (old : Pattern) → length old.texts ≡ 8 → IsWithTest domain times texts (Member term point) old old
any_test domain times texts term point e old known = same_test domain times texts (Member term point) old known (λ env. subst (λ k. Divides k (time_value env term -ℤ point.offset)) (sym e) (one_divides (time_value env term -ℤ point.offset))) old refl

module _ (domain : List Text) (times texts : List Identifier) (term : TimeTerm) (point : RowPoint) (s : ShiftedColumn) (sv : (env : Assignment) → side_value s (map env.times times) ≡ time_value env term) (high : s.column ≤ length times) (low : pos 1 ≤ℤ point.period) (r : ℤ) (is : IsResidue (nat_abs point.period) r)
    (to : (x : ℤ) → Divides point.period (x -ℤ r) → Divides point.period ((x +ℤ s.plus) -ℤ point.offset)) (from : (x : ℤ) → Divides point.period ((x +ℤ s.plus) -ℤ point.offset) → Divides point.period (x -ℤ r)) (old : Pattern) (known : length old.texts ≡ 8) where
  member_to : (env : Assignment) → Divides point.period (node (map env.times times) s.column -ℤ r) → Divides point.period (time_value env term -ℤ point.offset)
  member_to env d = subst (λ x. Divides point.period (x -ℤ point.offset)) (sv env) (to (node (map env.times times) s.column) d)

  member_from : (env : Assignment) → Divides point.period (time_value env term -ℤ point.offset) → Divides point.period (node (map env.times times) s.column -ℤ r)
  member_from env d = from (node (map env.times times) s.column) (subst (λ x. Divides point.period (x -ℤ point.offset)) (sym (sv env)) d)

  -- of a variable
  module _ (z : ZoneView) (valid : IsZone z) (of : IsGivenZone point.period (r ∷ []) [] z) (positive : 0 < s.column) where
    met : (x : ℤ) → Divides point.period (x -ℤ r) → MeetsGiven point.period (r ∷ []) [] (x ∷ [])
    met x d = record { count = refl; residues = record { each = each }; meets = λ i h. absurd (omega arith) }
      where
        each : (p : ℕ) → p ≤ 1 → Divides point.period (node (x ∷ []) p -ℤ node (r ∷ []) p)
        each zero h = Divides-is point.period (pos 0) _ (omega (arith, ints)) (Divides-zero point.period)
        each (suc zero) h = d
        each (suc (suc p)) h = absurd (omega arith)

    near : reach_of z ≤ 0
    near = small_reach z 0 valid.shape.columns valid.size valid.shape.outside (record { each = λ p q pl ql. at_none p q (of.stored.one p q (let c = valid.shape.columns in omega (arith, c, pl)) (let c = valid.shape.columns in omega (arith, c, ql))) })
      where
        at_none : (p q : ℕ) → (entry z.bounds p q ≡ None) ⊎ ((i : ℕ) × (i < 0) × ((bound_at [] i).left ≡ p) × ((bound_at [] i).right ≡ q) × IsStoredFor point.period (r ∷ []) (bound_at [] i) (entry z.bounds p q)) → AtMost 0 (entry z.bounds p q)
        at_none p q (inl e) = subst (AtMost 0) (sym e) tt
        at_none p q (inr h) = let low : h.0 < 0 = h.1 in absurd (omega (arith, low))

    one_place : ArePlaces (s.column ∷ []) (length times)
    one_place = record { low = λ p h. low_at p h; high = λ p h. high_at p h; differ = λ p q h k e. differ p q h k e }
      where
        low_at : (p : ℕ) → p < 1 → 0 < target (s.column ∷ []) (p + 1)
        low_at zero h = positive
        low_at (suc p) h = absurd (omega arith)

        high_at : (p : ℕ) → p ≤ 1 → target (s.column ∷ []) p ≤ length times
        high_at zero h = omega arith
        high_at (suc zero) h = high
        high_at (suc (suc p)) h = absurd (omega arith)

        differ : (p q : ℕ) → p ≤ 1 → q ≤ 1 → target (s.column ∷ []) p ≡ target (s.column ∷ []) q → p ≡ q
        differ zero zero h k e = refl
        differ zero (suc zero) h k e = absurd (omega (arith, e, positive))
        differ (suc zero) zero h k e = absurd (omega (arith, e, positive))
        differ (suc zero) (suc zero) h k e = refl
        differ (suc (suc p)) q h k e = absurd (omega arith)
        differ p (suc (suc q)) h k e = absurd (omega arith)

    pub member_test : (new : Pattern) → IsWithZone old (record { zone = z; places = s.column ∷ [] }) new → IsWithTest domain times texts (Member term point) old new
    member_test new w = zone_test old new (record { zone = z; places = s.column ∷ [] }) w domain times texts (Member term point) (let e = of.period in omega (arith, ints, e, low)) low near one_place
        (λ env h. member_to env ((of.to (node (map env.times times) s.column ∷ []) h).residues.each 1 (omega arith)))
        (λ env h. of.from (node (map env.times times) s.column ∷ []) (met (node (map env.times times) s.column) (member_from env h))) known

  pub member_no : HasNone point.period (r ∷ []) [] → HasNoTest domain times texts (Member term point) old
  member_no none = record { none = λ env ns a h p. none.none (node (map env.times times) s.column ∷ []) (record { count = refl; residues = record { each = each (node (map env.times times) s.column) (member_from env p) }; meets = λ i l. absurd (omega arith) }) }
    where
      each : (x : ℤ) → Divides point.period (x -ℤ r) → (p : ℕ) → p ≤ 1 → Divides point.period (node (x ∷ []) p -ℤ node (r ∷ []) p)
      each x d zero h = Divides-is point.period (pos 0) _ (omega (arith, ints)) (Divides-zero point.period)
      each x d (suc zero) h = d
      each x d (suc (suc p)) h = absurd (omega arith)

  -- of a number
  module _ (number : s.column ≡ 0) where
    zero_is : (env : Assignment) → node (map env.times times) s.column ≡ pos 0
    zero_is env = ap (node (map env.times times)) number

    pub number_test : r ≡ pos 0 → (new : Pattern) → new ≡ old → IsWithTest domain times texts (Member term point) old new
    number_test e new same = same_test domain times texts (Member term point) old known (λ env. member_to env (Divides-is point.period (pos 0) _ (let f = zero_is env in omega (arith, ints, f, e)) (Divides-zero point.period))) new same

    pub number_no : r ≢ pos 0 → HasNoTest domain times texts (Member term point) old
    number_no n = record {
      none = λ env ns a h p.
          let d : Divides point.period (node (map env.times times) s.column -ℤ r) = member_from env p in
          let f = zero_is env in
          let e : node (map env.times times) s.column -ℤ r ≡ pos 0 = small_multiple (nat_abs point.period) _ (subst (λ k. Divides k (node (map env.times times) s.column -ℤ r)) (sym (abs_is point.period low)) d) (let l = is.low in let g = is.high in omega (arith, ints, f, l, g)) (let l = is.low in let g = is.high in omega (arith, ints, f, l, g)) in
          n (omega (arith, ints, e, f));
    }

-- ---- equal texts

module _ (domain : List Text) (ascends : Ascends domain) (times texts : List Identifier) (old : Pattern) (known : length old.texts ≡ 8) where
  -- the number in a column is that of the variable's text
  number_of_column : (env : Assignment) (ns : List ℕ) → AreTexts domain ns (map env.texts texts) → (column : ℕ) (name : Identifier) → IsPlace texts column name → slice_get domain (get_or ns (column - 1) 0) ≡ Some (env.texts name)
  number_of_column env ns a column name p = zip_get (λ n t. slice_get domain n ≡ Some t) ns (map env.texts texts) (column - 1) (env.texts name) a (mapped_get env.texts texts (column - 1) name p.1)

  some_is : {X : Type 0} {x y : X} → Some x ≡ Some y → x ≡ y
  some_is h = cc

  -- two variables
  module _ (v w : Identifier) (i j : ℕ) (pv : IsPlace texts i v) (pw : IsPlace texts j w) (left right : DataTerm) (el : left ≡ data_var v) (er : right ≡ data_var w) where
    pub pair_test : (pair : TextPair) → pair.left ≡ i - 1 → pair.right ≡ j - 1 → (new : Pattern) → new.zones ≡ old.zones → new.texts ≡ old.texts → new.equal ≡ old.equal ++ pair ∷ [] → IsWithTest domain times texts (Equal left right) old new
    pair_test pair pl pr new ez ex ee = text_test domain times texts (Equal left right) old new (ap length ex ∙ known) ez
        (λ env ns a h.
        let all = subst (λ ps. AreEqual ps ns) ee h.equal in
        let e : get_or ns pair.left 0 ≡ get_or ns pair.right 0 = all_last (λ p. get_or ns p.left 0 ≡ get_or ns p.right 0) old.equal pair all in
        let f : get_or ns (i - 1) 0 ≡ get_or ns (j - 1) 0 = ap (λ k. get_or ns k 0) (sym pl) ∙ e ∙ ap (λ k. get_or ns k 0) pr in (
          subst (λ k. AreKnown k ns) ex h.known,
          all_left (λ p. get_or ns p.left 0 ≡ get_or ns p.right 0) old.equal (pair ∷ []) all,
          ap (text_value env) el ∙ some_is (sym (number_of_column env ns a i v pv) ∙ ap (slice_get domain) f ∙ number_of_column env ns a j w pw) ∙ sym (ap (text_value env) er),
        ))
        (λ env ns a h p.
        let t : env.texts v ≡ env.texts w = sym (ap (text_value env) el) ∙ p ∙ ap (text_value env) er in
        let f : get_or ns (i - 1) 0 ≡ get_or ns (j - 1) 0 = same_place domain (domain_differs domain ascends) (get_or ns (i - 1) 0) (get_or ns (j - 1) 0) (env.texts w) (number_of_column env ns a i v pv ∙ ap Some t) (number_of_column env ns a j w pw) in (
          subst (λ k. AreKnown k ns) (sym ex) h.known,
          subst (λ ps. AreEqual ps ns) (sym ee) (All-append (λ p. get_or ns p.left 0 ≡ get_or ns p.right 0) old.equal (pair ∷ []) h.equal (all_one (λ p. get_or ns p.left 0 ≡ get_or ns p.right 0) pair (ap (λ k. get_or ns k 0) pl ∙ f ∙ sym (ap (λ k. get_or ns k 0) pr)))),
        ))

  -- a variable and a text
  module _ (v : Identifier) (i : ℕ) (pv : IsPlace texts i v) (t : Text) (test : Test) (to : (env : Assignment) → Passes env test → env.texts v ≡ t) (from : (env : Assignment) → env.texts v ≡ t → Passes env test) where
    pub text_known : (number : ℕ) → slice_get domain number ≡ Some t → (new : Pattern) → new.zones ≡ old.zones → IsKnownToo old.texts (i - 1) number new.texts → new.equal ≡ old.equal → IsWithTest domain times texts test old new
    text_known number e new ez k ee = text_test domain times texts test old new k.size ez
        (λ env ns a h.
        let g = k.to ns h.known in (
          g.0,
          subst (λ ps. AreEqual ps ns) ee h.equal,
          from env (some_is (sym (number_of_column env ns a i v pv) ∙ ap (slice_get domain) g.1 ∙ e)),
        ))
        (λ env ns a h p. (
          k.from ns h.known (same_place domain (domain_differs domain ascends) (get_or ns (i - 1) 0) number t (number_of_column env ns a i v pv ∙ ap Some (to env p)) e),
          subst (λ ps. AreEqual ps ns) (sym ee) h.equal,
        ))

    pub text_no : ((number : ℕ) → slice_get domain number ≡ Some t → IsNotKnown old.texts (i - 1) number) → HasNoTest domain times texts test old
    text_no none = record {
      none = λ env ns a h p.
          let e = number_of_column env ns a i v pv ∙ ap Some (to env p) in
          (none (get_or ns (i - 1) 0) e).none ns h.known refl;
    }

    pub text_found : (found : Option Pattern) → MatchOption found (HasNoText domain old i t) (IsWithText domain old i t) → MatchOption found (HasNoTest domain times texts test old) (IsWithTest domain times texts test old)
    text_found None h = text_no h.none
    text_found (Some new) h = text_known h.number h.is new h.zones h.known h.equal

-- the number of a text is one
pub one_number : (domain : List Text) → Ascends domain → (known : List (Option ℕ)) (column n : ℕ) (t : Text) → slice_get domain n ≡ Some t → IsNotKnown known column n → (number : ℕ) → slice_get domain number ≡ Some t → IsNotKnown known column number
one_number domain ascends known column n t e none number f = subst (λ k. IsNotKnown known column k) (same_place domain (domain_differs domain ascends) n number t e f) none

-- the zone of a test reaches no farther than the test as a step of its own
pub condition_within : (test : Test) → condition_reach test ≤ test_reach test
condition_within (Compare left op right) = omega arith
condition_within (Member term point) = omega arith
condition_within (Equal left right) = omega arith
