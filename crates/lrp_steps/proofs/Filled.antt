-- The texts of a tuple, chosen column by column.
use Rattle.std.proofs.Common.{◌≡◌, ◌≢◌, ℕ, ◌+◌, ◌<◌, ◌≤◌, ◌⊎◌, inl, inr, List, length, take, Option, None, sym, ap, subst, ◌∙◌, arith, get_or, set, get_or-set_other, get_or-set_same, below_more}
use Rattle.std.specs.Prelude.{ℤ, All, slice_index_or}
use Rattle.std.proofs.lemmas.Bool.{cases_lt}
use Rattle.std.proofs.lemmas.List.{ext_get_or, get_or-take, get_or_past, get_or_default, length-take-le, length-set}
use Rattle.lrp_model.specs.declared.tuples.Shape.{Shape}
use Rattle.lrp_store.specs.Stores.{StoreView, IsPadded, AreChosenTexts}
use Rattle.lrp_store.specs.Growing.{IsAdded, IsRefused}
use Rattle.lrp_store.proofs.Grown.{Set}
use Rattle.lrp_systems.specs.Parts.{PartView, InPart, system_reach}
use Rattle.lrp_systems.specs.Systems.{IsSolution}
use Rattle.lrp_steps.specs.declared.filling.Choices.{Choices}
use Rattle.lrp_steps.specs.declared.pattern.Pattern.{Pattern}
use Rattle.lrp_steps.specs.Patterns.{parts_of, IsKnown, AreKnown, AreEqual, MatchesPattern, IsOver}
use Rattle.lrp_steps.specs.Fillings.{AreChoices, IsFilled, IsSoleText}
use Rattle.lrp_tables.proofs.Gathering.{IsGathering, gathering_more, gathering_refused}

-- the first values of a padded array are all its values
pub front_all : (n : ℕ) (values : List ℕ) → n ≤ 8 → IsPadded 0 n values → (i : ℕ) → get_or (take n values) i 0 ≡ get_or values i 0
front_all n values le p i = elim (cases_lt i n) [
  | inl less ↦ get_or-take n values i 0 less
  | inr more ↦ get_or_past (take n values) i 0 (let l : length (take n values) ≡ n = length-take-le n values (let e : length values ≡ 8 = p.size in omega arith) in omega arith) ∙ sym (p.zeros i more)
]

-- numbers with these values are the known ones where these are
pub known_same : (known : List (Option ℕ)) (xs ys : List ℕ) → ((i : ℕ) → get_or xs i 0 ≡ get_or ys i 0) → AreKnown known xs → AreKnown known ys
known_same known xs ys e h = record { each = λ i. subst (λ n. IsKnown (slice_index_or known i None) n) (e i) (h.each i) }

module _ (shape : Shape) (size : ℕ) (pattern : Pattern) (few : shape.texts ≤ 8) where
  -- nothing is chosen yet
  pub filled_none : (chosen : List ℕ) (xs : List ℤ) (ns : List ℕ) → IsOver shape size (MatchesPattern pattern) xs ns → IsFilled shape size pattern 0 chosen xs ns
  filled_none chosen xs ns h = record { over = h; same = λ i l. absurd (omega arith) }

  module _ (column : ℕ) (chosen : List ℕ) (is : AreChosenTexts size column chosen) where
    -- all texts are chosen
    module _ (all : column ≡ shape.texts) where
      length_front : length (take shape.texts chosen) ≡ shape.texts
      length_front = length-take-le shape.texts chosen (let e : length chosen ≡ 8 = is.padded.size in omega arith)

      padded_all : IsPadded 0 shape.texts chosen
      padded_all = subst (λ n. IsPadded 0 n chosen) all is.padded

      named : (ns : List ℕ) → length ns ≡ shape.texts → ((i : ℕ) → i < column → get_or ns i 0 ≡ get_or chosen i 0) → take shape.texts chosen ≡ ns
      named ns count same = ext_get_or 0 (take shape.texts chosen) ns (length_front ∙ sym count) (λ i h. get_or-take shape.texts chosen i 0 (let l = length_front in omega arith) ∙ sym (same i (let l = length_front in omega arith)))

      values : (ns : List ℕ) → take shape.texts chosen ≡ ns → (i : ℕ) → get_or ns i 0 ≡ get_or chosen i 0
      values ns e i = ap (λ l. get_or l i 0) (sym e) ∙ front_all shape.texts chosen few padded_all i

      -- the tuple is known and equal where the chosen texts are
      pub last_known : (xs : List ℤ) (ns : List ℕ) → IsFilled shape size pattern column chosen xs ns → AreKnown pattern.texts chosen
      last_known xs ns h = known_same pattern.texts ns chosen (values ns (named ns h.over.texts_count h.same)) h.over.is.known

      pub last_equal : (xs : List ℤ) (ns : List ℕ) → IsFilled shape size pattern column chosen xs ns → AreEqual pattern.equal chosen
      last_equal xs ns h = λ k d l. let e = values ns (named ns h.over.texts_count h.same) in sym (e (get_or pattern.equal k d).left) ∙ h.over.is.equal k d l ∙ e (get_or pattern.equal k d).right

      module _ (parts : List PartView) (are : parts ≡ parts_of pattern) where
        pub last_to : AreKnown pattern.texts chosen → AreEqual pattern.equal chosen → (xs : List ℤ) (ns : List ℕ) → IsSolution parts shape.times (take shape.texts chosen) xs ns → IsFilled shape size pattern column chosen xs ns
        last_to known equal xs ns h = record {
          over = record {
            times_count = h.count;
            texts_count = ap length (sym h.same) ∙ length_front;
            known = λ k d l.
                let lf = length_front in
                let en : length (take shape.texts chosen) ≡ length ns = ap length h.same in
                let lk : k < column = omega arith in
                let low : get_or chosen k 0 < size = is.low k lk in
                subst (λ n. n < size) (sym (default k d 0 ns l ∙ values ns h.same k)) low;
            is = record {
              zones = subst (λ ps. All (λ part. InPart part xs) ps) are h.inside;
              known = known_same pattern.texts chosen ns (λ i. sym (values ns h.same i)) known;
              equal = λ k d l. let e = values ns h.same in e (get_or pattern.equal k d).left ∙ equal k d l ∙ sym (e (get_or pattern.equal k d).right);
            };
          };
          same = λ i l. values ns h.same i;
        }
          where
            default : (k d e : ℕ) (ns : List ℕ) → k < length ns → get_or ns k d ≡ get_or ns k e
            default k d e ns l = get_or_default ns k d e l

        pub last_from : (xs : List ℤ) (ns : List ℕ) → IsFilled shape size pattern column chosen xs ns → IsSolution parts shape.times (take shape.texts chosen) xs ns
        last_from xs ns h = record { count = h.over.times_count; inside = subst (λ ps. All (λ part. InPart part xs) ps) (sym are) h.over.is.zones; same = named ns h.over.texts_count h.same }

    -- one text more is chosen
    module _ (low : column < shape.texts) (number : ℕ) where
      pub chosen_more : number < size → AreChosenTexts size (column + 1) (set chosen column number)
      chosen_more below = record {
        padded = record {
          size = length-set chosen column number ∙ is.padded.size;
          zeros = λ i h. let ne : i ≢ column = omega arith in get_or-set_other chosen column i number 0 ne ∙ is.padded.zeros i (omega arith);
        };
        low = below_more _ column (λ i h. let ne : i ≢ column = omega arith in subst (λ n. n < size) (sym (get_or-set_other chosen column i number 0 ne)) (is.low i h)) (subst (λ n. n < size) (sym here) below);
      }
        where
          here : get_or (set chosen column number) column 0 ≡ number
          here = get_or-set_same chosen column number 0 (let e : length chosen ≡ 8 = is.padded.size in omega arith)

      pub part_to : (xs : List ℤ) (ns : List ℕ) → IsFilled shape size pattern (column + 1) (set chosen column number) xs ns → IsFilled shape size pattern column chosen xs ns
      part_to xs ns h = record { over = h.over; same = λ i l. let ne : i ≢ column = omega arith in h.same i (omega arith) ∙ get_or-set_other chosen column i number 0 ne }

      pub part_from : (xs : List ℤ) (ns : List ℕ) → IsFilled shape size pattern column chosen xs ns → number ≤ get_or ns column 0 → IsFilled shape size pattern (column + 1) (set chosen column number) xs ns ⊎ (number + 1 ≤ get_or ns column 0)
      part_from xs ns h le = elim (cases_lt number (get_or ns column 0)) [
        | inl less ↦ inr (omega arith)
        | inr more ↦ inl (record {
          over = h.over;
          same = below_more _ column (λ i l. let ne : i ≢ column = omega arith in h.same i l ∙ sym (get_or-set_other chosen column i number 0 ne))
              (let e : get_or ns column 0 ≡ number = omega arith in e ∙ sym (get_or-set_same chosen column number 0 (let e : length chosen ≡ 8 = is.padded.size in omega arith)));
        })
      ]

    -- the choices of a column miss no tuple
    pub choice_of : column < shape.texts → (sole : Option ℕ) → IsSoleText pattern column chosen sole → (c : Choices) → AreChoices sole size c → (xs : List ℤ) (ns : List ℕ) → IsFilled shape size pattern column chosen xs ns → (c.from ≤ get_or ns column 0) × (get_or ns column 0 < c.to)
    choice_of low sole is_sole c are xs ns h =
        are.from (get_or ns column 0) (h.over.known column 0 (let e : length ns ≡ shape.texts = h.over.texts_count in omega arith)) (is_sole.each ns h.over.is.known h.over.is.equal h.same)

-- the tuples of one number of a column are added after those of lesser ones
module _ (size : ℕ) (pattern : Pattern) (start out new : StoreView) (few : start.shape.texts ≤ 8) (column : ℕ) (chosen : List ℕ) (is : AreChosenTexts size column chosen) (low : column < start.shape.texts) (number cap : ℕ) (parts : List PartView) (next : List ℕ) (en : next ≡ set chosen column number)
    (g : IsGathering (IsFilled start.shape size pattern column chosen) (λ xs ns. number ≤ get_or ns column 0) cap (system_reach start.period parts) start out) where
  -- the tuples of this number
  abbrev pub OfNumber : Set
  OfNumber = IsFilled out.shape size pattern (column + 1) next

  to_part : (xs : List ℤ) (ns : List ℕ) → OfNumber xs ns → IsFilled start.shape size pattern (column + 1) (set chosen column number) xs ns
  to_part xs ns h = subst (λ l. IsFilled start.shape size pattern (column + 1) l xs ns) en (subst (λ (s : Shape). IsFilled s size pattern (column + 1) next xs ns) g.grown.shape h)

  of_part : (xs : List ℤ) (ns : List ℕ) → IsFilled start.shape size pattern (column + 1) (set chosen column number) xs ns → OfNumber xs ns
  of_part xs ns h = subst (λ (s : Shape). IsFilled s size pattern (column + 1) next xs ns) (sym g.grown.shape) (subst (λ l. IsFilled start.shape size pattern (column + 1) l xs ns) (sym en) h)

  reach_low : system_reach out.period parts ≤ system_reach start.period parts
  reach_low = let e : system_reach out.period parts ≡ system_reach start.period parts = ap (λ k. system_reach k parts) g.grown.period in omega arith

  pub turn_more : IsAdded OfNumber cap (system_reach out.period parts) out new → IsGathering (IsFilled start.shape size pattern column chosen) (λ xs ns. number + 1 ≤ get_or ns column 0) cap (system_reach start.period parts) start new
  turn_more a =
      gathering_more (IsFilled start.shape size pattern column chosen) cap (system_reach start.period parts) start (λ xs ns. number ≤ get_or ns column 0) (λ xs ns. number + 1 ≤ get_or ns column 0) OfNumber (system_reach out.period parts) out new g reach_low
      (λ xs ns h. part_to start.shape size pattern few column chosen is low number xs ns (to_part xs ns h))
      (λ xs ns h l. elim (part_from start.shape size pattern few column chosen is low number xs ns h l) [ inl p ↦ inl (of_part xs ns p) | inr r ↦ inr r ]) a

  pub turn_refused : IsRefused OfNumber cap (system_reach out.period parts) out new → IsRefused (IsFilled start.shape size pattern column chosen) cap (system_reach start.period parts) start new
  turn_refused r =
      gathering_refused (IsFilled start.shape size pattern column chosen) cap (system_reach start.period parts) start (λ xs ns. number ≤ get_or ns column 0) OfNumber (system_reach out.period parts) out new g reach_low
      (λ xs ns h. part_to start.shape size pattern few column chosen is low number xs ns (to_part xs ns h)) r

-- where a column has no number alone nothing is said
pub sole_none : (pattern : Pattern) (column : ℕ) (chosen : List ℕ) → IsSoleText pattern column chosen None
sole_none pattern column chosen = record { each = λ texts known equal same. tt }
