-- The sides of a comparison over the columns that they have alone.
use Rattle.std.proofs.Common.{◌≡◌, ◌≢◌, ℕ, zero, suc, ◌+◌, ◌<◌, ◌≤◌, ◌⊎◌, inl, inr, List, [], ◌∷◌, length, take, map, refl, sym, ap, subst, ◌∙◌, arith}
use Rattle.std.specs.Prelude.{ℤ, pos, nat_abs, ◌+ℤ◌, ◌-ℤ◌}
use Rattle.std.proofs.lemmas.Int.{ints}
use Rattle.std.proofs.lemmas.List.{length-map}
use Rattle.lrp_theory.specs.Entries.{node}
use Rattle.lrp_model.specs.Texts.{Text, Identifier}
use Rattle.lrp_model.specs.Reach.{term_offset}
use Rattle.lrp_model.specs.Satisfaction.{Assignment, Compares, time_value}
use Rattle.lrp_model.specs.declared.formulas.Op.{Op}
use Rattle.lrp_model.specs.declared.formulas.Test.TheVariants.{Compare}
use Rattle.lrp_model.specs.declared.formulas.TimeTerm.{TimeTerm}
use Rattle.lrp_zone.specs.Spread.{ArePlaces, target}
use Rattle.lrp_zone.specs.Zones.{ZoneView, reach_of}
use Rattle.lrp_steps.specs.declared.comparisons.OwnSides.{OwnSides}
use Rattle.lrp_steps.specs.declared.comparisons.ShiftedColumn.{ShiftedColumn}
use Rattle.lrp_steps.specs.declared.pattern.Pattern.{Pattern}
use Rattle.lrp_steps.specs.Comparisons.{side_value, IsCompared, HasNoCompared, IsOverOwn}
use Rattle.lrp_steps.specs.Conditions.{IsWithTest, HasNoTest, IsWithZone}
use Rattle.lrp_steps.proofs.Conditioned.{zone_test}

-- ---- places

no_places : (n : ℕ) → ArePlaces [] n
no_places n = record { low = λ p h. absurd (omega (arith, h)); high = λ p h. high p h; differ = λ p q h k e. omega (arith, h, k) }
  where
    high : (p : ℕ) → p ≤ 0 → target [] p ≤ n
    high zero h = omega arith
    high (suc p) h = absurd (omega (arith, h))

one_place : (a n : ℕ) → 0 < a → a ≤ n → ArePlaces (a ∷ []) n
one_place a n low high = record { low = low_at; high = high_at; differ = differ }
  where
    low_at : (p : ℕ) → p < 1 → 0 < target (a ∷ []) (p + 1)
    low_at zero h = low
    low_at (suc p) h = absurd (omega (arith, h))

    high_at : (p : ℕ) → p ≤ 1 → target (a ∷ []) p ≤ n
    high_at zero h = omega arith
    high_at (suc zero) h = high
    high_at (suc (suc p)) h = absurd (omega (arith, h))

    differ : (p q : ℕ) → p ≤ 1 → q ≤ 1 → target (a ∷ []) p ≡ target (a ∷ []) q → p ≡ q
    differ zero zero h k e = refl
    differ zero (suc zero) h k e = absurd (omega (arith, e, low))
    differ (suc zero) zero h k e = absurd (omega (arith, e, low))
    differ (suc zero) (suc zero) h k e = refl
    differ (suc (suc p)) q h k e = absurd (omega (arith, h))
    differ p (suc (suc q)) h k e = absurd (omega (arith, k))

two_places : (a b n : ℕ) → 0 < a → a ≤ n → 0 < b → b ≤ n → a ≢ b → ArePlaces (a ∷ b ∷ []) n
two_places a b n al ah bl bh ne = record { low = low_at; high = high_at; differ = differ }
  where
    low_at : (p : ℕ) → p < 2 → 0 < target (a ∷ b ∷ []) (p + 1)
    low_at zero h = al
    low_at (suc zero) h = bl
    low_at (suc (suc p)) h = absurd (omega (arith, h))

    high_at : (p : ℕ) → p ≤ 2 → target (a ∷ b ∷ []) p ≤ n
    high_at zero h = omega arith
    high_at (suc zero) h = ah
    high_at (suc (suc zero)) h = bh
    high_at (suc (suc (suc p))) h = absurd (omega (arith, h))

    differ : (p q : ℕ) → p ≤ 2 → q ≤ 2 → target (a ∷ b ∷ []) p ≡ target (a ∷ b ∷ []) q → p ≡ q
    differ zero zero h k e = refl
    differ zero (suc zero) h k e = absurd (omega (arith, e, al))
    differ zero (suc (suc zero)) h k e = absurd (omega (arith, e, bl))
    differ (suc zero) zero h k e = absurd (omega (arith, e, al))
    differ (suc zero) (suc zero) h k e = refl
    differ (suc zero) (suc (suc zero)) h k e = absurd (ne e)
    differ (suc (suc zero)) zero h k e = absurd (omega (arith, e, bl))
    differ (suc (suc zero)) (suc zero) h k e = absurd (ne (sym e))
    differ (suc (suc zero)) (suc (suc zero)) h k e = refl
    differ (suc (suc (suc p))) q h k e = absurd (omega (arith, h))
    differ p (suc (suc (suc q))) h k e = absurd (omega (arith, k))

-- ---- sides

-- both are numbers
pub both_numbers : (n : ℕ) (l r : ShiftedColumn) (own : OwnSides) → l.column ≡ 0 → r.column ≡ 0 → own.columns ≡ 0 → own.left ≡ record { column = 0; plus = l.plus } → own.right ≡ record { column = 0; plus = r.plus } → IsOverOwn n l r own
both_numbers n l r own lc rc ec el er = record {
  few = omega (arith, ec);
  count = subst (λ k. length (take k own.places) ≡ k) (sym ec) refl;
  places = subst (λ k. ArePlaces (take k own.places) n) (sym ec) (no_places n);
  left_high = subst (λ (s : ShiftedColumn). s.column ≤ own.columns) (sym el) (omega arith);
  right_high = subst (λ (s : ShiftedColumn). s.column ≤ own.columns) (sym er) (omega arith);
  left_plus = ap (λ (s : ShiftedColumn). s.plus) el;
  right_plus = ap (λ (s : ShiftedColumn). s.plus) er;
  left_value = λ xs. ap (λ (s : ShiftedColumn). side_value s (map (node xs) (take own.columns own.places))) el ∙ ap (λ c. node xs c +ℤ l.plus) (sym lc);
  right_value = λ xs. ap (λ (s : ShiftedColumn). side_value s (map (node xs) (take own.columns own.places))) er ∙ ap (λ c. node xs c +ℤ r.plus) (sym rc);
}

-- one column, of which each side is a column at the place or a number
module _ (n a : ℕ) (low : 0 < a) (high : a ≤ n) (l r : ShiftedColumn) (own : OwnSides) (ec : own.columns ≡ 1) (rest : List ℕ) (ep : own.places ≡ a ∷ rest) where
  one_taken : take own.columns own.places ≡ a ∷ []
  one_taken = ap (λ k. take k own.places) ec ∙ ap (take 1) ep

  one_value : (s own_side : ShiftedColumn) → own_side.plus ≡ s.plus → ((s.column ≡ 0) × (own_side.column ≡ 0)) ⊎ ((s.column ≡ a) × (own_side.column ≡ 1)) → (xs : List ℤ) → side_value own_side (map (node xs) (take own.columns own.places)) ≡ side_value s xs
  one_value s o e h xs = ap (λ ps. side_value o (map (node xs) ps)) one_taken ∙ elim h [
    | inl z ↦ ap (λ c. node (node xs a ∷ []) c +ℤ o.plus) z.1 ∙ ap (λ p. pos 0 +ℤ p) e ∙ ap (λ c. node xs c +ℤ s.plus) (sym z.0)
    | inr z ↦ ap (λ c. node (node xs a ∷ []) c +ℤ o.plus) z.1 ∙ ap (λ p. node xs a +ℤ p) e ∙ ap (λ c. node xs c +ℤ s.plus) (sym z.0)
  ]

  one_high : (s o : ShiftedColumn) → ((s.column ≡ 0) × (o.column ≡ 0)) ⊎ ((s.column ≡ a) × (o.column ≡ 1)) → o.column ≤ own.columns
  one_high s o h = elim h [ inl z ↦ (let y = z.1 in omega (arith, y)) | inr z ↦ (let y = z.1 in omega (arith, y, ec)) ]

  pub one_column : own.left.plus ≡ l.plus → own.right.plus ≡ r.plus → ((l.column ≡ 0) × (own.left.column ≡ 0)) ⊎ ((l.column ≡ a) × (own.left.column ≡ 1)) → ((r.column ≡ 0) × (own.right.column ≡ 0)) ⊎ ((r.column ≡ a) × (own.right.column ≡ 1)) → IsOverOwn n l r own
  one_column pl pr hl hr = record {
    few = omega (arith, ec);
    count = ap length one_taken ∙ sym ec;
    places = subst (λ ps. ArePlaces ps n) (sym one_taken) (one_place a n low high);
    left_high = one_high l own.left hl;
    right_high = one_high r own.right hr;
    left_plus = pl;
    right_plus = pr;
    left_value = one_value l own.left pl hl;
    right_value = one_value r own.right pr hr;
  }

-- two columns
pub two_columns : (n : ℕ) (l r : ShiftedColumn) → 0 < l.column → l.column ≤ n → 0 < r.column → r.column ≤ n → l.column ≢ r.column → (own : OwnSides) (rest : List ℕ) → own.columns ≡ 2 → own.places ≡ l.column ∷ r.column ∷ rest → own.left ≡ record { column = 1; plus = l.plus } → own.right ≡ record { column = 2; plus = r.plus } → IsOverOwn n l r own
two_columns n l r ll lh rl rh ne own rest ec ep el er = record {
  few = omega (arith, ec);
  count = ap length taken ∙ sym ec;
  places = subst (λ ps. ArePlaces ps n) (sym taken) (two_places l.column r.column n ll lh rl rh ne);
  left_high = subst (λ (s : ShiftedColumn). s.column ≤ own.columns) (sym el) (omega (arith, ec));
  right_high = subst (λ (s : ShiftedColumn). s.column ≤ own.columns) (sym er) (omega (arith, ec));
  left_plus = ap (λ (s : ShiftedColumn). s.plus) el;
  right_plus = ap (λ (s : ShiftedColumn). s.plus) er;
  left_value = λ xs. ap (λ (s : ShiftedColumn). side_value s (map (node xs) (take own.columns own.places))) el ∙ ap (λ ps. side_value (record { column = 1; plus = l.plus }) (map (node xs) ps)) taken;
  right_value = λ xs. ap (λ (s : ShiftedColumn). side_value s (map (node xs) (take own.columns own.places))) er ∙ ap (λ ps. side_value (record { column = 2; plus = r.plus }) (map (node xs) ps)) taken;
}
  where
    taken : take own.columns own.places ≡ l.column ∷ r.column ∷ []
    taken = ap (λ k. take k own.places) ec ∙ ap (take 2) ep

-- ---- comparisons

-- a comparison of time terms is one of their sides over the columns that they have
module _ (domain : List Text) (times texts : List Identifier) (left right : TimeTerm) (op : Op) (l r : ShiftedColumn) (lv : (env : Assignment) → side_value l (map env.times times) ≡ time_value env left) (rv : (env : Assignment) → side_value r (map env.times times) ≡ time_value env right)
    (lp : l.plus ≡ term_offset left) (rp : r.plus ≡ term_offset right) (own : OwnSides) (is : IsOverOwn (length times) l r own) (old : Pattern) where
  -- the values of the columns
  abbrev values : Assignment → List ℤ
  values env = map (node (map env.times times)) (take own.columns own.places)

  values_count : (env : Assignment) → length (values env) ≡ own.columns
  values_count env = length-map (take own.columns own.places) (node (map env.times times)) ∙ is.count

  left_is : (env : Assignment) → side_value own.left (values env) ≡ time_value env left
  left_is env = is.left_value (map env.times times) ∙ lv env

  right_is : (env : Assignment) → side_value own.right (values env) ≡ time_value env right
  right_is env = is.right_value (map env.times times) ∙ rv env

  compares_to : (env : Assignment) → Compares op (side_value own.left (values env)) (side_value own.right (values env)) → Compares op (time_value env left) (time_value env right)
  compares_to env h = subst (λ x. Compares op x (time_value env right)) (left_is env) (subst (λ y. Compares op (side_value own.left (values env)) y) (right_is env) h)

  compares_from : (env : Assignment) → Compares op (time_value env left) (time_value env right) → Compares op (side_value own.left (values env)) (side_value own.right (values env))
  compares_from env h = subst (λ x. Compares op x (side_value own.right (values env))) (sym (left_is env)) (subst (λ y. Compares op (time_value env left) y) (sym (right_is env)) h)

  pub own_test : length old.texts ≡ 8 → (z : ZoneView) → IsCompared own.left op own.right own.columns z → (new : Pattern) → IsWithZone old (record { zone = z; places = take own.columns own.places }) new → IsWithTest domain times texts (Compare left op right) old new
  own_test known z made new w = zone_test old new (record { zone = z; places = take own.columns own.places }) w domain times texts (Compare left op right) made.period (omega (arith, ints)) near is.places
      (λ env h. compares_to env (made.to (values env) h))
      (λ env h. made.from (values env) (values_count env) (compares_from env h)) known
    where
      near : reach_of z ≤ 1 + nat_abs (term_offset left -ℤ term_offset right)
      near = subst (λ p. reach_of z ≤ 1 + nat_abs (p -ℤ term_offset right)) (is.left_plus ∙ lp) (subst (λ q. reach_of z ≤ 1 + nat_abs (own.left.plus -ℤ q)) (is.right_plus ∙ rp) made.reach)

  pub own_no : HasNoCompared own.left op own.right own.columns → HasNoTest domain times texts (Compare left op right) old
  own_no none = record { none = λ env ns a h p. none.none (values env) (values_count env) (compares_from env p) }
