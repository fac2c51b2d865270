-- Columns that bounds tie, and their groups.
use Rattle.std.proofs.Common.{◌≡◌, ℕ, zero, suc, ◌+◌, ◌<◌, ◌≤◌, Bool, true, false, inl, inr, List, [], ◌∷◌, length, refl, sym, ap, subst, ◌∙◌, arith}
use Rattle.std.specs.Prelude.{◌⊎◌, ◌==◌, if◌then◌else◌, slice_index, slice_get, Option, Some, Contains}
use Rattle.std.specs.List.{AllByRecursion}
use Rattle.std.proofs.lemmas.Bool.{cases_lt}
use Rattle.std.proofs.lemmas.Bool.Decides.{nat_tests}
use Rattle.std.proofs.lemmas.Option.{get_or_from_slice_get, same_Some, slice_get_read, slice_get_within}
use Rattle.lrp_model.proofs.Ascending.{all_at}
use Rattle.lrp_model.specs.declared.relations.Bound.{Bound}
use Rattle.lrp_lint.specs.Flaws.{AreNeighbours, AreTied, HasUntied}
use Rattle.lrp_lint.specs.Flaws.AreTied.{itself, onward}
use Rattle.lrp_lint.specs.Ties.{AreBetween, IsGrouped, IsMerged}

-- what stands at a place is one of the list, and one of the list stands at a place
pub at_place : {X : Type 0} (xs : List X) (i : ℕ) (x : X) → slice_get xs i ≡ Some x → Contains xs x
at_place xs i x e = (i, slice_get_within xs i x e, get_or_from_slice_get xs i x x e)

pub place_in : {X : Type 0} (xs : List X) (x : X) → Contains xs x → (i : ℕ) × (i < length xs) × (slice_get xs i ≡ Some x)
place_in xs x c = (c.0, c.1, slice_get_read xs (length xs) c.0 x refl c.1 (sym c.2))

same_number : (x y : ℕ) → (x == y) ≡ true → x ≡ y
same_number x y e = grind (arith, nat_tests)

own_number : (x : ℕ) → (x == x) ≡ false → ⊥
own_number x e = grind (arith, nat_tests)

module _ (bounds : List Bound) where
  -- from one to another, and on to a third
  pub further : (p q r : ℕ) → AreTied bounds p q → AreTied bounds q r → AreTied bounds p r
  further p q r (itself x) t = t
  further p q r (onward x m y n rest) t = onward x m r n (further m y r rest t)

  turned : (p q : ℕ) → AreNeighbours bounds p q → AreNeighbours bounds q p
  turned p q n = record {
    bound = n.bound;
    held = n.held;
    one = n.other;
    other = n.one;
    between = elim n.between [
      | inl b ↦ inr b
      | inr b ↦ inl b
    ];
  }

  -- and back
  pub back : (p q : ℕ) → AreTied bounds p q → AreTied bounds q p
  back p q (itself x) = itself x
  back p q (onward x m y n rest) = further y m x (back m y rest) (onward m x x (turned x m n) (itself x))

  module _ (n : ℕ) (old new : List ℕ) (b : Bound) (g : IsGrouped bounds n old) (all : AllByRecursion (AreBetween 8) bounds) (at : slice_get bounds n ≡ Some b) where
    -- the bound is not between two columns
    pub not_between : (0 < b.left → 0 < b.right → ⊥) → IsGrouped bounds (n + 1) old
    not_between none = record {
      size = g.size;
      tied = g.tied;
      one = λ i c low e cl cr. elim (cases_lt i n) [
        | inl lt ↦ g.one i c lt e cl cr
        | inr ge ↦ absurd (here i c (omega (arith, low, ge)) e cl cr)
      ];
    }
      where
        here : (i : ℕ) (c : Bound) → i ≡ n → slice_get bounds i ≡ Some c → 0 < c.left → 0 < c.right → ⊥
        here i c is e cl cr =
            let same : c ≡ b = same_Some c b (sym e ∙ ap (slice_get bounds) is ∙ at) in
            none (subst (λ (d : Bound). 0 < d.left) same cl) (subst (λ (d : Bound). 0 < d.right) same cr)

    module _ (l0 : 0 < b.left) (r0 : 0 < b.right) (m : IsMerged old b.left b.right new) where
      within : (i : ℕ) (c : Bound) → slice_get bounds i ≡ Some c → AreBetween 8 c
      within i c e = all_at (AreBetween 8) bounds c all (at_place bounds i c e)

      left_low : b.left < 9
      left_low = let w = (within n b at).left in omega (arith, w)

      right_low : b.right < 9
      right_low = let w = (within n b at).right in omega (arith, w)

      bridge : AreTied bounds b.left b.right
      bridge = onward b.left b.right b.right (record { bound = b; held = at_place bounds n b at; one = l0; other = r0; between = inl (refl, refl) }) (itself b.right)

      one_group : (p q x y : ℕ) (s t : Bool) → p < 9 → q < 9 → slice_index old p ≡ x → slice_index old q ≡ y → (x == slice_index old b.right) ≡ s → (y == slice_index old b.right) ≡ t
          → (if s then slice_index old b.left else x) ≡ (if t then slice_index old b.left else y) → AreTied bounds p q
      one_group p q x y true true hp hq ex ey es et e = g.tied p q hp hq (let u : x ≡ slice_index old b.right = same_number x (slice_index old b.right) es in let v : y ≡ slice_index old b.right = same_number y (slice_index old b.right) et in ex ∙ u ∙ sym v ∙ sym ey)
      one_group p q x y true false hp hq ex ey es et e =
          let u : x ≡ slice_index old b.right = same_number x (slice_index old b.right) es in
          further p b.right q (g.tied p b.right hp right_low (ex ∙ u)) (further b.right b.left q (back b.left b.right bridge) (g.tied b.left q left_low hq (e ∙ sym ey)))
      one_group p q x y false true hp hq ex ey es et e =
          let v : y ≡ slice_index old b.right = same_number y (slice_index old b.right) et in
          further p b.left q (g.tied p b.left hp left_low (ex ∙ e)) (further b.left b.right q bridge (g.tied b.right q right_low hq (sym (ey ∙ v))))
      one_group p q x y false false hp hq ex ey es et e = g.tied p q hp hq (ex ∙ e ∙ sym ey)

      both : (l r : ℕ) (s t : Bool) → (l == r) ≡ s → (r == r) ≡ t → (if s then l else l) ≡ (if t then l else r)
      both l r true true es et = refl
      both l r false true es et = refl
      both l r s false es et = absurd (own_number r et)

      -- the groups of the two columns are one
      pub merging : IsGrouped bounds (n + 1) new
      merging = record {
        size = m.size;
        tied = λ p q hp hq e. one_group p q (slice_index old p) (slice_index old q) _ _ hp hq refl refl refl refl (sym (m.each p hp) ∙ e ∙ m.each q hq);
        one = λ i c low e cl cr. elim (cases_lt i n) [
          | inl lt ↦ (let w = within i c e in
              let hl : c.left < 9 = (let v = w.left in omega (arith, v)) in
              let hr : c.right < 9 = (let v = w.right in omega (arith, v)) in
              m.each c.left hl ∙ ap (λ x. if x == slice_index old b.right then slice_index old b.left else x) (g.one i c lt e cl cr) ∙ sym (m.each c.right hr))
          | inr ge ↦ here i c (omega (arith, low, ge)) e
        ];
      }
        where
          here : (i : ℕ) (c : Bound) → i ≡ n → slice_get bounds i ≡ Some c → slice_index new c.left ≡ slice_index new c.right
          here i c is e =
              let same : b ≡ c = same_Some b c (sym at ∙ ap (slice_get bounds) (sym is) ∙ e) in
              subst (λ (d : Bound). slice_index new d.left ≡ slice_index new d.right) same (m.each b.left left_low ∙ both (slice_index old b.left) (slice_index old b.right) _ _ refl refl ∙ sym (m.each b.right right_low))

  module _ (groups : List ℕ) (g : IsGrouped bounds (length bounds) groups) where
    -- columns that are tied are of one group
    pub grouped : (p q : ℕ) → AreTied bounds p q → slice_index groups p ≡ slice_index groups q
    grouped p q (itself x) = refl
    grouped p q (onward x m y n rest) = step x m n ∙ grouped m y rest
      where
        step : (p m : ℕ) → AreNeighbours bounds p m → slice_index groups p ≡ slice_index groups m
        step p m n =
            let at = place_in bounds n.bound n.held in
            elim n.between [
              | inl b ↦ ap (slice_index groups) (sym b.0) ∙ g.one at.0 n.bound at.1 at.2 (let o = n.one in let e = b.0 in omega (arith, o, e)) (let o = n.other in let e = b.1 in omega (arith, o, e)) ∙ ap (slice_index groups) b.1
              | inr b ↦ ap (slice_index groups) (sym b.1) ∙ sym (g.one at.0 n.bound at.1 at.2 (let o = n.other in let e = b.0 in omega (arith, o, e)) (let o = n.one in let e = b.1 in omega (arith, o, e))) ∙ ap (slice_index groups) b.0
            ]

    -- a column of another group than the first
    pub apart : (times column : ℕ) → 2 ≤ column → column ≤ times → (slice_index groups column ≡ slice_index groups 1 → ⊥) → HasUntied times bounds
    apart times column low high other = record {
      one = column;
      other = 1;
      one_low = omega (arith, low);
      one_high = high;
      other_low = omega arith;
      other_high = omega (arith, low, high);
      untied = λ t. other (grouped column 1 t);
    }

    -- all columns of the group of the first
    pub together : (times : ℕ) → times ≤ 8 → ((q : ℕ) → 0 < q → q ≤ times → slice_index groups q ≡ slice_index groups 1) → HasUntied times bounds → ⊥
    together times few same u = u.untied (g.tied u.one u.other (let h = u.one_high in omega (arith, h, few)) (let h = u.other_high in omega (arith, h, few)) (same u.one u.one_low u.one_high ∙ sym (same u.other u.other_low u.other_high)))

-- ---- before any bound

abbrev each_alone : List ℕ
each_alone = 0 ∷ 1 ∷ 2 ∷ 3 ∷ 4 ∷ 5 ∷ 6 ∷ 7 ∷ 8 ∷ []

own_group : (p : ℕ) → p < 9 → slice_index each_alone p ≡ p
own_group zero l = refl
own_group (suc (zero)) l = refl
own_group (suc (suc (zero))) l = refl
own_group (suc (suc (suc (zero)))) l = refl
own_group (suc (suc (suc (suc (zero))))) l = refl
own_group (suc (suc (suc (suc (suc (zero)))))) l = refl
own_group (suc (suc (suc (suc (suc (suc (zero))))))) l = refl
own_group (suc (suc (suc (suc (suc (suc (suc (zero)))))))) l = refl
own_group (suc (suc (suc (suc (suc (suc (suc (suc (zero))))))))) l = refl
own_group (suc (suc (suc (suc (suc (suc (suc (suc (suc p))))))))) l = absurd (omega (arith, l))

-- each column is a group of its own
pub all_alone : (bounds : List Bound) → IsGrouped bounds 0 (0 ∷ 1 ∷ 2 ∷ 3 ∷ 4 ∷ 5 ∷ 6 ∷ 7 ∷ 8 ∷ [])
all_alone bounds = record {
  size = refl;
  tied = λ p q hp hq e. subst (λ r. AreTied bounds p r) (sym (own_group p hp) ∙ e ∙ own_group q hq) (itself p);
  one = λ i b low e l r. absurd (omega (arith, low));
}
