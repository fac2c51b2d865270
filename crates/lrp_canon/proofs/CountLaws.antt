-- Two lists without doubles of just the same elements are equally long; so a set has one least period and one number of rows.
use Rattle.std.proofs.Common.{◌≡◌, ◌≢◌, ℕ, suc, ◌+◌, ◌≤◌, inl, inr, List, [], ◌∷◌, ◌++◌, length, length-append, arith, subst, ap, ◌∙◌}
use Rattle.std.specs.Prelude.{ℤ, pos, ◌-ℤ◌, Contains, AllPairs}
use Rattle.std.proofs.lemmas.List.Elements.{Contains-append_cases, Contains-append_left, Contains-append_right}
use Rattle.lrp_spans.proofs.Lists.{head_in, in_cons, in_none, later, pairs_head, pairs_right}
use Rattle.lrp_canon.specs.Rows.{AreJust, HasRowCount, IsLeastPeriod, IsOpenBelow, IsSetOfRows, IsStart, Moment}

-- a list with an element is what stands before it, it, and what stands after it
pub record IsSplit {X : Type 0} (xs : List X) (x : X) : Type 0 where
  pub front : List X
  pub back : List X
  pub is : xs ≡ front ++ x ∷ back

pub split : {X : Type 0} (xs : List X) (x : X) → Contains xs x → IsSplit xs x
split [] x c = absurd (in_none x c)
split (y ∷ ys) x c = elim (in_cons y ys x c) [
  | inl e ↦ record { front = []; back = ys; is = ap (λ z. z ∷ ys) e }
  | inr m ↦ (let s = split ys x m in record { front = y ∷ s.front; back = s.back; is = ap (λ zs. y ∷ zs) s.is })
]

-- without the element
rest_in : {X : Type 0} (front back : List X) (x z : X) → (x ≡ z → ⊥) → Contains (front ++ x ∷ back) z → Contains (front ++ back) z
rest_in front back x z other c = elim (Contains-append_cases front (x ∷ back) z c) [
  | inl a ↦ Contains-append_left front back z a
  | inr b ↦ elim (in_cons x back z b) [ inl e ↦ absurd (other e) | inr m ↦ Contains-append_right front back z m ]
]

one_less : {X : Type 0} (front back : List X) (x : X) → length (front ++ x ∷ back) ≡ suc (length (front ++ back))
one_less front back x = let a : length (front ++ x ∷ back) ≡ length front + length (x ∷ back) = length-append front (x ∷ back) in let b : length (front ++ back) ≡ length front + length back = length-append front back in omega (arith, a, b)

pub no_more : {X : Type 0} (xs ys : List X) → AllPairs ◌≢◌ xs → ((x : X) → Contains xs x → Contains ys x) → length xs ≤ length ys
no_more [] ys apart each = omega arith
no_more (x ∷ xs) ys apart each =
    let s = split ys x (each x (head_in x xs)) in
    let l : length xs ≤ length (s.front ++ s.back) = no_more xs (s.front ++ s.back) (pairs_right ◌≢◌ (x ∷ []) xs apart)
    (λ z m. rest_in s.front s.back x z (pairs_head ◌≢◌ x xs apart z m) (subst (λ zs. Contains zs z) s.is (each z (later x xs z m)))) in
    let n : length ys ≡ suc (length (s.front ++ s.back)) = ap (λ zs. length zs) s.is ∙ one_less s.front s.back x in
    omega (arith, l, n)

-- the moments of a kind are so many
pub same_number : {T : Type 0} (kind : Moment T → Type 0) (xs ys : List (Moment T)) → AreJust kind xs → AreJust kind ys → length xs ≡ length ys
same_number kind xs ys a b =
    let l : length xs ≤ length ys = no_more xs ys a.apart (λ p c. b.from p (a.to p c)) in
    let m : length ys ≤ length xs = no_more ys xs b.apart (λ p c. a.from p (b.to p c)) in
    omega (arith, l, m)

-- a set has one least period, and one number of rows
pub one_period : {T : Type 0} (set : ℤ → List T → Type 0) (a b : ℕ) → IsLeastPeriod set a → IsLeastPeriod set b → a ≡ b
one_period set a b h g =
    let l : a ≤ b = h.least b g.is in
    let m : b ≤ a = g.least a h.is in
    omega (arith, l, m)

pub one_row_count : {T : Type 0} (set : ℤ → List T → Type 0) (a b : ℕ) → HasRowCount set a → HasRowCount set b → a ≡ b
one_row_count set a b h g =
    let e : g.period ≡ h.period = one_period set g.period h.period g.least h.least in
    let s : length h.starts ≡ length g.starts = same_number (IsStart set h.period) h.starts g.starts h.begun (subst (λ p. AreJust (IsStart set p) g.starts) e g.begun) in
    let o : length h.endless ≡ length g.endless = same_number (IsOpenBelow set h.period) h.endless g.endless h.unbegun (subst (λ p. AreJust (IsOpenBelow set p) g.endless) e g.unbegun) in
    let t : length h.starts + length h.endless ≡ a = h.total in
    let u : length g.starts + length g.endless ≡ b = g.total in
    omega (arith, s, o, t, u)

-- ---- sets with the same numbers and texts
just_moved : {T : Type 0} (kind other : Moment T → Type 0) (moments : List (Moment T)) → ((p : Moment T) → kind p → other p) → ((p : Moment T) → other p → kind p) → AreJust kind moments → AreJust other moments
just_moved kind other moments to from a = record { apart = a.apart; to = λ p c. to p (a.to p c); from = λ p k. a.from p (from p k) }

rows_moved : {T : Type 0} (A B : ℤ → List T → Type 0) → ((x : ℤ) (texts : List T) → A x texts → B x texts) → ((x : ℤ) (texts : List T) → B x texts → A x texts) → (period : ℕ) → IsSetOfRows A period → IsSetOfRows B period
rows_moved A B to from period h = record {
  positive = h.positive;
  rows = h.rows;
  sound = λ x texts i. to x texts (h.sound x texts i);
  whole = λ x texts b. h.whole x texts (from x texts b);
}

module _ {T : Type 0} (A B : ℤ → List T → Type 0) (to : (x : ℤ) (texts : List T) → A x texts → B x texts) (from : (x : ℤ) (texts : List T) → B x texts → A x texts) where
  pub period_moved : (period : ℕ) → IsLeastPeriod A period → IsLeastPeriod B period
  period_moved period h = record { is = rows_moved A B to from period h.is; least = λ other o. h.least other (rows_moved B A from to other o) }

  pub count_moved : (count : ℕ) → HasRowCount A count → HasRowCount B count
  count_moved count h = record {
    period = h.period;
    least = period_moved h.period h.least;
    starts = h.starts;
    begun = just_moved (IsStart A h.period) (IsStart B h.period) h.starts
        (λ p k. record { inside = to p.number p.texts k.inside; first = λ b. k.first (from (p.number -ℤ pos h.period) p.texts b) })
        (λ p k. record { inside = from p.number p.texts k.inside; first = λ a. k.first (to (p.number -ℤ pos h.period) p.texts a) })
        h.begun;
    endless = h.endless;
    unbegun = just_moved (IsOpenBelow A h.period) (IsOpenBelow B h.period) h.endless
        (λ p k. record { residue = k.residue; bound = k.bound; all = λ x l d. to x p.texts (k.all x l d) })
        (λ p k. record { residue = k.residue; bound = k.bound; all = λ x l d. from x p.texts (k.all x l d) })
        h.unbegun;
    total = h.total;
  }
