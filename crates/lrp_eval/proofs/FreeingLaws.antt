-- Who reads a step, and which tables are left.
use Rattle.std.proofs.Common.{◌≡◌, ◌≢◌, ◌⊎◌, inl, inr, ⊎_elim, ◌≤◌, ◌<◌, ◌+◌, ◌-◌, ℕ, zero, suc, List, [], ◌∷◌, length, get_or, Some, slice_get, slice_set, slice_index_or, refl, sym, ap, subst, ◌∙◌, arith}
use Rattle.std.specs.Prelude.{Contains}
use Rattle.lrp_model.specs.declared.plans.Step.{Step}
use Rattle.lrp_plan_laws.specs.Made.{operands}
use Rattle.lrp_tables.specs.declared.table.Table.{Table}
use Rattle.lrp_cutting.proofs.Lists.{below_or}
use Rattle.lrp_eval.specs.Freeing.{AreLeftOrFreed, AreNoted, IsDone, IsNoted}

pub none_noted : (steps : List Step) (readers : List ℕ) → AreNoted steps 0 readers
none_noted steps readers j s r step lt at reads noted = absurd (omega arith)

-- a step more, both of whose operands are noted
pub all_noted : (steps : List Step) (i : ℕ) (readers : List ℕ) → length steps ≤ i → AreNoted steps i readers → AreNoted steps (length steps) readers
all_noted steps i readers whole h j s r step lt at reads noted = h j s r step (omega arith) at reads noted

got_at : {X : Type 0} (xs : List X) (i : ℕ) (x : X) → i < length xs → x ≡ get_or xs i x → slice_get xs i ≡ Some x
got_at [] i x lt e = absurd (omega arith)
got_at (y ∷ ys) zero x lt e = ap Some (sym e)
got_at (y ∷ ys) (suc i) x lt e = got_at ys i x (omega arith) e

noted_more : (steps : List Step) (i first second : ℕ) (step : Step) (old mid new : List ℕ) → slice_get steps i ≡ Some step → ((l : ℕ) → Contains (operands step.kind) l → Contains (first ∷ second ∷ []) l)
    → AreNoted steps i old → IsNoted first (i + 1) old mid → IsNoted second (i + 1) mid new → AreNoted steps (i + 1) new
noted_more steps i first second step old mid new here operands_in before one two j s r reader lt at reads noted =
    let by_second : ((suc s ≡ second) × (r ≡ i + 1)) ⊎ ((suc s ≢ second) × (slice_get mid s ≡ Some r)) = two s r noted in
    elim by_second [
      | inl a ↦ (let e : r ≡ i + 1 = a.1 in omega arith)
      | inr a ↦ (let by_first : ((suc s ≡ first) × (r ≡ i + 1)) ⊎ ((suc s ≢ first) × (slice_get old s ≡ Some r)) = one s r a.1 in
          elim by_first [
            | inl b ↦ (let e : r ≡ i + 1 = b.1 in omega arith)
            | inr b ↦ elim (below_or j i) [
              | inl low ↦ before j s r reader low at reads b.1
              | inr high ↦ (let same : j ≡ i = omega arith in
                  let is : step ≡ reader = (let e : slice_get steps i ≡ Some reader = subst (λ k. slice_get steps k ≡ Some reader) same at in let f : Some step ≡ Some reader = sym here ∙ e in cc) in
                  absurd (neither (suc s) first second (operands_in (suc s) (subst (λ (k : Step). Contains (operands k.kind) (suc s)) (sym is) reads)) b.0 a.0))
            ]
          ])
    ]
  where
    neither : (l first second : ℕ) → Contains (first ∷ second ∷ []) l → l ≢ first → l ≢ second → ⊥
    neither l first second (zero, lt, e) n m = n (cc e)
    neither l first second (suc zero, lt, e) n m = m (cc e)
    neither l first second (suc (suc k), lt, e) n m = omega arith

pub more_noted : (steps : List Step) (i first second : ℕ) (step : Step) (old mid new : List ℕ) → i < length steps → step ≡ get_or steps i step
    → ((l : ℕ) → Contains (operands (get_or steps i step).kind) l → Contains (first ∷ second ∷ []) l)
    → AreNoted steps i old → IsNoted first (i + 1) old mid → IsNoted second (i + 1) mid new → AreNoted steps (i + 1) new
more_noted steps i first second step old mid new inside at operands_in before one two =
    noted_more steps i first second step old mid new (got_at steps i step inside at) (subst (λ (k : Step). (l : ℕ) → Contains (operands k.kind) l → Contains (first ∷ second ∷ []) l) (sym at) operands_in) before one two

pub left_same : (readers : List ℕ) (tables : List Table) → AreLeftOrFreed readers tables tables
left_same readers tables = record { count = refl; each = λ i. inl refl }

pub left_twice : (readers : List ℕ) (old mid new : List Table) → AreLeftOrFreed readers old mid → AreLeftOrFreed readers mid new → AreLeftOrFreed readers old new
left_twice readers old mid new a b = record {
  count = b.count ∙ a.count;
  each = λ i. ⊎_elim (λ e. ⊎_elim (λ f. inl (e ∙ f)) (λ d. inr d) (a.each i)) (λ d. inr (subst (λ n. IsDone readers n i) a.count d)) (b.each i);
}

-- ---- an element that is another
pub set_same : {X : Type 0} (xs : List X) (p i : ℕ) (x : X) → (slice_get (slice_set xs p x) i ≡ slice_get xs i) ⊎ (i ≡ p)
set_same [] p i x = inl refl
set_same (y ∷ ys) zero zero x = inr refl
set_same (y ∷ ys) zero (suc i) x = inl refl
set_same (y ∷ ys) (suc p) zero x = inl refl
set_same (y ∷ ys) (suc p) (suc i) x = ⊎_elim (λ e. inl e) (λ e. inr (ap suc e)) (set_same ys p i x)

pub set_count : {X : Type 0} (xs : List X) (p : ℕ) (x : X) → length (slice_set xs p x) ≡ length xs
set_count [] p x = refl
set_count (y ∷ ys) zero x = refl
set_count (y ∷ ys) (suc p) x = ap suc (set_count ys p x)

pub noted_at : (readers : List ℕ) (i d : ℕ) → i < length readers → slice_get readers i ≡ Some (slice_index_or readers i d)
noted_at [] i d lt = absurd (omega arith)
noted_at (r ∷ readers) zero d lt = refl
noted_at (r ∷ readers) (suc i) d lt = noted_at readers i d (omega arith)

pub left_done : (readers : List ℕ) (tables : List Table) (of d : ℕ) (t : Table) → 0 < of → of < length tables → of ≤ length readers → slice_index_or readers (of - 1) d ≤ length tables → AreLeftOrFreed readers tables (slice_set tables (of - 1) t)
left_done readers tables of d t some low known run = record {
  count = set_count tables (of - 1) t;
  each = λ i. ⊎_elim (λ e. inl e)
      (λ e. inr (record { before = (let same : i ≡ of - 1 = e in omega arith); reader = slice_index_or readers (of - 1) d; noted = rw e (noted_at readers (of - 1) d (omega arith)); run = run }))
      (set_same tables (of - 1) i t);
}
