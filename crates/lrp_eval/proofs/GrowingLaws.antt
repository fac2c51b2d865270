-- Unions that take the left table's memory.
use Rattle.std.proofs.Common.{◌≡◌, inl, inr, ⊎_elim, ◌≤◌, ◌<◌, ◌+◌, ◌-◌, ℕ, zero, suc, List, [], ◌∷◌, ◌++◌, length, Some, slice_get, slice_index_or, refl, sym, ap, subst, ◌∙◌, arith, length-append}
use Rattle.std.specs.Prelude.{ℤ}
use Rattle.lrp_model.specs.Texts.{Text}
use Rattle.lrp_model.specs.Formulas.{Question}
use Rattle.lrp_model.specs.Steps.{Steps}
use Rattle.lrp_model.specs.declared.relations.Relation.{Relation}
use Rattle.lrp_model.specs.declared.plans.Plan.{Plan}
use Rattle.lrp_model.specs.declared.plans.Step.{Step}
use Rattle.lrp_model.specs.declared.plans.StepKind.TheVariants.{Union}
use Rattle.lrp_tables.specs.declared.table.Table.{Table}
use Rattle.lrp_cutting.proofs.Lists.{below_or}
use Rattle.lrp_eval.specs.Freeing.{AreLeftOrFreed, IsDone}
use Rattle.lrp_eval.specs.Growing.{AreLeftOrTaken, IsGrowth, IsReplacedAt, IsSomeUnion}
use Rattle.lrp_eval.specs.Planned.{IsPlanOf}
use Rattle.lrp_eval.specs.Running.{AreRun, IsNext, IsOperand}
use Rattle.lrp_eval.specs.declared.growing.Growth.{Growth}
use Rattle.lrp_eval.proofs.FreeingLaws.{noted_at, set_count, set_same}
use Rattle.lrp_eval.proofs.LoopLaws.{next_here}
use Rattle.lrp_eval.proofs.Nexts.{as_kind}
use Rattle.lrp_eval.proofs.Reading.{earlier}

pub left_alone : (readers : List ℕ) (tables : List Table) → AreLeftOrTaken readers tables tables
left_alone readers tables = record { count = refl; each = λ i. inl refl }

-- a table that another stands for
pub left_taken : (readers : List ℕ) (number : ℕ) (old new : List Table) → IsDone readers (suc (length old)) (number - 1) → IsReplacedAt number old new → AreLeftOrTaken readers old new
left_taken readers number old new done r = subst (AreLeftOrTaken readers old) (sym r.1) (record {
  count = set_count old (number - 1) r.0;
  each = λ i. ⊎_elim (λ e. inl e) (λ e. inr (subst (IsDone readers (suc (length old))) (sym e) done)) (set_same old (number - 1) i r.0);
})

-- the others are as they were
pub right_operand : {cap : ℕ} {domain : List Text} {old new seen : List Table} {growth : Growth} {period : ℤ} {table : Table} → IsSomeUnion cap domain old growth period → IsReplacedAt growth.left old new → seen ≡ new → IsOperand seen growth.right table → IsOperand old growth.right table
right_operand {cap} {domain} {old} {new} {seen} {growth} {period} {table} some r same is = record {
  at = ⊎_elim (λ e. sym e ∙ subst (λ ts. slice_get ts (growth.right - 1) ≡ Some table) (same ∙ r.1) is.at)
      (λ e. let low : 0 < growth.left = (earlier some.is).0.0 in let high : 0 < growth.right = (earlier some.is).1.0.0 in let f : growth.right - 1 ≡ growth.left - 1 = e in absurd (some.apart (omega (arith, low, high, f))))
      (set_same old (growth.left - 1) (growth.right - 1) r.0);
  valid = is.valid;
  times_named = is.times_named;
  texts_named = is.texts_named;
  differ = is.differ;
}

pub as_many : (number other : ℕ) (old new : List Table) {seen : List Table} → seen ≡ new → IsReplacedAt number old new → other ≤ length old → other ≤ length seen
as_many number other old new same r le = let e : length new ≡ length old = ap (λ ts. length ts) r.1 ∙ set_count old (number - 1) r.0 in let f = ap (λ (ts : List Table). length ts) same in omega (arith, e, f, le)

-- the reader that is noted for the left step
pub growth_done : (readers : List ℕ) (count of d : ℕ) → 0 < of → of ≤ count → of ≤ length readers → slice_index_or readers (of - 1) d ≤ count + 1 → IsDone readers (suc count) (of - 1)
growth_done readers count of d some low known run = record {
  before = omega arith;
  reader = slice_index_or readers (of - 1) d;
  noted = noted_at readers (of - 1) d (omega arith);
  run = omega arith;
}

-- the next step of a plan, by its place
pub next_of : (planned : Steps) (db : List Relation) (q : Question) (cap : ℕ) (p : Plan) (domain : List Text) (tables seen : List Table) (step : Step) (count : ℕ) → domain ≡ p.domain → count ≡ length tables → slice_get p.steps count ≡ Some step → seen ≡ tables → IsPlanOf planned db q p → AreRun planned db q cap tables
    → IsNext planned db q cap domain seen step.kind step.period
next_of planned db q cap p domain tables seen step count named counted at same h run =
    subst (λ d. IsNext planned db q cap d seen step.kind step.period) (sym named) (subst (λ ts. IsNext planned db q cap p.domain ts step.kind step.period) (sym same) (next_here planned db q cap p tables step h (subst (λ i. slice_get p.steps i ≡ Some step) counted at) run))

-- the union, where the step is one
pub some_union : {planned : Steps} {db : List Relation} {q : Question} {cap : ℕ} {domain : List Text} {tables : List Table} {step : Step} {readers : List ℕ} {count : ℕ} {growth : Growth} → IsNext planned db q cap domain tables step.kind step.period → IsGrowth step readers count growth → IsNext planned db q cap domain tables (Union growth.left growth.right) step.period
some_union {growth = growth} n g = as_kind (Union growth.left growth.right) n g.kind

-- the tables with one more
at_front : {X : Type 0} (xs : List X) (x : X) (i : ℕ) → i < length xs → slice_get (xs ++ x ∷ []) i ≡ slice_get xs i
at_front [] x i lt = absurd (omega arith)
at_front (y ∷ xs) x zero lt = refl
at_front (y ∷ xs) x (suc i) lt = at_front xs x i (omega arith)

at_end : {X : Type 0} (xs ys : List X) (x : X) (i : ℕ) → length xs ≡ length ys → length xs ≤ i → slice_get (xs ++ x ∷ []) i ≡ slice_get (ys ++ x ∷ []) i
at_end [] [] x i e le = refl
at_end [] (y ∷ ys) x i e le = absurd (omega (arith, e))
at_end (z ∷ xs) [] x i e le = absurd (omega (arith, e))
at_end (z ∷ xs) (y ∷ ys) x zero e le = absurd (omega arith)
at_end (z ∷ xs) (y ∷ ys) x (suc i) e le = at_end xs ys x i (omega (arith, e)) (omega arith)

pub freed_more : (readers : List ℕ) (old new pushed : List Table) (t : Table) → AreLeftOrTaken readers old new → pushed ≡ new ++ t ∷ [] → AreLeftOrFreed readers (old ++ t ∷ []) pushed
freed_more readers old new pushed t left e = subst (AreLeftOrFreed readers (old ++ t ∷ [])) (sym e) (record {
  count = length-append new (t ∷ []) ∙ ap (λ n. n + 1) left.count ∙ sym (length-append old (t ∷ []));
  each = λ i. elim (below_or i (length old)) [
    | inl lt ↦ ⊎_elim (λ same. inl (at_front new t i (subst (λ n. i < n) (sym left.count) lt) ∙ same ∙ sym (at_front old t i lt))) (λ done. inr (subst (λ n. IsDone readers n i) (let a : length (old ++ t ∷ []) ≡ length old + 1 = length-append old (t ∷ []) in let b : suc (length old) ≡ length (old ++ t ∷ []) = omega (arith, a) in b) done)) (left.each i)
    | inr ge ↦ inl (at_end new old t i left.count (subst (λ n. n ≤ i) (sym left.count) ge))
  ];
})
