-- The points of the tests of a plan are those of the body.
use Rattle.std.proofs.Common.{◌≡◌, ℕ, List, [], ◌∷◌, ◌++◌, Some, flat_map, Contains, refl, sym, ap, subst, ◌∙◌}
use Rattle.std.specs.List.{AllByRecursion}
use Rattle.lrp_model.specs.Formulas.{Form, Question}
use Rattle.lrp_model.specs.Variables.{Variable}
use Rattle.lrp_model.specs.Satisfaction.{Structure, structure}
use Rattle.lrp_model.specs.Steps.{PlanStep, Steps, step_at, formula_at, tests_as_forms}
use Rattle.lrp_model.specs.Core.{HasElements}
use Rattle.lrp_model.specs.Plans.{plan, core_steps}
use Rattle.lrp_model.specs.declared.relations.Relation.{Relation}
use Rattle.lrp_model.specs.declared.relations.RowPoint.{RowPoint}
use Rattle.lrp_model.specs.declared.formulas.Test.{Test}
use Rattle.lrp_model.specs.declared.plans.StepKind.{StepKind}
use Rattle.lrp_model.specs.declared.plans.StepKind.TheVariants.{Scan, Leaf, Sort as SortStep, Join, Select, Union, Minus, Complement, DropTime, DropData, Extend}
use Rattle.lrp_model.proofs.Logic.{all_append}
use Rattle.lrp_plan_laws.specs.Made.{HeadStep, IsStepFormula, IsMade}
use Rattle.lrp_model.specs.TestPoints.{test_points, points, points_each}
use Rattle.lrp_plan_laws.specs.Points.{step_points}
use Rattle.lrp_plan_laws.proofs.Marks.{marked_points}
use Rattle.lrp_plan_laws.proofs.Members.{all_self, all_from}
use Rattle.lrp_plan_laws.proofs.Dropping.{Rules}
use Rattle.lrp_plan_laws.proofs.PlanBuilds.{quantified}
use Rattle.lrp_plan_laws.proofs.WrittenFront.{Any, written_any}
use Rattle.lrp_plan_laws.proofs.Fronts.{IsFront, closed, head_after}
use Rattle.lrp_plan_laws.proofs.RisingLaws.{plan_made, step_marks}

-- the points of tests are those of the tests as formulas
tests_points : (ts : List Test) → points_each (tests_as_forms ts) ≡ flat_map test_points ts
tests_points [] = refl
tests_points (t ∷ ts) = ap (λ ps. test_points t ++ ps) (tests_points ts)

-- the last of three lists is within them together
in_last : (all xs ys zs : List RowPoint) → all ≡ xs ++ (ys ++ zs) → AllByRecursion (Contains all) zs
in_last all xs ys zs e =
    let three : List RowPoint = xs ++ (ys ++ zs) in
    subst (λ ps. AllByRecursion (Contains ps) zs) (sym e) ((all_append (Contains three) ys zs).0 ((all_append (Contains three) xs (ys ++ zs)).0 (all_self three)).1).1

-- and the one in the middle
in_middle : (all xs ys zs : List RowPoint) → all ≡ xs ++ (ys ++ zs) → AllByRecursion (Contains all) ys
in_middle all xs ys zs e =
    let three : List RowPoint = xs ++ (ys ++ zs) in
    subst (λ ps. AllByRecursion (Contains ps) ys) (sym e) ((all_append (Contains three) ys zs).0 ((all_append (Contains three) xs (ys ++ zs)).0 (all_self three)).1).0

-- the points of a step's tests are its formula's
own_points : (M : Structure) (head : HeadStep) (at : ℕ → Form) (kind : StepKind) (f : Form) → IsStepFormula M head at kind f → AllByRecursion (Contains (points f)) (step_points kind)
own_points M head at (Scan name terms) f h = tt
own_points M head at (Leaf t) f h = subst (λ g. AllByRecursion (Contains (points g)) (test_points t)) (sym h) (all_self (test_points t))
own_points M head at (SortStep v s texts) f h = tt
own_points M head at (Join left right tests) f h =
    in_last (points f) (points (at left)) (points (at right)) (flat_map test_points tests) (ap points h ∙ ap (λ ps. points (at left) ++ (points (at right) ++ ps)) (tests_points tests))
own_points M head at (Select of t) f h = in_middle (points f) (points (at of)) (test_points t) [] (ap points h)
own_points M head at (Union left right) f h = tt
own_points M head at (Minus left right) f h = tt
own_points M head at (Complement of) f h = tt
own_points M head at (DropTime of v) f h = tt
own_points M head at (DropData of v) f h = tt
own_points M head at (Extend of) f h = tt

-- and the body's
pub front_points : (db : List Relation) (q : Question) (rules : Rules) (fits : List Variable → Type 0) (front : Steps) → IsFront db q rules fits front → (s : ℕ) (step : PlanStep) → step_at (closed db q front) s ≡ Some step → AllByRecursion (Contains (points q.body)) (step_points step.kind)
front_points db q rules fits front w s step e =
    let m : IsMade (structure db q) (head_after db q front) (closed db q front) s step = (plan_made db q rules fits front w s step e).made in
    let own : AllByRecursion (Contains (points step.formula)) (step_points step.kind) = own_points (structure db q) (head_after db q front) (formula_at (closed db q front)) step.kind step.formula m.formula in
    all_from (Contains (points q.body)) (points step.formula) (step_points step.kind) own (marked_points step.formula q.body db (step_marks db q rules fits front w s step e))

-- also those of a plan as it is written
pub points_known : (db : List Relation) (q : Question) → HasElements q.body → (s : ℕ) (step : PlanStep) → step_at (plan db q) s ≡ Some step → AllByRecursion (Contains (points q.body)) (step_points step.kind)
points_known db q some s step e = front_points db q quantified Any (core_steps db q) (written_any db q some) s step e
