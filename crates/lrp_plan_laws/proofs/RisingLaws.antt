-- Periods and reaches rise along a plan, up to those of the query.
use Rattle.std.proofs.Common.{◌≡◌, ◌↔◌, ◌≤◌, ◌<◌, ◌+◌, ◌*◌, ℕ, zero, suc, List, [], ◌∷◌, ◌++◌, length, append_assoc, append-nil, Bool, true, false, Option, Some, None, unwrap_or, option_map, slice_get, flat_map, Contains, refl, sym, ap, subst, ◌∙◌, arith}
use Rattle.std.specs.Prelude.{MatchOption, max, map, nat_abs}
use Rattle.std.specs.List.{AllByRecursion}
use Rattle.lrp_model.specs.Texts.{Identifier}
use Rattle.lrp_model.specs.Formulas.{Form, Forms, Question, atom, test, conjunction, exists, no_forms, form, joined}
use Rattle.lrp_model.specs.Variables.{Variable, free, head_variables}
use Rattle.lrp_model.specs.Satisfaction.{Structure, structure}
use Rattle.lrp_model.specs.Core.{guarded, has_named_sort, column_elements, head_elements, HasElements}
use Rattle.lrp_theory.specs.Divides.{IsMultiple}
use Rattle.lrp_model.specs.Periods.{lcm_all, test_periods, periods, periods_each, period}
use Rattle.lrp_model.specs.Reach.{step_reach, greatest, test_reach}
use Rattle.lrp_model.specs.Steps.{PlanStep, Steps, step_at, formula_at, reach_at, step_after, made, tests_as_forms}
use Rattle.lrp_model.specs.Plans.{plan, core_steps, query_reach}
use Rattle.lrp_model.specs.declared.relations.Sort.{Sort}
use Rattle.lrp_model.specs.declared.relations.Sort.TheVariants.{Time, Data, Named}
use Rattle.lrp_model.specs.declared.relations.Column.{Column}
use Rattle.lrp_model.specs.declared.relations.Relation.{Relation}
use Rattle.lrp_model.specs.declared.formulas.Test.{Test}
use Rattle.lrp_model.specs.declared.formulas.Test.TheVariants.{Compare, Member, Equal}
use Rattle.lrp_model.specs.declared.plans.StepKind.{StepKind}
use Rattle.lrp_model.specs.declared.plans.StepKind.TheVariants.{Scan, Leaf, Sort as SortStep, Join, Select, Union, Minus, Complement, DropTime, DropData, Extend}
use Rattle.lrp_model.proofs.Logic.{all_append}
use Rattle.lrp_plan_laws.specs.Made.{HeadStep, IsEarlier, operands, IsStepFormula, IsMade}
use Rattle.lrp_plan_laws.specs.Rising.{period_at, HasPeriods, named_periods, natural_test_period, KeepsPeriod, IsRising}
use Rattle.lrp_plan_laws.proofs.Elements.{found, within, formula_front, step_made, reach_made, period_made}
use Rattle.lrp_plan_laws.proofs.Names.{Names, names_self}
use Rattle.lrp_plan_laws.proofs.Marks.{Mark, marks, marked_periods}
use Rattle.lrp_theory.proofs.Multiples.{multiple_le}
use Rattle.lrp_plan_laws.proofs.PeriodLaws.{lcm_all_is, lcm_positive, lcm_part, lcm_alone, lcm_same, lcm_one}
use Rattle.lrp_plan_laws.proofs.Builds.{AreMade, AreUnder, IsUnder, LastIsUnder, made_more}
use Rattle.lrp_plan_laws.proofs.Dropping.{Rules, IsDrop}
use Rattle.lrp_plan_laws.proofs.PlanBuilds.{quantified}
use Rattle.lrp_plan_laws.proofs.WrittenFront.{Any, written_any}
use Rattle.lrp_plan_laws.proofs.Fronts.{IsFront, closed, head_after}
use Rattle.lrp_plan_laws.proofs.CoreNames.{core_named, guarded_within}
use Rattle.lrp_plan_laws.proofs.Members.{all_of, all_self, all_from, all_map}

-- each step of a plan is made of earlier ones
pub plan_made : (db : List Relation) (q : Question) (rules : Rules) (fits : List Variable → Type 0) (front : Steps) → IsFront db q rules fits front → AreMade (structure db q) (head_after db q front) rules (closed db q front)
plan_made db q rules fits front w =
    made_more (structure db q) (head_after db q front) rules front (Extend (length front)) (guarded (has_named_sort db) q.head q.body)
    (record { operands = ((let g : 0 < length front = w.grown in omega arith, omega arith), tt); formula = (refl, refl); drop = tt; variables = tt })
    w.made

-- the last step is `head`
pub last_made : (db : List Relation) (q : Question) (front : Steps) → MatchOption (step_at (closed db q front) (length (closed db q front))) ⊥ (λ step. (step.kind ≡ Extend (length front)) × (step.formula ≡ guarded (has_named_sort db) q.head q.body))
last_made db q front =
    subst (λ o. MatchOption o ⊥ (λ step. (step.kind ≡ Extend (length front)) × (step.formula ≡ guarded (has_named_sort db) q.head q.body)))
    (sym (step_made (structure db q) (Extend (length front)) (guarded (has_named_sort db) q.head q.body) front)) (refl, refl)

-- the formula of the last core step names what `head` names
pub last_names : (db : List Relation) (q : Question) (rules : Rules) (fits : List Variable → Type 0) (front : Steps) → IsFront db q rules fits front → (ws : List Variable) (ks : List Mark)
    → Names db (formula_at front (length front)) ws ks ↔ Names db (guarded (has_named_sort db) q.head q.body) ws ks
last_names db q rules fits front w ws ks =
    let a = w.names ws ks in
    let b = core_named (has_named_sort db) q db ws ks in
    ((λ n. b.0 (a.0 n)), λ n. a.1 (b.1 n))

-- `head` names the periods and the atoms of the body, and no others
head_marks : (db : List Relation) (q : Question) → AllByRecursion (Contains (marks q.body db)) (marks (guarded (has_named_sort db) q.head q.body) db)
head_marks db q =
    let room : List Variable = head_variables q.head ++ free q.body in
    let two = (all_append (Contains room) (head_variables q.head) (free q.body)).0 (all_self room) in
    (guarded_within (has_named_sort db) q db room (marks q.body db) two.0 (two.1, all_self (marks q.body db))).1

-- so the periods of `head` are the body's
head_periods : (db : List Relation) (q : Question) → AllByRecursion (Contains (periods q.body db)) (periods (guarded (has_named_sort db) q.head q.body) db)
head_periods db q = marked_periods (guarded (has_named_sort db) q.head q.body) q.body db (head_marks db q)

-- the last core step names the periods and the atoms of the body
last_marks : (db : List Relation) (q : Question) (rules : Rules) (fits : List Variable → Type 0) (front : Steps) → IsFront db q rules fits front → AllByRecursion (Contains (marks q.body db)) (marks (formula_at front (length front)) db)
last_marks db q rules fits front w =
    let f : Form = guarded (has_named_sort db) q.head q.body in
    ((last_names db q rules fits front w (free f) (marks q.body db)).1 (all_self (free f), head_marks db q)).1

-- so its periods are the body's
last_periods : (db : List Relation) (q : Question) (rules : Rules) (fits : List Variable → Type 0) (front : Steps) → IsFront db q rules fits front → AllByRecursion (Contains (periods q.body db)) (periods (formula_at front (length front)) db)
last_periods db q rules fits front w = marked_periods (formula_at front (length front)) q.body db (last_marks db q rules fits front w)

-- and `head` names those of the last core step, and the other way round
last_of_head : (db : List Relation) (q : Question) (rules : Rules) (fits : List Variable → Type 0) (front : Steps) → IsFront db q rules fits front → AllByRecursion (Contains (periods (formula_at front (length front)) db)) (periods (guarded (has_named_sort db) q.head q.body) db)
last_of_head db q rules fits front w =
    let f : Form = guarded (has_named_sort db) q.head q.body in
    let a : Form = formula_at front (length front) in
    marked_periods f a db ((last_names db q rules fits front w (free a) (marks a db)).0 (names_self db a)).1

-- the last core step names the periods of `head`
head_of_last : (db : List Relation) (q : Question) (rules : Rules) (fits : List Variable → Type 0) (front : Steps) → IsFront db q rules fits front → AllByRecursion (Contains (periods (guarded (has_named_sort db) q.head q.body) db)) (periods (formula_at front (length front)) db)
head_of_last db q rules fits front w =
    let f : Form = guarded (has_named_sort db) q.head q.body in
    let a : Form = formula_at front (length front) in
    marked_periods a f db ((last_names db q rules fits front w (free f) (marks f db)).1 (names_self db f)).1

-- no step is above the query: its reach is at most the last one's, and its periods and atoms are the body's
pub plan_under : (db : List Relation) (q : Question) (rules : Rules) (fits : List Variable → Type 0) (front : Steps) → IsFront db q rules fits front → AreUnder db (query_reach (closed db q front)) (marks q.body db) (closed db q front)
plan_under db q rules fits front w =
    let steps : Steps = front in
    let M : Structure = structure db q in
    let f : Form = guarded (has_named_sort db) q.head q.body in
    let b : ℕ = query_reach (closed db q front) in
    let e : b ≡ reach_at steps (length steps) = reach_made M (Extend (length steps)) f steps in
    let last : LastIsUnder db b (marks q.body db) steps = ((omega arith), last_marks db q rules fits front w) in
    (all_append (λ step. IsUnder db b (marks q.body db) step.formula step.reach) steps (step_after M (Extend (length steps)) f steps ∷ [])).1
    (w.under b (marks q.body db) last, ((omega arith, head_marks db q), tt))

-- ---- steps by their numbers

-- what holds of each element holds of the one at a place
all_get : {X : Type 0} (p : X → Type 0) (xs : List X) (i : ℕ) (x : X) → slice_get xs i ≡ Some x → AllByRecursion p xs → p x
all_get p [] i x e h = cc
all_get p (y ∷ ys) zero x e h = let d : y ≡ x = cc in subst p d h.0
all_get p (y ∷ ys) (suc i) x e h = all_get p ys i x e h.1

-- what holds of each step holds of step s
pub all_step : (p : PlanStep → Type 0) (steps : Steps) (s : ℕ) (step : PlanStep) → step_at steps s ≡ Some step → AllByRecursion p steps → p step
all_step p steps zero step e h = cc
all_step p steps (suc i) step e h = all_get p steps i step e h

-- a step that is there has a number up to the length
pub step_within : (steps : Steps) (s : ℕ) (step : PlanStep) → step_at steps s ≡ Some step → s ≤ length steps
step_within steps zero step e = cc
step_within steps (suc i) step e = let l : i < length steps = within steps i step e in omega arith

-- and for each such number there is a step
pub step_found : (steps : Steps) (s : ℕ) → 0 < s → s ≤ length steps → (step : PlanStep) × (step_at steps s ≡ Some step)
step_found steps zero h k = absurd (omega arith)
step_found steps (suc i) h k = found steps i (omega arith)

-- ---- a period is a multiple of those of the steps that are read

-- a list of three parts has the first two
in_three : (ks xs ys zs : List ℕ) → ks ≡ xs ++ (ys ++ zs) → AllByRecursion (Contains ks) xs × AllByRecursion (Contains ks) ys
in_three ks xs ys zs e =
    let all : List ℕ = xs ++ (ys ++ zs) in
    let a = (all_append (Contains all) xs (ys ++ zs)).0 (all_self all) in
    let b = (all_append (Contains all) ys zs).0 a.1 in
    (subst (λ ls. AllByRecursion (Contains ls) xs) (sym e) a.0, subst (λ ls. AllByRecursion (Contains ls) ys) (sym e) b.0)

-- the formula of a drop of texts has the periods of its operand, and no others
drop_periods : (rules : Rules) (v : Identifier) (f g : Form) → rules.drops v f g → (db : List Relation) → AllByRecursion (Contains (periods g db)) (periods f db) × AllByRecursion (Contains (periods f db)) (periods g db)
drop_periods rules v f g d db = (
  marked_periods f g db ((rules.names v f g d db (free g) (marks g db)).0 (names_self db g)).1,
  marked_periods g f db ((rules.names v f g d db (free (exists v Data f)) (marks f db)).1 (names_self db (exists v Data f))).1,
)

-- so it has its period
drop_period : (rules : Rules) (v : Identifier) (f g : Form) → rules.drops v f g → (db : List Relation) → AllByRecursion (λ k. 1 ≤ k) (periods g db) → period db g ≡ period db f
drop_period rules v f g d db low =
    let p = drop_periods rules v f g d db in
    lcm_same (periods g db) (periods f db) low (all_from (λ k. 1 ≤ k) (periods g db) (periods f db) p.0 low) p.1 p.0

-- a formula names the periods of the formulas that it is made of
read_periods : (M : Structure) (head : HeadStep) (rules : Rules) (at : ℕ → Form) → AllByRecursion (Contains (periods head.formula M.relations)) (periods (at head.of) M.relations)
    → (kind : StepKind) (f : Form) → IsStepFormula M head at kind f → IsDrop rules at kind f → AllByRecursion (λ l. AllByRecursion (Contains (periods f M.relations)) (periods (at l) M.relations)) (operands kind)
read_periods M head rules at top (Scan name terms) f h d = tt
read_periods M head rules at top (Leaf t) f h d = tt
read_periods M head rules at top (SortStep v s texts) f h d = tt
read_periods M head rules at top (Join left right tests) f h d =
    let x = in_three (periods f M.relations) (periods (at left) M.relations) (periods (at right) M.relations) (periods_each (tests_as_forms tests) M.relations) (ap (λ g. periods g M.relations) h) in (x.0, (x.1, tt))
read_periods M head rules at top (Select of t) f h d = ((in_three (periods f M.relations) (periods (at of) M.relations) (periods (test t) M.relations) [] (ap (λ g. periods g M.relations) h)).0, tt)
read_periods M head rules at top (Union left right) f h d = let x = in_three (periods f M.relations) (periods (at left) M.relations) (periods (at right) M.relations) [] (ap (λ g. periods g M.relations) h) in (x.0, (x.1, tt))
read_periods M head rules at top (Minus left right) f h d = let x = in_three (periods f M.relations) (periods (at left) M.relations) (periods (at right) M.relations) [] (ap (λ g. periods g M.relations) h) in (x.0, (x.1, tt))
read_periods M head rules at top (Complement of) f h d = (subst (λ ks. AllByRecursion (Contains ks) (periods (at of) M.relations)) (sym (ap (λ g. periods g M.relations) h)) (all_self (periods (at of) M.relations)), tt)
read_periods M head rules at top (DropTime of v) f h d = (subst (λ ks. AllByRecursion (Contains ks) (periods (at of) M.relations)) (sym (ap (λ g. periods g M.relations) h)) (all_self (periods (at of) M.relations)), tt)
read_periods M head rules at top (DropData of v) f h d = ((drop_periods rules v (at of) f d M.relations).0, tt)
read_periods M head rules at top (Extend of) f h d =
    (subst (λ g. AllByRecursion (Contains (periods g M.relations)) (periods (at of) M.relations)) (sym h.1) (subst (λ l. AllByRecursion (Contains (periods head.formula M.relations)) (periods (at l) M.relations)) (sym h.0) top), tt)

-- the periods of tests are those that the tests as formulas name
tests_periods : (ts : List Test) (db : List Relation) → periods_each (tests_as_forms ts) db ≡ flat_map test_periods ts
tests_periods [] db = refl
tests_periods (t ∷ ts) db = ap (λ ks. test_periods t ++ ks) (tests_periods ts db)

-- and the third
in_last : (ks xs ys zs : List ℕ) → ks ≡ xs ++ (ys ++ zs) → AllByRecursion (Contains ks) zs
in_last ks xs ys zs e =
    let all : List ℕ = xs ++ (ys ++ zs) in
    subst (λ ls. AllByRecursion (Contains ls) zs) (sym e) ((all_append (Contains all) ys zs).0 ((all_append (Contains all) xs (ys ++ zs)).0 (all_self all)).1).1

-- the periods that a step itself names are named by its formula
own_periods : (M : Structure) (head : HeadStep) (at : ℕ → Form) (kind : StepKind) (f : Form) → IsStepFormula M head at kind f → AllByRecursion (Contains (periods f M.relations)) (named_periods M.relations kind)
own_periods M head at (Scan name terms) f h = subst (λ g. AllByRecursion (Contains (periods g M.relations)) (periods (atom name terms) M.relations)) (sym h) (all_self (periods (atom name terms) M.relations))
own_periods M head at (Leaf t) f h = subst (λ g. AllByRecursion (Contains (periods g M.relations)) (test_periods t)) (sym h) (all_self (test_periods t))
own_periods M head at (SortStep v s texts) f h = tt
own_periods M head at (Join left right tests) f h =
    in_last (periods f M.relations) (periods (at left) M.relations) (periods (at right) M.relations) (flat_map test_periods tests)
    (ap (λ g. periods g M.relations) h ∙ ap (λ ks. periods (at left) M.relations ++ (periods (at right) M.relations ++ ks)) (tests_periods tests M.relations))
own_periods M head at (Select of t) f h = (in_three (periods f M.relations) (periods (at of) M.relations) (test_periods t) [] (ap (λ g. periods g M.relations) h)).1
own_periods M head at (Union left right) f h = tt
own_periods M head at (Minus left right) f h = tt
own_periods M head at (Complement of) f h = tt
own_periods M head at (DropTime of v) f h = tt
own_periods M head at (DropData of v) f h = tt
own_periods M head at (Extend of) f h = tt

-- the period of a test, and the periods of a step that meets no second one
test_alone : (db : List Relation) (t : Test) → AllByRecursion (λ k. 1 ≤ k) (periods (test t) db) → period db (test t) ≡ natural_test_period t
test_alone db (Compare left op right) h = refl
test_alone db (Member term point) h = lcm_one (nat_abs point.period) h.0
test_alone db (Equal left right) h = refl

-- a step that meets no second one keeps the period
period_kept : (M : Structure) (head : HeadStep) (rules : Rules) (at : ℕ → Form) (periods_at : ℕ → ℕ) → ((l : ℕ) → periods_at l ≡ period M.relations (at l)) → period M.relations head.formula ≡ period M.relations (at head.of)
    → (kind : StepKind) (f : Form) → IsStepFormula M head at kind f → IsDrop rules at kind f → AllByRecursion (λ k. 1 ≤ k) (periods f M.relations) → KeepsPeriod periods_at (period M.relations f) kind
period_kept M head rules at periods_at same top (Scan name terms) f h d low = tt
period_kept M head rules at periods_at same top (Leaf t) f h d low = ap (period M.relations) h ∙ test_alone M.relations t (subst (λ g. AllByRecursion (λ k. 1 ≤ k) (periods g M.relations)) h low)
period_kept M head rules at periods_at same top (SortStep v s texts) f h d low = ap (period M.relations) h.0
period_kept M head rules at periods_at same top (Join left right tests) f h d low = tt
period_kept M head rules at periods_at same top (Select of t) f h d low = tt
period_kept M head rules at periods_at same top (Union left right) f h d low = tt
period_kept M head rules at periods_at same top (Minus left right) f h d low = tt
period_kept M head rules at periods_at same top (Complement of) f h d low = ap (period M.relations) h ∙ sym (same of)
period_kept M head rules at periods_at same top (DropTime of v) f h d low = ap (period M.relations) h ∙ sym (same of)
period_kept M head rules at periods_at same top (DropData of v) f h d low = drop_period rules v (at of) f d M.relations low ∙ sym (same of)
period_kept M head rules at periods_at same top (Extend of) f h d low = ap (period M.relations) h.1 ∙ top ∙ ap (λ l. period M.relations (at l)) (sym h.0) ∙ sym (same of)

-- the period of a step is that of its formula, also where there is no such step
period_of : (M : Structure) (head : HeadStep) (rules : Rules) (steps : Steps) → AreMade M head rules steps → (l : ℕ) → period_at steps l ≡ period M.relations (formula_at steps l)
period_of M head rules steps made l = by_step (step_at steps l) refl
  where
    by_step : (o : Option PlanStep) → step_at steps l ≡ o → unwrap_or (option_map (λ step. step.period) o) 1 ≡ period M.relations (unwrap_or (option_map (λ step. step.formula) o) (conjunction no_forms))
    by_step None e = refl
    by_step (Some step) e = (made l step e).made.period

-- ---- a reach is at least the reaches of the steps that are read

-- a reach is at least those of the steps that are read
read_reaches : (db : List Relation) (at : ℕ → ℕ) (K r : ℕ) (kind : StepKind) → r ≡ step_reach db at K kind → AllByRecursion (λ l. at l ≤ r) (operands kind)
read_reaches db at K r (Scan name terms) e = tt
read_reaches db at K r (Leaf t) e = tt
read_reaches db at K r (SortStep v s texts) e = tt
read_reaches db at K r (Join left right tests) e = let h : r ≡ max (at left) (max (at right) (greatest (map test_reach tests))) + K = e in (omega arith, (omega arith, tt))
read_reaches db at K r (Select of t) e = let h : r ≡ max (at of) (test_reach t) + K = e in (omega arith, tt)
read_reaches db at K r (Union left right) e = let h : r ≡ max (at left) (at right) + K = e in (omega arith, (omega arith, tt))
read_reaches db at K r (Minus left right) e = let h : r ≡ max (at left) (at right) + 2 * K = e in (omega arith, (omega arith, tt))
read_reaches db at K r (Complement of) e = let h : r ≡ at of + 2 * K = e in (omega arith, tt)
read_reaches db at K r (DropTime of v) e = let h : r ≡ 2 * at of = e in (omega arith, tt)
read_reaches db at K r (DropData of v) e = let h : r ≡ at of = e in (omega arith, tt)
read_reaches db at K r (Extend of) e = let h : r ≡ at of = e in (omega arith, tt)

-- a step's reach grows with those of the steps that it reads
pub reach_grows : (db : List Relation) (at more : ℕ → ℕ) (K : ℕ) (kind : StepKind) → AllByRecursion (λ l. at l ≤ more l) (operands kind) → step_reach db at K kind ≤ step_reach db more K kind
reach_grows db at more K (Scan name terms) h = omega arith
reach_grows db at more K (Leaf t) h = omega arith
reach_grows db at more K (SortStep v s texts) h = omega arith
reach_grows db at more K (Join left right tests) h = let a : at left ≤ more left = h.0 in let b : at right ≤ more right = h.1.0 in omega arith
reach_grows db at more K (Select of t) h = let a : at of ≤ more of = h.0 in omega arith
reach_grows db at more K (Union left right) h = let a : at left ≤ more left = h.0 in let b : at right ≤ more right = h.1.0 in omega arith
reach_grows db at more K (Minus left right) h = let a : at left ≤ more left = h.0 in let b : at right ≤ more right = h.1.0 in omega arith
reach_grows db at more K (Complement of) h = let a : at of ≤ more of = h.0 in omega arith
reach_grows db at more K (DropTime of v) h = let a : at of ≤ more of = h.0 in omega arith
reach_grows db at more K (DropData of v) h = h.0
reach_grows db at more K (Extend of) h = h.0

-- ---- and at least the period

-- a `compare` or an `equal` has period 1, and a `point` that of its point
test_wide : (db : List Relation) (t : Test) → AllByRecursion (λ k. 1 ≤ k) (periods (test t) db) → period db (test t) ≤ test_reach t
test_wide db (Compare left op right) h = omega arith
test_wide db (Member term point) h = lcm_alone (nat_abs point.period) h.0
test_wide db (Equal left right) h = omega arith

-- the reach of a step, where those of the steps that it reads are at least their periods
step_wide : (M : Structure) (head : HeadStep) (rules : Rules) (at : ℕ → Form) (reach : ℕ → ℕ) → period M.relations head.formula ≤ period M.relations (at head.of)
    → (kind : StepKind) (f : Form) (r : ℕ) → IsStepFormula M head at kind f → IsDrop rules at kind f → AllByRecursion (λ k. 1 ≤ k) (periods f M.relations) → AllByRecursion (λ l. period M.relations (at l) ≤ reach l) (operands kind)
    → r ≡ step_reach M.relations reach (period M.relations f) kind → period M.relations f ≤ r
step_wide M head rules at reach top (Scan name terms) f r h d low below e = let g : r ≡ step_reach M.relations reach (period M.relations f) (Scan name terms) = e in omega arith
step_wide M head rules at reach top (Leaf t) f r h d low below e =
    let k : period M.relations (test t) ≤ test_reach t = test_wide M.relations t (subst (λ g. AllByRecursion (λ k. 1 ≤ k) (periods g M.relations)) h low) in
    let s : period M.relations f ≡ period M.relations (test t) = ap (period M.relations) h in
    let g : r ≡ test_reach t = e in omega arith
step_wide M head rules at reach top (SortStep v s texts) f r h d low below e = let k : period M.relations f ≡ 1 = ap (period M.relations) h.0 in let g : r ≡ 1 = e in omega arith
step_wide M head rules at reach top (Join left right tests) f r h d low below e = let g : r ≡ max (reach left) (max (reach right) (greatest (map test_reach tests))) + period M.relations f = e in omega arith
step_wide M head rules at reach top (Select of t) f r h d low below e = let g : r ≡ max (reach of) (test_reach t) + period M.relations f = e in omega arith
step_wide M head rules at reach top (Union left right) f r h d low below e = let g : r ≡ max (reach left) (reach right) + period M.relations f = e in omega arith
step_wide M head rules at reach top (Minus left right) f r h d low below e = let g : r ≡ max (reach left) (reach right) + 2 * period M.relations f = e in omega arith
step_wide M head rules at reach top (Complement of) f r h d low below e = let g : r ≡ reach of + 2 * period M.relations f = e in omega arith
step_wide M head rules at reach top (DropTime of v) f r h d low below e =
    let k : period M.relations f ≡ period M.relations (at of) = ap (period M.relations) h in let b : period M.relations (at of) ≤ reach of = below.0 in let g : r ≡ 2 * reach of = e in omega arith
step_wide M head rules at reach top (DropData of v) f r h d low below e =
    let k : period M.relations f ≡ period M.relations (at of) = drop_period rules v (at of) f d M.relations low in let b : period M.relations (at of) ≤ reach of = below.0 in let g : r ≡ reach of = e in omega arith
step_wide M head rules at reach top (Extend of) f r h d low below e =
    let k : period M.relations f ≡ period M.relations head.formula = ap (period M.relations) h.1 in
    let o : period M.relations (at of) ≡ period M.relations (at head.of) = ap (λ l. period M.relations (at l)) h.0 in
    let b : period M.relations (at of) ≤ reach of = below.0 in
    let g : r ≡ reach of = e in omega arith

-- ---- the steps of a query

-- the periods and the atoms of each step are the body's
pub step_marks : (db : List Relation) (q : Question) (rules : Rules) (fits : List Variable → Type 0) (front : Steps) → IsFront db q rules fits front → (s : ℕ) (step : PlanStep) → step_at (closed db q front) s ≡ Some step → AllByRecursion (Contains (marks q.body db)) (marks step.formula db)
step_marks db q rules fits front w s step e = (all_step (λ x. IsUnder db (query_reach (closed db q front)) (marks q.body db) x.formula x.reach) (closed db q front) s step e (plan_under db q rules fits front w)).1

module _ (db : List Relation) (q : Question) (rules : Rules) (fits : List Variable → Type 0) (front : Steps) (w : IsFront db q rules fits front) (low : HasPeriods db q) where
  -- the periods of each step are at least 1
  step_low : (s : ℕ) (step : PlanStep) → step_at (closed db q front) s ≡ Some step → AllByRecursion (λ k. 1 ≤ k) (periods step.formula db)
  step_low s step e = all_from (λ k. 1 ≤ k) (periods q.body db) (periods step.formula db) (marked_periods step.formula q.body db (step_marks db q rules fits front w s step e)) low

  -- the step before `head` is the last core step
  before_head : formula_at (closed db q front) (length front) ≡ formula_at front (length front)
  before_head = formula_front front (step_after (structure db q) (Extend (length front)) (guarded (has_named_sort db) q.head q.body) front ∷ []) (length front) (omega arith)

  -- the step before `head` names what `head` names
  top_periods : AllByRecursion (Contains (periods (guarded (has_named_sort db) q.head q.body) db)) (periods (formula_at (closed db q front) (length front)) db)
  top_periods = subst (λ g. AllByRecursion (Contains (periods (guarded (has_named_sort db) q.head q.body) db)) (periods g db)) (sym before_head) (head_of_last db q rules fits front w)

  -- `head` has the period of the step before it
  same_period : period db (guarded (has_named_sort db) q.head q.body) ≡ period db (formula_at (closed db q front) (length front))
  same_period =
      let f : Form = guarded (has_named_sort db) q.head q.body in
      let a : Form = formula_at front (length front) in
      let l : AllByRecursion (λ k. 1 ≤ k) (periods a db) = all_from (λ k. 1 ≤ k) (periods q.body db) (periods a db) (last_periods db q rules fits front w) low in
      let m : AllByRecursion (λ k. 1 ≤ k) (periods f db) = all_from (λ k. 1 ≤ k) (periods q.body db) (periods f db) (head_periods db q) low in
      subst (λ g. period db f ≡ period db g) (sym before_head) (lcm_same (periods f db) (periods a db) m l (last_of_head db q rules fits front w) (head_of_last db q rules fits front w))

  -- so the period of `head` is no greater
  top_period : period db (guarded (has_named_sort db) q.head q.body) ≤ period db (formula_at (closed db q front) (length front))
  top_period = let e : period db (guarded (has_named_sort db) q.head q.body) ≡ period db (formula_at (closed db q front) (length front)) = same_period in omega arith

  -- each step up to n has a reach of at least its period
  wide_to : (n s : ℕ) (step : PlanStep) → s ≤ n → step_at (closed db q front) s ≡ Some step → period db step.formula ≤ step.reach
  wide_to zero zero step le e = cc
  wide_to zero (suc s) step le e = absurd (omega arith)
  wide_to (suc n) s step le e =
      let m : IsMade (structure db q) (head_after db q front) (closed db q front) s step = (plan_made db q rules fits front w s step e).made in
      step_wide (structure db q) (head_after db q front) rules (formula_at (closed db q front)) (reach_at (closed db q front)) top_period step.kind step.formula step.reach m.formula (plan_made db q rules fits front w s step e).drop (step_low s step e)
      (all_map (IsEarlier s) (λ l. period db (formula_at (closed db q front) l) ≤ reach_at (closed db q front) l) (operands step.kind)
      (λ l k.
      let lt : l < s = k.1 in
      let x = step_found (closed db q front) l k.0 (let w : s ≤ length (closed db q front) = step_within (closed db q front) s step e in omega arith) in
      let h : period db x.0.formula ≤ x.0.reach = wide_to n l x.0 (omega arith) x.1 in
      subst (λ o. period db (unwrap_or (option_map (λ y. y.formula) o) (conjunction no_forms)) ≤ unwrap_or (option_map (λ y. y.reach) o) 0) (sym x.1) h)
      m.earlier)
      (subst (λ K. step.reach ≡ step_reach db (reach_at (closed db q front)) K step.kind) m.period m.reach)

  -- periods and reaches rise along a plan
  pub front_rises : (s : ℕ) (step : PlanStep) → step_at (closed db q front) s ≡ Some step → IsRising (closed db q front) db q s step
  front_rises s step e =
      let m : IsMade (structure db q) (head_after db q front) (closed db q front) s step = (plan_made db q rules fits front w s step e).made in
      let u : IsUnder db (query_reach (closed db q front)) (marks q.body db) step.formula step.reach = all_step (λ x. IsUnder db (query_reach (closed db q front)) (marks q.body db) x.formula x.reach) (closed db q front) s step e (plan_under db q rules fits front w) in
      let l : AllByRecursion (λ k. 1 ≤ k) (periods step.formula db) = step_low s step e in
      let d : IsMultiple (period db step.formula) (period db q.body) = lcm_part (periods step.formula db) (periods q.body db) low (marked_periods step.formula q.body db u.1) in
      record {
        earlier = m.earlier;
        positive = subst (λ K. 1 ≤ K) (sym m.period) (lcm_positive (periods step.formula db) l);
        wide = subst (λ K. K ≤ step.reach) (sym m.period) (wide_to s s step (omega arith) e);
        above = read_reaches db (reach_at (closed db q front)) step.period step.reach step.kind m.reach;
        multiple = all_map (λ i. AllByRecursion (Contains (periods step.formula db)) (periods (formula_at (closed db q front) i) db)) (λ i. IsMultiple (period_at (closed db q front) i) step.period) (operands step.kind)
            (λ i part. subst (IsMultiple (period_at (closed db q front) i)) (sym m.period) (subst (λ K. IsMultiple K (period db step.formula)) (sym (period_of (structure db q) (head_after db q front) rules (closed db q front) (plan_made db q rules fits front w) i)) (lcm_part (periods (formula_at (closed db q front) i) db) (periods step.formula db) l part)))
            (read_periods (structure db q) (head_after db q front) rules (formula_at (closed db q front)) top_periods step.kind step.formula m.formula (plan_made db q rules fits front w s step e).drop);
        points = all_map (Contains (periods step.formula db)) (λ k. (1 ≤ k) × IsMultiple k step.period) (named_periods db step.kind)
            (λ k part. (all_of (λ n. 1 ≤ n) (periods step.formula db) k l part, subst (IsMultiple k) (sym m.period) (all_of (λ n. IsMultiple n (period db step.formula)) (periods step.formula db) k (lcm_all_is (periods step.formula db) l).common part)))
            (own_periods (structure db q) (head_after db q front) (formula_at (closed db q front)) step.kind step.formula m.formula);
        keeps = subst (λ K. KeepsPeriod (period_at (closed db q front)) K step.kind) (sym m.period)
            (period_kept (structure db q) (head_after db q front) rules (formula_at (closed db q front)) (period_at (closed db q front)) (period_of (structure db q) (head_after db q front) rules (closed db q front) (plan_made db q rules fits front w)) same_period step.kind step.formula m.formula (plan_made db q rules fits front w s step e).drop l);
        divides = subst (λ K. IsMultiple K (period db q.body)) (sym m.period) d;
        within = subst (λ K. K ≤ period db q.body) (sym m.period) (multiple_le (period db step.formula) (period db q.body) (lcm_positive (periods q.body db) low) d);
        below = u.0;
      }

-- two lists of formulas together name the periods of both
periods_joined : (fs gs : Forms) (db : List Relation) → periods_each (joined fs gs) db ≡ periods_each fs db ++ periods_each gs db
periods_joined no_forms gs db = refl
periods_joined (form f fs) gs db = ap (λ ks. periods f db ++ ks) (periods_joined fs gs db) ∙ sym (append_assoc (periods f db) (periods_each fs db) (periods_each gs db))

-- sort elements name no period
nothing_named : (columns : List Column) (db : List Relation) → periods_each (head_elements columns) db ≡ []
nothing_named [] db = refl
nothing_named (c ∷ cs) db = periods_joined (column_elements c.sort c.name) (head_elements cs) db ∙ ap (λ ks. ks ++ periods_each (head_elements cs) db) (column_periods c.sort c.name db) ∙ nothing_named cs db
  where
    column_periods : (s : Sort) (v : Identifier) (db : List Relation) → periods_each (column_elements s v) db ≡ []
    column_periods Time v db = refl
    column_periods Data v db = refl
    column_periods (Named name) v db = refl

-- the formula of `head` names the periods of the body, in order
guarded_periods : (named : Bool) (q : Question) (db : List Relation) → periods (guarded named q.head q.body) db ≡ periods q.body db
guarded_periods false q db = refl
guarded_periods true q db = periods_joined (head_elements q.head) (form q.body no_forms) db ∙ ap (λ ks. ks ++ (periods q.body db ++ [])) (nothing_named q.head db) ∙ append-nil (periods q.body db)

-- the last step has the period of the query
pub last_period : (db : List Relation) (q : Question) (front : Steps) → period_at (closed db q front) (length (closed db q front)) ≡ period db q.body
last_period db q front =
    let f : Form = guarded (has_named_sort db) q.head q.body in
    period_made (structure db q) (Extend (length front)) f front ∙ ap lcm_all (guarded_periods (has_named_sort db) q db)

-- periods and reaches rise along the plan of a query as it is written
pub rises : (db : List Relation) (q : Question) → HasElements q.body → HasPeriods db q → (s : ℕ) (step : PlanStep) → step_at (plan db q) s ≡ Some step → IsRising (plan db q) db q s step
rises db q some low s step e = front_rises db q quantified Any (core_steps db q) (written_any db q some) low s step e
