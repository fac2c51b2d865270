-- Steps that lead to one step: each new one is made of earlier ones, and none is above the one that they lead to.
use Rattle.std.proofs.Common.{◌≡◌, ◌↔◌, ◌≤◌, ◌<◌, ◌+◌, ◌*◌, ℕ, suc, List, [], ◌∷◌, ◌++◌, length, append_assoc, append-nil, Option, Some, None, Contains, refl, sym, ap, subst, ◌∙◌, arith}
use Rattle.std.specs.Prelude.{max, map}
use Rattle.std.specs.List.{AllByRecursion}
use Rattle.lrp_model.specs.Texts.{Identifier}
use Rattle.lrp_model.specs.Formulas.{Form, test, negation, conjunction, disjunction, exists, no_forms, form}
use Rattle.lrp_model.specs.Variables.{Variable, time_variable, data_variable, variables_of_test, free}
use Rattle.lrp_model.specs.Satisfaction.{Structure}
use Rattle.lrp_model.specs.Periods.{period}
use Rattle.lrp_model.specs.Reach.{greatest, test_reach}
use Rattle.lrp_model.specs.Steps.{Steps, formula_at, reach_at, step_after, made, tests_as_forms, join, union, minus, complement}
use Rattle.lrp_model.specs.declared.formulas.Test.{Test}
use Rattle.lrp_model.specs.declared.relations.Relation.{Relation}
use Rattle.lrp_model.specs.declared.relations.Sort.TheVariants.{Time, Data}
use Rattle.lrp_model.specs.declared.plans.StepKind.{StepKind}
use Rattle.lrp_model.specs.declared.plans.StepKind.TheVariants.{Join, Select, Union, Minus, Complement, DropTime, DropData}
use Rattle.lrp_model.proofs.Logic.{all_append}
use Rattle.lrp_plan_laws.specs.Made.{HeadStep, AreAmong}
use Rattle.lrp_plan_laws.specs.Projections.{PlanGround as Ground, for_each_sort, drop_variable, drop_each, last_drop}
use Rattle.lrp_plan_laws.specs.GuardedConjunctions.{select_from}
use Rattle.lrp_plan_laws.proofs.Elements.{length_made, formula_made, formula_front, reach_made, reach_front}
use Rattle.lrp_plan_laws.proofs.Marks.{Mark, marks, marks_each}
use Rattle.lrp_plan_laws.proofs.Members.{all_self, all_later}
use Rattle.lrp_plan_laws.proofs.Names.{Names, exists_named}
use Rattle.lrp_plan_laws.proofs.Dropping.{Rules, drop_without}
use Rattle.lrp_plan_laws.proofs.Builds.{AreMade, IsUnder, AreUnder, CanMake, made_more}

-- the guard, where there is one, is under the bound
abbrev pub GuardUnder : List Relation → ℕ → List Mark → Steps → Option ℕ → Type 0
GuardUnder db b ks steps None = Unit {0}
GuardUnder db b ks steps (Some g) = IsUnder db b ks (formula_at steps g) (reach_at steps g)

-- the steps after are those before and more; step `of` is there; the new steps are made of earlier ones, neither they nor the guard are above step `of`, and their variables fit
pub record Leads (M : Structure) (head : HeadStep) (rules : Rules) (fits : List Variable → Type 0) (before : Steps) (guard : Option ℕ) (after : Steps) (of : ℕ) : Type 0 where
  pub more : Steps
  pub is : after ≡ before ++ more
  pub first : 0 < of
  pub there : of ≤ length after
  pub made : AreMade M head rules before → AreMade M head rules after
  pub under : (b : ℕ) (ks : List Mark) → IsUnder M.relations b ks (formula_at after of) (reach_at after of) → GuardUnder M.relations b ks before guard × AreUnder M.relations b ks more
  pub fitting : AllByRecursion (λ step. fits (free step.formula)) more

module _ (M : Structure) (head : HeadStep) (rules : Rules) (fits : List Variable → Type 0) where
  -- a guard leads to itself
  pub guard_leads : (steps : Steps) (g : ℕ) → 0 < g → g ≤ length steps → Leads M head rules fits steps (Some g) steps g
  guard_leads steps g first there = record { more = []; is = sym (append-nil steps); first = first; there = there; made = λ h. h; under = λ b ks u. (u, tt); fitting = tt }

  -- an earlier step's formula stands
  pub kept_formula : (before after : Steps) (guard : Option ℕ) (of i : ℕ) → Leads M head rules fits before guard after of → i ≤ length before → formula_at after i ≡ formula_at before i
  kept_formula before after guard of i l le = ap (λ s. formula_at s i) l.is ∙ formula_front before l.more i le

  -- and its reach
  pub kept_reach : (before after : Steps) (guard : Option ℕ) (of i : ℕ) → Leads M head rules fits before guard after of → i ≤ length before → reach_at after i ≡ reach_at before i
  kept_reach before after guard of i l le = ap (λ s. reach_at s i) l.is ∙ reach_front before l.more i le

  -- one step more
  one_more : (before steps : Steps) (guard : Option ℕ) (kind : StepKind) (f : Form) (more : Steps) → steps ≡ before ++ more → (AreMade M head rules before → AreMade M head rules steps) → AllByRecursion (λ step. fits (free step.formula)) more
      → ((b : ℕ) (ks : List Mark) → IsUnder M.relations b ks f (step_after M kind f steps).reach → GuardUnder M.relations b ks before guard × AreUnder M.relations b ks more)
      → CanMake M head rules steps kind f → fits (free f) → Leads M head rules fits before guard (made M kind f steps) (length (made M kind f steps))
  one_more before steps guard kind f more is old fit low can good =
      let e : length (made M kind f steps) ≡ suc (length steps) = length_made M kind f steps in
      record {
        more = more ++ step_after M kind f steps ∷ [];
        is = ap (λ s. s ++ step_after M kind f steps ∷ []) is ∙ append_assoc before more (step_after M kind f steps ∷ []);
        first = omega arith;
        there = omega arith;
        made = λ h. made_more M head rules steps kind f can (old h);
        under = λ b ks last.
            let new : IsUnder M.relations b ks f (step_after M kind f steps).reach =
            (subst (λ r. r ≤ b) (reach_made M kind f steps) last.0, subst (λ g. AllByRecursion (Contains ks) (marks g M.relations)) (formula_made M kind f steps) last.1) in
            let l = low b ks new in
            (l.0, (all_append (λ step. IsUnder M.relations b ks step.formula step.reach) more (step_after M kind f steps ∷ [])).1 (l.1, (new, tt)));
        fitting = (all_append (λ step. fits (free step.formula)) more (step_after M kind f steps ∷ [])).1 (fit, (good, tt));
      }

  -- a step that reads none
  pub first_leads : (steps : Steps) (kind : StepKind) (f : Form) → CanMake M head rules steps kind f → fits (free f) → Leads M head rules fits steps None (made M kind f steps) (length (made M kind f steps))
  first_leads steps kind f can good = one_more steps steps None kind f [] (sym (append-nil steps)) (λ h. h) tt (λ b ks new. (tt, tt)) can good

  -- a step that reads the one that others lead to
  pub next_leads : (before steps : Steps) (guard : Option ℕ) (of : ℕ) (kind : StepKind) (f : Form) → Leads M head rules fits before guard steps of
      → ((b : ℕ) (ks : List Mark) → IsUnder M.relations b ks f (step_after M kind f steps).reach → IsUnder M.relations b ks (formula_at steps of) (reach_at steps of))
      → CanMake M head rules steps kind f → fits (free f) → Leads M head rules fits before guard (made M kind f steps) (length (made M kind f steps))
  next_leads before steps guard of kind f l low can good = one_more before steps guard kind f l.more l.is l.made l.fitting (λ b ks new. l.under b ks (low b ks new)) can good

  -- a step that reads the two that others lead to, of which the second go on from the first
  pub both_leads : (before mid steps : Steps) (guard other : Option ℕ) (n m : ℕ) (kind : StepKind) (f : Form) → Leads M head rules fits before guard mid n → Leads M head rules fits mid other steps m
      → ((b : ℕ) (ks : List Mark) → IsUnder M.relations b ks f (step_after M kind f steps).reach → IsUnder M.relations b ks (formula_at steps n) (reach_at steps n) × IsUnder M.relations b ks (formula_at steps m) (reach_at steps m))
      → CanMake M head rules steps kind f → fits (free f) → Leads M head rules fits before guard (made M kind f steps) (length (made M kind f steps))
  both_leads before mid steps guard other n m kind f l k low can good =
      one_more before steps guard kind f (l.more ++ k.more) (k.is ∙ ap (λ s. s ++ k.more) l.is ∙ append_assoc before l.more k.more) (λ h. k.made (l.made h))
      ((all_append (λ step. fits (free step.formula)) l.more k.more).1 (l.fitting, k.fitting))
      (λ b ks new.
      let two = low b ks new in
      let first : IsUnder M.relations b ks (formula_at mid n) (reach_at mid n) =
      (subst (λ x. x ≤ b) (kept_reach mid steps other m n k l.there) two.0.0, subst (λ g. AllByRecursion (Contains ks) (marks g M.relations)) (kept_formula mid steps other m n k l.there) two.0.1) in
      let a = l.under b ks first in
      (a.0, (all_append (λ step. IsUnder M.relations b ks step.formula step.reach) l.more k.more).1 (a.1, (k.under b ks two.1).1)))
      can good

  -- steps that go on from the step that others lead to
  pub chain_leads : (before mid after : Steps) (guard : Option ℕ) (n m : ℕ) → Leads M head rules fits before guard mid n → Leads M head rules fits mid (Some n) after m → Leads M head rules fits before guard after m
  chain_leads before mid after guard n m l k = record {
    more = l.more ++ k.more;
    is = k.is ∙ ap (λ s. s ++ k.more) l.is ∙ append_assoc before l.more k.more;
    first = k.first;
    there = k.there;
    made = λ h. k.made (l.made h);
    under = λ b ks u.
        let x = k.under b ks u in
        let y = l.under b ks x.0 in
        (y.0, (all_append (λ step. IsUnder M.relations b ks step.formula step.reach) l.more k.more).1 (y.1, x.1));
    fitting = (all_append (λ step. fits (free step.formula)) l.more k.more).1 (l.fitting, k.fitting);
  }

  -- there are as many steps or more
  pub no_fewer : (before after : Steps) (guard : Option ℕ) (of : ℕ) → Leads M head rules fits before guard after of → length before ≤ length after
  no_fewer before after guard of l = let e : length after ≡ length (before ++ l.more) = ap length l.is in omega (arith, length-more before l.more e)
    where
      length-more : (xs ys : Steps) → length after ≡ length (xs ++ ys) → length xs ≤ length after
      length-more xs ys e = let q = long xs ys in omega (arith, q, e)
        where
          long : (xs ys : Steps) → length xs ≤ length (xs ++ ys)
          long [] ys = omega arith
          long (x ∷ xs) ys = let h : length xs ≤ length (xs ++ ys) = long xs ys in omega arith

  -- ---- each kind of step

  -- a `select` of a step
  pub select_leads : (before steps : Steps) (guard : Option ℕ) (of : ℕ) (t : Test) → Leads M head rules fits before guard steps of → AreAmong (variables_of_test t) (free (formula_at steps of))
      → fits (free (conjunction (form (formula_at steps of) (form (test t) no_forms)))) → Leads M head rules fits before guard (select_from of t M steps) (length (select_from of t M steps))
  select_leads before steps guard of t l known good =
      let a : Form = formula_at steps of in
      let f : Form = conjunction (form a (form (test t) no_forms)) in
      let low : 0 < of = l.first in
      let high : of ≤ length steps = l.there in
      next_leads before steps guard of (Select of t) f l
      (λ b ks new. (let r : max (reach_at steps of) (test_reach t) + period M.relations f ≤ b = new.0 in omega arith, ((all_append (Contains ks) (marks a M.relations) (marks_each (form (test t) no_forms) M.relations)).0 new.1).0))
      (record { operands = ((omega arith, omega arith), tt); formula = refl; drop = tt; variables = known }) good

  -- a `join` of a step and the last one, with tests
  pub join_leads : (before mid steps : Steps) (guard other : Option ℕ) (n : ℕ) (ts : List Test) → Leads M head rules fits before guard mid n → Leads M head rules fits mid other steps (length steps)
      → AllByRecursion (λ t. AreAmong (variables_of_test t) (free (formula_at steps n) ++ free (formula_at steps (length steps)))) ts
      → fits (free (conjunction (form (formula_at steps n) (form (formula_at steps (length steps)) (tests_as_forms ts))))) → Leads M head rules fits before guard (join n ts M steps) (length (join n ts M steps))
  join_leads before mid steps guard other n ts l k known good =
      let a : Form = formula_at steps n in
      let c : Form = formula_at steps (length steps) in
      let f : Form = conjunction (form a (form c (tests_as_forms ts))) in
      let low : 0 < n = l.first in
      let high : n ≤ length mid = l.there in
      let more : length mid ≤ length steps = no_fewer mid steps other (length steps) k in
      let some : 0 < length steps = k.first in
      both_leads before mid steps guard other n (length steps) (Join n (length steps) ts) f l k
      (λ b ks new.
      let r : max (reach_at steps n) (max (reach_at steps (length steps)) (greatest (map test_reach ts))) + period M.relations f ≤ b = new.0 in
      let x = (all_append (Contains ks) (marks a M.relations) (marks_each (form c (tests_as_forms ts)) M.relations)).0 new.1 in
      let y = (all_append (Contains ks) (marks c M.relations) (marks_each (tests_as_forms ts) M.relations)).0 x.1 in
      ((omega arith, x.0), (omega arith, y.0)))
      (record { operands = ((omega arith, omega arith), ((omega arith, omega arith), tt)); formula = refl; drop = tt; variables = known }) good

  -- a `union` of a step and the last one
  pub union_leads : (before mid steps : Steps) (guard other : Option ℕ) (n : ℕ) → Leads M head rules fits before guard mid n → Leads M head rules fits mid other steps (length steps)
      → fits (free (disjunction (form (formula_at steps n) (form (formula_at steps (length steps)) no_forms)))) → Leads M head rules fits before guard (union n M steps) (length (union n M steps))
  union_leads before mid steps guard other n l k good =
      let a : Form = formula_at steps n in
      let c : Form = formula_at steps (length steps) in
      let f : Form = disjunction (form a (form c no_forms)) in
      let low : 0 < n = l.first in
      let high : n ≤ length mid = l.there in
      let more : length mid ≤ length steps = no_fewer mid steps other (length steps) k in
      let some : 0 < length steps = k.first in
      both_leads before mid steps guard other n (length steps) (Union n (length steps)) f l k
      (λ b ks new.
      let r : max (reach_at steps n) (reach_at steps (length steps)) + period M.relations f ≤ b = new.0 in
      let x = (all_append (Contains ks) (marks a M.relations) (marks_each (form c no_forms) M.relations)).0 new.1 in
      let y = (all_append (Contains ks) (marks c M.relations) []).0 x.1 in
      ((omega arith, x.0), (omega arith, y.0)))
      (record { operands = ((omega arith, omega arith), ((omega arith, omega arith), tt)); formula = refl; drop = tt; variables = tt }) good

  -- a `minus` of a step and the last one, which has no further variables
  pub minus_leads : (before mid steps : Steps) (guard other : Option ℕ) (n : ℕ) → Leads M head rules fits before guard mid n → Leads M head rules fits mid other steps (length steps)
      → AreAmong (free (formula_at steps (length steps))) (free (formula_at steps n))
      → fits (free (conjunction (form (formula_at steps n) (form (negation (formula_at steps (length steps))) no_forms)))) → Leads M head rules fits before guard (minus n M steps) (length (minus n M steps))
  minus_leads before mid steps guard other n l k known good =
      let a : Form = formula_at steps n in
      let c : Form = formula_at steps (length steps) in
      let f : Form = conjunction (form a (form (negation c) no_forms)) in
      let low : 0 < n = l.first in
      let high : n ≤ length mid = l.there in
      let more : length mid ≤ length steps = no_fewer mid steps other (length steps) k in
      let some : 0 < length steps = k.first in
      both_leads before mid steps guard other n (length steps) (Minus n (length steps)) f l k
      (λ b ks new.
      let r : max (reach_at steps n) (reach_at steps (length steps)) + 2 * period M.relations f ≤ b = new.0 in
      let x = (all_append (Contains ks) (marks a M.relations) (marks_each (form (negation c) no_forms) M.relations)).0 new.1 in
      let y = (all_append (Contains ks) (marks c M.relations) []).0 x.1 in
      ((omega arith, x.0), (omega arith, y.0)))
      (record { operands = ((omega arith, omega arith), ((omega arith, omega arith), tt)); formula = refl; drop = tt; variables = known }) good

  -- a `complement` of the last step
  pub complement_leads : (before steps : Steps) (guard : Option ℕ) → Leads M head rules fits before guard steps (length steps) → fits (free (formula_at steps (length steps)))
      → Leads M head rules fits before guard (complement M steps) (length (complement M steps))
  complement_leads before steps guard l good =
      let a : Form = formula_at steps (length steps) in
      let some : 0 < length steps = l.first in
      next_leads before steps guard (length steps) (Complement (length steps)) (negation a) l
      (λ b ks new. (let r : reach_at steps (length steps) + 2 * period M.relations (negation a) ≤ b = new.0 in omega arith, new.1))
      (record { operands = ((omega arith, omega arith), tt); formula = refl; drop = tt; variables = tt }) good

-- ---- drops

-- the formula of a drop of a variable
abbrev pub dropped : Ground → Variable → Form → Form
dropped over (time_variable v) f = exists v Time f
dropped over (data_variable v) f = disjunction (for_each_sort over.sorts v f)

module _ (over : Ground) (head : HeadStep) (rules : Rules) (fits : List Variable → Type 0) (down : (vs ws : List Variable) → AllByRecursion (Contains ws) vs → fits ws → fits vs)
    (ruled : (v : Identifier) (f : Form) → rules.drops v f (disjunction (for_each_sort over.sorts v f))) where
  -- it names what the operand names beside the variable
  pub dropped_named : (db : List Relation) (ws : List Variable) (ks : List Mark) (v : Variable) (f : Form) → Names db (dropped over v f) ws ks ↔ Names db f (v ∷ ws) ks
  dropped_named db ws ks (time_variable v) f = exists_named db ws ks v Time f
  dropped_named db ws ks (data_variable v) f =
      let a = rules.names v f (disjunction (for_each_sort over.sorts v f)) (ruled v f) db ws ks in
      let b = exists_named db ws ks v Data f in
      ((λ h. b.0 (a.0 h)), λ h. a.1 (b.1 h))

  -- its variables are among those of the operand
  pub dropped_within : (room : List Variable) (v : Variable) (f : Form) → AllByRecursion (Contains room) (free f) → AllByRecursion (Contains room) (free (dropped over v f))
  dropped_within room v f h = ((dropped_named [] room (marks f []) v f).1 (all_later v room (free f) h, all_self (marks f []))).0

  -- one drop
  drop_leads : (before steps : Steps) (guard : Option ℕ) (of : ℕ) (v : Variable) → Leads over.structure head rules fits before guard steps of → fits (free (dropped over v (formula_at steps of)))
      → Leads over.structure head rules fits before guard (drop_variable over v of steps) (length (drop_variable over v of steps))
  drop_leads before steps guard of (time_variable v) l good =
      let low : 0 < of = l.first in
      let high : of ≤ length steps = l.there in
      next_leads over.structure head rules fits before steps guard of (DropTime of v) (exists v Time (formula_at steps of)) l
      (λ b ks new. (let r : 2 * reach_at steps of ≤ b = new.0 in omega arith, new.1))
      (record { operands = ((omega arith, omega arith), tt); formula = refl; drop = tt; variables = tt }) good
  drop_leads before steps guard of (data_variable v) l good =
      let low : 0 < of = l.first in
      let high : of ≤ length steps = l.there in
      let a : Form = formula_at steps of in
      let f : Form = disjunction (for_each_sort over.sorts v a) in
      next_leads over.structure head rules fits before steps guard of (DropData of v) f l
      (λ b ks new. (new.0, ((rules.names v a f (ruled v a) over.structure.relations (free f) ks).0 (all_self (free f), new.1)).1))
      (record { operands = ((omega arith, omega arith), tt); formula = drop_without rules v a f (ruled v a); drop = ruled v a; variables = tt }) good

  -- the formula of a drop
  drop_formula : (steps : Steps) (of : ℕ) (v : Variable) → formula_at (drop_variable over v of steps) (length (drop_variable over v of steps)) ≡ dropped over v (formula_at steps of)
  drop_formula steps of (time_variable v) = formula_made over.structure (DropTime of v) (exists v Time (formula_at steps of)) steps
  drop_formula steps of (data_variable v) = formula_made over.structure (DropData of v) (disjunction (for_each_sort over.sorts v (formula_at steps of))) steps

  -- its number
  drop_length : (steps : Steps) (of : ℕ) (v : Variable) → length (drop_variable over v of steps) ≡ suc (length steps)
  drop_length steps of (time_variable v) = length_made over.structure (DropTime of v) (exists v Time (formula_at steps of)) steps
  drop_length steps of (data_variable v) = length_made over.structure (DropData of v) (disjunction (for_each_sort over.sorts v (formula_at steps of))) steps

  -- the last of drops that follow a last step is the last step
  pub drops_last : (vs : List Variable) (of : ℕ) (steps : Steps) → of ≡ length steps → last_drop vs of (drop_each over vs of steps) ≡ length (drop_each over vs of steps)
  drops_last [] of steps e = e
  drops_last (v ∷ vs) of steps e = refl

  -- drops lead to the last of them, which names what the operand names beside the variables
  pub record Drops (before steps : Steps) (guard : Option ℕ) (of : ℕ) (vs : List Variable) (room : List Variable) : Type 0 where
    pub led : Leads over.structure head rules fits before guard (drop_each over vs of steps) (last_drop vs of (drop_each over vs of steps))
    pub names : (db : List Relation) (ws : List Variable) (ks : List Mark) → Names db (formula_at (drop_each over vs of steps) (last_drop vs of (drop_each over vs of steps))) ws ks ↔ Names db (formula_at steps of) (vs ++ ws) ks
    pub within : AllByRecursion (Contains room) (free (formula_at (drop_each over vs of steps) (last_drop vs of (drop_each over vs of steps))))

  pub drops : (before steps : Steps) (guard : Option ℕ) (of : ℕ) (vs : List Variable) (room : List Variable) → Leads over.structure head rules fits before guard steps of → fits room → AllByRecursion (Contains room) (free (formula_at steps of))
      → Drops before steps guard of vs room
  drops before steps guard of [] room l roomy within = record { led = l; names = λ db ws ks. ((λ h. h), λ h. h); within = within }
  drops before steps guard of (v ∷ vs) room l roomy within =
      let after : Steps = drop_variable over v of steps in
      let f : Form = dropped over v (formula_at steps of) in
      let e : suc (length steps) ≡ length after = sym (drop_length steps of v) in
      let same : formula_at after (suc (length steps)) ≡ f = ap (formula_at after) e ∙ drop_formula steps of v in
      let inside : AllByRecursion (Contains room) (free f) = dropped_within room v (formula_at steps of) within in
      let k : Leads over.structure head rules fits before guard after (suc (length steps)) =
      subst (Leads over.structure head rules fits before guard after) (sym e) (drop_leads before steps guard of v l (down (free f) room inside roomy)) in
      let d : Drops before after guard (suc (length steps)) vs room = drops before after guard (suc (length steps)) vs room k roomy (subst (λ g. AllByRecursion (Contains room) (free g)) (sym same) inside) in
      let all : Steps = drop_each over vs (suc (length steps)) after in
      let last : last_drop vs (suc (length steps)) all ≡ length all = drops_last vs (suc (length steps)) after e in
      record {
        led = subst (Leads over.structure head rules fits before guard all) last d.led;
        names = λ db ws ks.
            let n : Names db (formula_at all (length all)) ws ks ↔ Names db (formula_at after (suc (length steps))) (vs ++ ws) ks = subst (λ i. Names db (formula_at all i) ws ks ↔ Names db (formula_at after (suc (length steps))) (vs ++ ws) ks) last (d.names db ws ks) in
            let m : Names db (formula_at after (suc (length steps))) (vs ++ ws) ks ↔ Names db (formula_at steps of) (v ∷ (vs ++ ws)) ks = subst (λ g. Names db g (vs ++ ws) ks ↔ Names db (formula_at steps of) (v ∷ (vs ++ ws)) ks) (sym same) (dropped_named db (vs ++ ws) ks v (formula_at steps of)) in
            ((λ h. m.0 (n.0 h)), λ h. n.1 (m.1 h));
        within = subst (λ i. AllByRecursion (Contains room) (free (formula_at all i))) last d.within;
      }
