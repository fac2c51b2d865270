-- An `or`: its elements united one by one.
use Rattle.std.proofs.Common.{◌≡◌, ◌≤◌, ◌+◌, ℕ, suc, List, [], ◌∷◌, ◌++◌, length, take, get_or, Option, Some, None, refl, sym, ap, subst, ◌∙◌}
use Rattle.std.proofs.lemmas.List.{take_more}
use Rattle.lrp_core.specs.Cores.{core_of, cores_of}
use Rattle.lrp_core.specs.declared.core_forms.Core.{Core}
use Rattle.lrp_core.proofs.CoreViews.{cores_of-append}
use Rattle.lrp_model.specs.Formulas.{Form, Forms, no_forms, form, joined}
use Rattle.lrp_model.specs.Satisfaction.{Structure, Satisfies}
use Rattle.lrp_model.specs.Core.{IsCore, AreCore}
use Rattle.lrp_theory.specs.Divides.{IsCommon}
use Rattle.lrp_model.specs.Periods.{periods, periods_each}
use Rattle.lrp_model.specs.Steps.{Steps, union}
use Rattle.lrp_model.specs.Plans.{plan_of, plan_of_some, plan_of_others}
use Rattle.lrp_plan_laws.proofs.PlanLaws.{Makes}
use Rattle.lrp_plan_laws.proofs.PlanSound.{makes}
use Rattle.lrp_plan.specs.declared.drafts.PlannedOperand.{PlannedOperand}
use Rattle.lrp_plan.specs.declared.drafts.Draft.{Draft}
use Rattle.lrp_plan.specs.Drafts.{IsDraft, IsPlannedOperand, Extends, ExtendsBoth, Unites}
use Rattle.lrp_plan.specs.Elements.{CanPlan}
use Rattle.lrp_limits.proofs.Keeping.{common_both}
use Rattle.lrp_plan.proofs.Takes.{operand_grows}

-- core forms whose periods divide K
pub record AllCan (M : Structure) (K : ℕ) (fs : Forms) : Type 0 where
  pub cores : AreCore fs
  pub divide : IsCommon (periods_each fs M.relations) K

-- the elements so far, and the operand that the next one is united with
pub record SomeSoFar (M : Structure) (fs : Forms) (old now : Draft) (left : Option PlannedOperand) : Type 0 where
  pub follows : (K : ℕ) (planned : Steps) → AllCan M K fs → IsDraft M.relations K old planned → IsDraft M.relations K now (plan_of_some fs M planned)
  pub first : left ≡ None → (fs ≡ no_forms) × (now ≡ old)
  pub last : (o : PlannedOperand) → left ≡ Some o → (now.last ≡ o) × (fs ≡ no_forms → ⊥)

pub none_so_far : (M : Structure) (old : Draft) → SomeSoFar M no_forms old old None
none_so_far M old = record { follows = λ K planned c d. d; first = λ e. (refl, refl); last = λ o e. cc }

-- one element more in front of which there are some, and the first
others_push : (fs : Forms) (f : Form) (M : Structure) (steps : Steps) → plan_of_others (joined fs (form f no_forms)) M steps ≡ union (length (plan_of_others fs M steps)) M (plan_of f M (plan_of_others fs M steps))
others_push no_forms f M steps = refl
others_push (form g fs) f M steps = others_push fs f M (union (length steps) M (plan_of g M steps))

some_push : (fs : Forms) (f : Form) (M : Structure) (steps : Steps) → (fs ≡ no_forms → ⊥) → plan_of_some (joined fs (form f no_forms)) M steps ≡ union (length (plan_of_some fs M steps)) M (plan_of f M (plan_of_some fs M steps))
some_push no_forms f M steps n = absurd (n refl)
some_push (form g fs) f M steps n = others_push fs f M (plan_of g M steps)

cores_split : (fs : Forms) (f : Form) → AreCore (joined fs (form f no_forms)) → AreCore fs × IsCore f
cores_split no_forms f c = (tt, c.0)
cores_split (form g fs) f c = let r = cores_split fs f c.1 in ((c.0, r.0), r.1)

periods_split : (fs : Forms) (f : Form) (M : Structure) (K : ℕ) → IsCommon (periods_each (joined fs (form f no_forms)) M.relations) K → IsCommon (periods_each fs M.relations) K × IsCommon (periods f M.relations) K
periods_split no_forms f M K c = (tt, ((common_both (periods f M.relations) [] K).0 c).0)
periods_split (form g fs) f M K c =
    let a = (common_both (periods g M.relations) (periods_each (joined fs (form f no_forms)) M.relations) K).0 c in
    let r = periods_split fs f M K a.1 in
    ((common_both (periods g M.relations) (periods_each fs M.relations) K).1 (a.0, r.0), r.1)

can_split : (fs : Forms) (f : Form) (M : Structure) (K : ℕ) → AllCan M K (joined fs (form f no_forms)) → AllCan M K fs × CanPlan M K f
can_split fs f M K c = let a = cores_split fs f c.cores in let b = periods_split fs f M K c.divide in (record { cores = a.0; divide = b.0 }, record { core = a.1; divides = b.1 })

-- the first element
first_one : (M : Structure) (fs : Forms) (f : Form) (old now mid new : Draft) → SomeSoFar M fs old now None → ((K : ℕ) → CanPlan M K f → Extends M K (plan_of f) now mid) → new ≡ mid → SomeSoFar M (joined fs (form f no_forms)) old new (Some new.last)
first_one M fs f old now mid new h plans same =
    let e : fs ≡ no_forms = (h.first refl).0 in
    let n : now ≡ old = (h.first refl).1 in
    subst (λ gs. SomeSoFar M (joined gs (form f no_forms)) old new (Some new.last)) (sym e) (record {
      follows = λ K planned c d. subst (λ x. IsDraft M.relations K x (plan_of f M planned)) (sym same) ((plans K (record { core = c.cores.0; divides = ((common_both (periods f M.relations) [] K).0 c.divide).0 })).follows planned (subst (λ x. IsDraft M.relations K x planned) (sym n) d));
      first = λ x. cc;
      last = λ o x. (let y : new.last ≡ o = cc in y, λ x'. cc);
    })

-- a further one
next_one : (M : Structure) (fs : Forms) (f : Form) (old now mid new : Draft) (o : PlannedOperand) → SomeSoFar M fs old now (Some o) → ((K : ℕ) → CanPlan M K f → Extends M K (plan_of f) now mid) → ((K : ℕ) → ExtendsBoth M K o union mid new) → SomeSoFar M (joined fs (form f no_forms)) old new (Some new.last)
next_one M fs f old now mid new o h plans unites =
    let l = h.last o refl in record {
      follows = λ K planned c d.
          let a = can_split fs f M K c in
          let before : Steps = plan_of_some fs M planned in
          let d1 : IsDraft M.relations K now before = h.follows K planned a.0 d in
          let d2 : IsDraft M.relations K mid (plan_of f M before) = (plans K a.1).follows before d1 in
          let m : Makes M before (plan_of f M before) (Satisfies f M) = makes f a.1.core M before in
          let p : IsPlannedOperand M.relations K before (length before) o = subst (IsPlannedOperand M.relations K before (length before)) l.0 d1.last in
          let q : IsPlannedOperand M.relations K (plan_of f M before) (length before) o = subst (λ st. IsPlannedOperand M.relations K st (length before) o) (sym m.is) (operand_grows M.relations K before m.more (length before) o p) in
          subst (IsDraft M.relations K new) (sym (some_push fs f M planned l.1)) ((unites K).follows (plan_of f M before) (length before) d2 q);
      first = λ x. cc;
      last = λ p x. (let y : new.last ≡ p = cc in y, joined_some fs f);
    }
  where
    joined_some : (fs : Forms) (f : Form) → joined fs (form f no_forms) ≡ no_forms → ⊥
    joined_some no_forms f e = cc
    joined_some (form g gs) f e = cc

pub one_more : (M : Structure) (fs : List Core) (i : ℕ) (core : Core) (old now mid new : Draft) (left : Option PlannedOperand) → suc i ≤ length fs → core ≡ get_or fs i core → SomeSoFar M (cores_of (take i fs)) old now left
    → ((K : ℕ) → CanPlan M K (core_of core) → Extends M K (plan_of (core_of core)) now mid) → Unites left mid new → SomeSoFar M (cores_of (take (i + 1) fs)) old new (Some new.last)
one_more M fs i core old now mid new left lt is h plans u =
    subst (λ gs. SomeSoFar M gs old new (Some new.last)) (sym (ap cores_of (take_more fs i core lt ∙ ap (λ x. take i fs ++ x ∷ []) (sym is)) ∙ cores_of-append (take i fs) (core ∷ []))) (by_left left h u)
  where
    by_left : (left : Option PlannedOperand) → SomeSoFar M (cores_of (take i fs)) old now left → Unites left mid new → SomeSoFar M (joined (cores_of (take i fs)) (form (core_of core) no_forms)) old new (Some new.last)
    by_left None h u = first_one M (cores_of (take i fs)) (core_of core) old now mid new h plans (u.none refl)
    by_left (Some o) h u = next_one M (cores_of (take i fs)) (core_of core) old now mid new o h plans (λ K. u.some o refl M K)
