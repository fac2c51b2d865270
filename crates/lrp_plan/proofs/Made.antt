-- One step more in the planner's draft is one step more of the plan.
use Rattle.std.proofs.Common.{◌≡◌, ◌+◌, ◌*◌, ℕ, suc, max, min, true, false, List, [], ◌∷◌, ◌++◌, length, Option, Some, None, option_map, unwrap_or, slice_get, map, flat_map, refl, sym, ap, subst, ◌∙◌, append-nil, pos, arith}
use Rattle.std.specs.List.{AllZip}
use Rattle.lrp_model.specs.Texts.{Text, Identifier}
use Rattle.lrp_model.specs.Formulas.{Form, atom, test, sorted}
use Rattle.lrp_model.specs.Rows.{rows_of}
use Rattle.lrp_model.specs.Satisfaction.{Structure}
use Rattle.lrp_theory.specs.Divides.{IsCommon}
use Rattle.lrp_model.specs.Periods.{period, periods, periods_each, test_periods}
use Rattle.lrp_model.specs.Reach.{greatest, step_reach, test_reach, term_magnitudes}
use Rattle.lrp_model.specs.Steps.{Steps, formula_at, reach_at, made, step_after, tests_as_forms, scan_of, leaf, sort_texts, join, select, union, minus, complement, drop_of}
use Rattle.lrp_model.specs.Conjunctions.{is_test}
use Rattle.lrp_model.specs.declared.relations.Relation.{Relation}
use Rattle.lrp_model.specs.Sorts.{is_time}
use Rattle.lrp_model.specs.declared.relations.Sort.{Sort}
use Rattle.lrp_model.specs.declared.relations.Sort.TheVariants.{Time, Data, Named}
use Rattle.lrp_model.specs.declared.formulas.Term.{Term}
use Rattle.lrp_model.specs.declared.formulas.Test.{Test}
use Rattle.lrp_model.specs.declared.formulas.Test.TheVariants.{Compare, Member, Equal}
use Rattle.lrp_model.specs.declared.plans.StepKind.{StepKind}
use Rattle.lrp_model.specs.declared.plans.StepKind.TheVariants.{Scan, Leaf, Sort as SortStep, Join, Select, Union, Minus, Complement, DropTime, DropData, Extend}
use Rattle.lrp_plan_laws.proofs.Elements.{length_made, formula_made}
use Rattle.lrp_plan.specs.declared.drafts.Draft.{Draft}
use Rattle.lrp_plan.specs.declared.drafts.PlannedOperand.{PlannedOperand}
use Rattle.lrp_limits.specs.declared.facts.Facts.{Facts}
use Rattle.lrp_limits.specs.Capped.{capped}
use Rattle.lrp_limits.specs.Multiples.{IsPeriod, IsLeastWithinLimit, IsPeriodOf, AlwaysJoins}
use Rattle.lrp_limits.specs.Facts.{AreFacts, most_of_row}
use Rattle.lrp_plan_laws.specs.GuardedConjunctions.{select_from}
use Rattle.lrp_plan.specs.Drafts.{AddsStep, IsPlannedOperand, IsDraftOf, IsDraft, AreTests, with_head_step}
use Rattle.lrp_limits.proofs.Keeping.{common_both, least_is, least_of_none}

-- ---- the last step

pub get_last : {X : Type 0} (xs : List X) (x : X) → slice_get (xs ++ x ∷ []) (length xs) ≡ Some x
get_last [] x = refl
get_last (y ∷ ys) x = get_last ys x

reach_made : (M : Structure) (kind : StepKind) (f : Form) (steps : Steps) → reach_at (made M kind f steps) (length (made M kind f steps)) ≡ step_reach M.relations (reach_at steps) (period M.relations f) kind
reach_made M kind f steps = ap (reach_at (made M kind f steps)) (length_made M kind f steps) ∙ ap (λ o. unwrap_or (option_map (λ step. step.reach) o) 0) (get_last steps (step_after M kind f steps))

pub zip_push : {A B : Type 0} (R : A → B → Type 0) (xs : List A) (ys : List B) (x : A) (y : B) → AllZip R xs ys → R x y → AllZip R (xs ++ x ∷ []) (ys ++ y ∷ [])
zip_push R [] [] x y h r = (r, tt)
zip_push R [] (b ∷ ys) x y h r = absurd h
zip_push R (a ∷ xs) [] x y h r = absurd h
zip_push R (a ∷ xs) (b ∷ ys) x y h r = (h.0, zip_push R xs ys x y h.1 r)

-- a step of this kind and formula, whose period and reach are these
pub made_follows : (M : Structure) (K : ℕ) (kind code : StepKind) (f : Form) (k reach : ℕ) (old new : Draft) (planned : Steps) → IsDraft M.relations K old planned → AddsStep code k reach old new → code ≡ kind
    → IsLeastWithinLimit (periods f M.relations) k → IsCommon (periods f M.relations) K → reach ≡ capped (step_reach M.relations (reach_at planned) k kind) → IsDraft M.relations K new (made M kind f planned)
made_follows M K kind code f k reach old new planned d a same least divides far =
    let n : Steps = made M kind f planned in
    let e : k ≡ period M.relations f = least_is (periods f M.relations) k least in
    let r : reach ≡ capped (step_reach M.relations (reach_at planned) (period M.relations f) kind) = subst (λ x. reach ≡ capped (step_reach M.relations (reach_at planned) x kind)) e far in
    let g : formula_at n (length n) ≡ f = formula_made M kind f planned in
    record {
      whole = d.whole;
      steps = subst (λ xs. AllZip IsDraftOf xs n) (sym a.steps)
          (zip_push IsDraftOf old.steps planned (record { kind = code; period = pos k; reach = pos reach }) (step_after M kind f planned) d.steps (record { kind = same; period = ap pos e; reach = ap pos r }));
      last = record {
        within = omega arith;
        number = (let l : length n ≡ suc (length planned) = length_made M kind f planned in let m : old.last.number ≡ length planned = d.last.number in let s : new.last.number ≡ old.last.number + 1 = a.number in omega arith);
        period = subst (λ h. IsLeastWithinLimit (periods h M.relations) new.last.period.number) (sym g) (subst (IsLeastWithinLimit (periods f M.relations)) (sym a.period) least);
        reach = a.far ∙ r ∙ ap capped (sym (reach_made M kind f planned));
        divides = subst (λ h. IsCommon (periods h M.relations) K) (sym g) divides;
      };
    }

-- over one step, with its periods
pub single_follows : (M : Structure) (K : ℕ) (kind code : StepKind) (f : Form) (i reach : ℕ) (of : PlannedOperand) (old new : Draft) (planned : Steps) → IsDraft M.relations K old planned → IsPlannedOperand M.relations K planned i of → AddsStep code of.period.number reach old new → code ≡ kind
    → periods f M.relations ≡ periods (formula_at planned i) M.relations → reach ≡ capped (step_reach M.relations (reach_at planned) of.period.number kind) → IsDraft M.relations K new (made M kind f planned)
single_follows M K kind code f i reach of old new planned d o a same e far =
    made_follows M K kind code f of.period.number reach old new planned d a same (subst (λ ks. IsLeastWithinLimit ks of.period.number) (sym e) o.period) (subst (λ ks. IsCommon ks K) (sym e) o.divides) far

-- over the last step alone, with its periods
pub one_follows : (M : Structure) (K : ℕ) (kind code : StepKind) (f : Form) (reach : ℕ) (old new : Draft) (planned : Steps) → IsDraft M.relations K old planned → AddsStep code old.last.period.number reach old new → code ≡ kind
    → periods f M.relations ≡ periods (formula_at planned (length planned)) M.relations → reach ≡ capped (step_reach M.relations (reach_at planned) old.last.period.number kind) → IsDraft M.relations K new (made M kind f planned)
one_follows M K kind code f reach old new planned d a same e far = single_follows M K kind code f (length planned) reach old.last old new planned d d.last a same e far

-- over an earlier step and the last one, with the periods of both
pub both_follow : (M : Structure) (K : ℕ) (kind code : StepKind) (f : Form) (i k reach : ℕ) (left : PlannedOperand) (old new : Draft) (planned : Steps) → IsDraft M.relations K old planned → IsPlannedOperand M.relations K planned i left → AddsStep code k reach old new → code ≡ kind
    → periods f M.relations ≡ periods (formula_at planned i) M.relations ++ periods (formula_at planned (length planned)) M.relations → AlwaysJoins left.period.number old.last.period.number k → reach ≡ capped (step_reach M.relations (reach_at planned) k kind)
    → IsDraft M.relations K new (made M kind f planned)
both_follow M K kind code f i k reach left old new planned d o a same e joins far =
    let ls : List ℕ = periods (formula_at planned i) M.relations in
    let rs : List ℕ = periods (formula_at planned (length planned)) M.relations in
    made_follows M K kind code f k reach old new planned d a same
    (subst (λ ks. IsLeastWithinLimit ks k) (sym e) (joins.joins ls rs K o.period d.last.period d.whole o.divides d.last.divides))
    (subst (λ ks. IsCommon ks K) (sym e) ((common_both ls rs K).1 (o.divides, d.last.divides)))
    far

-- ---- numbers of steps in kinds

pub of_one : (C : ℕ → StepKind) (a b : ℕ) → a ≡ b → C a ≡ C b
of_one C a b e = ap C e

of_two : (C : ℕ → ℕ → StepKind) (a b c d : ℕ) → a ≡ b → c ≡ d → C a c ≡ C b d
of_two C a b c d e f = ap (λ x. C x c) e ∙ ap (λ y. C b y) f

-- ---- reaches up to a number

cap_one : (c a x k : ℕ) → x ≡ min a c → min (x + k) c ≡ min (a + k) c
cap_one c a x k e = omega arith

pub cap_double : (c a x : ℕ) → x ≡ min a c → min (2 * x) c ≡ min (2 * a) c
cap_double c a x e = omega arith

cap_two : (c a b x y k : ℕ) → x ≡ min a c → y ≡ min b c → min (max x y + k) c ≡ min (max a b + k) c
cap_two c a b x y k e f = omega arith

cap_three : (c a b d x y z k : ℕ) → x ≡ min a c → y ≡ min b c → z ≡ min d c → min (max (max x y) z + k) c ≡ min (max a (max b d) + k) c
cap_three c a b d x y z k e f g = omega arith

pub cap_same : (c a x : ℕ) → x ≡ min a c → min x c ≡ min a c
cap_same c a x e = omega arith

-- ---- tests name no period

pub no_period : (t : Test) → is_test t ≡ true → test_periods t ≡ []
no_period (Compare left op right) e = refl
no_period (Member term point) e = cc
no_period (Equal left right) e = refl

pub no_periods : (ts : List Test) (db : List Relation) → AreTests ts → periods_each (tests_as_forms ts) db ≡ []
no_periods [] db h = refl
no_periods (t ∷ ts) db h = ap (λ ks. ks ++ periods_each (tests_as_forms ts) db) (no_period t h.0) ∙ no_periods ts db h.1

-- ---- each rule

-- a period that stands for one, or none
stated : (ks : List ℕ) (K d : ℕ) (o : Option ℕ) → IsPeriodOf ks o → IsPeriod K → IsCommon ks K → IsLeastWithinLimit ks (unwrap_or o d)
stated ks K d None h p c = absurd (h K p c)
stated ks K d (Some k) h p c = h

pub scan_follows : (M : Structure) (K : ℕ) (facts : Facts) (name : Identifier) (terms : List Term) (k d offset reach : ℕ) (old new : Draft) (planned : Steps) → IsDraft M.relations K old planned → AddsStep (Scan name terms) k (capped reach) old new
    → AreFacts (rows_of M.relations name) facts → IsCommon (periods (atom name terms) M.relations) K → k ≡ unwrap_or (option_map (λ p. p.number) facts.period) d → offset ≡ greatest (flat_map term_magnitudes terms) → reach ≡ facts.bound + 2 * offset + k
    → IsDraft M.relations K new (scan_of name terms M planned)
scan_follows M K facts name terms k d offset reach old new planned draft a h c e g r =
    made_follows M K (Scan name terms) (Scan name terms) (atom name terms) k (capped reach) old new planned draft a refl
    (subst (IsLeastWithinLimit (periods (atom name terms) M.relations)) (sym e) (stated (periods (atom name terms) M.relations) K d (option_map (λ p. p.number) facts.period) h.period draft.whole c)) c
    (ap capped (r ∙ ap (λ x. x + 2 * offset + k) h.bound ∙ ap (λ x. greatest (flat_map most_of_row (rows_of M.relations name)) + 2 * x + k) g))

pub leaf_follows : (M : Structure) (K : ℕ) (t : Test) (k reach : ℕ) (old new : Draft) (planned : Steps) → IsDraft M.relations K old planned → AddsStep (Leaf t) k (capped reach) old new
    → IsLeastWithinLimit (test_periods t) k → IsCommon (test_periods t) K → reach ≡ capped (test_reach t) → IsDraft M.relations K new (leaf t M planned)
leaf_follows M K t k reach old new planned d a least c r = made_follows M K (Leaf t) (Leaf t) (test t) k (capped reach) old new planned d a refl least c (cap_same _ (test_reach t) reach r)

pub join_follows : (M : Structure) (K : ℕ) (left : PlannedOperand) (tests : List Test) (k t reach : ℕ) (old new : Draft) (planned : Steps) (i : ℕ) → IsDraft M.relations K old planned → IsPlannedOperand M.relations K planned i left
    → AddsStep (Join left.number old.last.number tests) k (capped reach) old new → AreTests tests → AlwaysJoins left.period.number old.last.period.number k → t ≡ capped (greatest (map test_reach tests)) → reach ≡ max (max left.reach old.last.reach) t + k
    → IsDraft M.relations K new (join i tests M planned)
join_follows M K left tests k t reach old new planned i d o a h joins e r =
    both_follow M K _ _ _ i k (capped reach) left old new planned d o a (of_two (λ x y. Join x y tests) _ _ _ _ o.number d.last.number)
    (ap (λ ks. periods (formula_at planned i) M.relations ++ ks) (ap (λ ks. periods (formula_at planned (length planned)) M.relations ++ ks) (no_periods tests M.relations h) ∙ append-nil _)) joins
    (ap capped r ∙ cap_three _ _ _ _ _ _ _ k o.reach d.last.reach e)

pub select_follows : (M : Structure) (K : ℕ) (t : Test) (x reach i : ℕ) (of : PlannedOperand) (old new : Draft) (planned : Steps) → IsDraft M.relations K old planned → IsPlannedOperand M.relations K planned i of → AddsStep (Select of.number t) of.period.number (capped reach) old new
    → is_test t ≡ true → x ≡ capped (test_reach t) → reach ≡ max of.reach x + of.period.number → IsDraft M.relations K new (select_from i t M planned)
select_follows M K t x reach i of old new planned d o a h e r =
    single_follows M K _ _ _ i (capped reach) of old new planned d o a (of_one (λ n. Select n t) _ _ o.number)
    (ap (λ ks. periods (formula_at planned i) M.relations ++ (ks ++ [])) (no_period t h) ∙ append-nil _)
    (ap capped r ∙ cap_two _ _ _ _ _ of.period.number o.reach e)

pub union_follows : (M : Structure) (K : ℕ) (left : PlannedOperand) (k reach : ℕ) (old new : Draft) (planned : Steps) (i : ℕ) → IsDraft M.relations K old planned → IsPlannedOperand M.relations K planned i left
    → AddsStep (Union left.number old.last.number) k (capped reach) old new → AlwaysJoins left.period.number old.last.period.number k → reach ≡ max left.reach old.last.reach + k → IsDraft M.relations K new (union i M planned)
union_follows M K left k reach old new planned i d o a joins r =
    both_follow M K _ _ _ i k (capped reach) left old new planned d o a (of_two Union _ _ _ _ o.number d.last.number)
    (ap (λ ks. periods (formula_at planned i) M.relations ++ ks) (append-nil _)) joins
    (ap capped r ∙ cap_two _ _ _ _ _ k o.reach d.last.reach)

pub minus_follows : (M : Structure) (K : ℕ) (left : PlannedOperand) (k reach : ℕ) (old new : Draft) (planned : Steps) (i : ℕ) → IsDraft M.relations K old planned → IsPlannedOperand M.relations K planned i left
    → AddsStep (Minus left.number old.last.number) k (capped reach) old new → AlwaysJoins left.period.number old.last.period.number k → reach ≡ max left.reach old.last.reach + 2 * k → IsDraft M.relations K new (minus i M planned)
minus_follows M K left k reach old new planned i d o a joins r =
    both_follow M K _ _ _ i k (capped reach) left old new planned d o a (of_two Minus _ _ _ _ o.number d.last.number)
    (ap (λ ks. periods (formula_at planned i) M.relations ++ ks) (append-nil _)) joins
    (ap capped r ∙ cap_two _ _ _ _ _ (2 * k) o.reach d.last.reach)

pub complement_follows : (M : Structure) (K : ℕ) (reach : ℕ) (old new : Draft) (planned : Steps) → IsDraft M.relations K old planned → AddsStep (Complement old.last.number) old.last.period.number (capped reach) old new
    → reach ≡ old.last.reach + 2 * old.last.period.number → IsDraft M.relations K new (complement M planned)
complement_follows M K reach old new planned d a r =
    one_follows M K _ _ _ (capped reach) old new planned d a (of_one Complement _ _ d.last.number) refl (ap capped r ∙ cap_one _ _ _ (2 * old.last.period.number) d.last.reach)

pub drop_time_follows : (M : Structure) (K : ℕ) (v : Identifier) (s : Sort) (reach : ℕ) (old new : Draft) (planned : Steps) → IsDraft M.relations K old planned → AddsStep (DropTime old.last.number v) old.last.period.number (capped reach) old new
    → is_time s ≡ true → reach ≡ 2 * old.last.reach → IsDraft M.relations K new (drop_of v s M planned)
drop_time_follows M K v Time reach old new planned d a e r = one_follows M K _ _ _ (capped reach) old new planned d a (of_one (λ n. DropTime n v) _ _ d.last.number) refl (ap capped r ∙ cap_double _ _ _ d.last.reach)
drop_time_follows M K v Data reach old new planned d a e r = cc
drop_time_follows M K v (Named name) reach old new planned d a e r = cc

pub drop_data_follows : (M : Structure) (K : ℕ) (v : Identifier) (s : Sort) (reach : ℕ) (old new : Draft) (planned : Steps) → IsDraft M.relations K old planned → AddsStep (DropData old.last.number v) old.last.period.number (capped reach) old new
    → is_time s ≡ false → reach ≡ old.last.reach → IsDraft M.relations K new (drop_of v s M planned)
drop_data_follows M K v Time reach old new planned d a e r = cc
drop_data_follows M K v Data reach old new planned d a e r = one_follows M K _ _ _ (capped reach) old new planned d a (of_one (λ n. DropData n v) _ _ d.last.number) refl (cap_same _ _ reach (r ∙ d.last.reach))
drop_data_follows M K v (Named name) reach old new planned d a e r = one_follows M K _ _ _ (capped reach) old new planned d a (of_one (λ n. DropData n v) _ _ d.last.number) refl (cap_same _ _ reach (r ∙ d.last.reach))

pub sort_follows : (M : Structure) (K : ℕ) (v : Identifier) (s : Sort) (texts : List Text) (k : ℕ) (old new : Draft) (planned : Steps) → IsDraft M.relations K old planned → AddsStep (SortStep v s texts) k (capped 1) old new
    → k ≡ 1 → texts ≡ M.domain s → IsDraft M.relations K new (sort_texts s v M planned)
sort_follows M K v s texts k old new planned d a e t = made_follows M K _ _ (sorted s v) k (capped 1) old new planned d a (ap (SortStep v s) t) (subst (IsLeastWithinLimit []) (sym e) least_of_none) tt refl

pub head_follows : (M : Structure) (K : ℕ) (f : Form) (k reach : ℕ) (old new : Draft) (planned : Steps) → IsDraft M.relations K old planned → AddsStep (Extend old.last.number) k (capped reach) old new
    → IsLeastWithinLimit (periods f M.relations) k → IsCommon (periods f M.relations) K → reach ≡ old.last.reach → IsDraft M.relations K new (with_head_step f M planned)
head_follows M K f k reach old new planned d a least c r = made_follows M K _ _ f k (capped reach) old new planned d a (of_one Extend _ _ d.last.number) least c (cap_same _ _ reach (r ∙ d.last.reach))

-- ---- the period of a test

pub member_period : (t : Test) (one number d K : ℕ) (o : Option ℕ) (m : ℕ) → test_periods t ≡ m ∷ [] → one ≡ 1 → ((ks : List ℕ) → IsLeastWithinLimit ks one → IsPeriodOf (ks ++ m ∷ []) o) → number ≡ unwrap_or o d → IsCommon (test_periods t) K → IsPeriod K → IsLeastWithinLimit (test_periods t) number
member_period t one number d K o m e f h g c p =
    subst (λ ks. IsLeastWithinLimit ks number) (sym e) (subst (IsLeastWithinLimit (m ∷ [])) (sym g) (stated (m ∷ []) K d o (h [] (subst (IsLeastWithinLimit []) (sym f) least_of_none)) p (subst (λ ks. IsCommon ks K) e c)))

pub no_test_period : (t : Test) (number : ℕ) → is_test t ≡ true → number ≡ 1 → IsLeastWithinLimit (test_periods t) number
no_test_period t number e f = subst (λ ks. IsLeastWithinLimit ks number) (sym (no_period t e)) (subst (IsLeastWithinLimit []) (sym f) least_of_none)
