-- What each call on the planner's draft promises, from the step that it adds.
use Rattle.std.proofs.Common.{◌≡◌, ◌+◌, ◌*◌, ℕ, max, true, false, List, [], ◌∷◌, option_map, unwrap_or, map, flat_map, Result, Ok, Err, length, subst}
use Rattle.std.specs.Result.{OnOk}
use Rattle.lrp_model.specs.Texts.{Text, Identifier}
use Rattle.lrp_model.specs.Formulas.{Form, atom, test}
use Rattle.lrp_model.specs.Rows.{rows_of}
use Rattle.lrp_model.specs.Satisfaction.{Structure}
use Rattle.lrp_model.specs.Sorts.{is_time}
use Rattle.lrp_theory.specs.Divides.{IsCommon}
use Rattle.lrp_model.specs.Periods.{periods, test_periods}
use Rattle.lrp_model.specs.Reach.{greatest, test_reach, term_magnitudes}
use Rattle.lrp_model.specs.Steps.{scan_of, leaf, sort_texts, join, select, union, minus, complement, drop_of}
use Rattle.lrp_model.specs.declared.relations.Sort.{Sort}
use Rattle.lrp_model.specs.declared.formulas.Term.{Term}
use Rattle.lrp_model.specs.declared.formulas.Test.{Test}
use Rattle.lrp_model.specs.declared.plans.StepKind.{StepKind}
use Rattle.lrp_model.specs.declared.plans.StepKind.TheVariants.{Scan, Leaf, Sort as SortStep, Join, Select, Union, Minus, Complement, DropTime, DropData, Extend}
use Rattle.lrp_plan.specs.declared.drafts.Draft.{Draft}
use Rattle.lrp_plan.specs.declared.drafts.PlannedOperand.{PlannedOperand}
use Rattle.lrp_limits.specs.declared.facts.Facts.{Facts}
use Rattle.lrp_limits.specs.Capped.{capped}
use Rattle.lrp_limits.specs.Multiples.{IsPeriod, IsLeastWithinLimit, AlwaysJoins}
use Rattle.lrp_limits.specs.Facts.{AreFacts}
use Rattle.lrp_plan_laws.specs.GuardedConjunctions.{select_from}
use Rattle.lrp_plan.specs.Drafts.{AddsStep, AreTests, Extends, ExtendsBoth, with_head_step}
use Rattle.lrp_plan.proofs.Made.{scan_follows, leaf_follows, sort_follows, join_follows, select_follows, union_follows, minus_follows, complement_follows, drop_time_follows, drop_data_follows, head_follows}

pub scans : {T E : Type 0} (r : Result T E) (facts : Facts) (name : Identifier) (terms : List Term) (k d offset reach : ℕ) (old new : Draft) → k ≡ unwrap_or (option_map (λ p. p.number) facts.period) d → offset ≡ greatest (flat_map term_magnitudes terms) → reach ≡ facts.bound + 2 * offset + k
    → OnOk r (AddsStep (Scan name terms) k (capped reach) old new) → OnOk r ((M : Structure) (K : ℕ) → AreFacts (rows_of M.relations name) facts → IsCommon (periods (atom name terms) M.relations) K → Extends M K (scan_of name terms) old new)
scans (Ok x) facts name terms k d offset reach old new e f g a = λ M K h c. record { follows = λ planned draft. scan_follows M K facts name terms k d offset reach old new planned draft a h c e f g }
scans (Err x) facts name terms k d offset reach old new e f g a = tt

pub tests_alone : {T E : Type 0} (r : Result T E) (t : Test) (k reach : ℕ) (old new : Draft) → ((K : ℕ) → IsCommon (test_periods t) K → IsPeriod K → IsLeastWithinLimit (test_periods t) k) → reach ≡ capped (test_reach t)
    → OnOk r (AddsStep (Leaf t) k (capped reach) old new) → OnOk r ((M : Structure) (K : ℕ) → IsCommon (periods (test t) M.relations) K → Extends M K (leaf t) old new)
tests_alone (Ok x) t k reach old new h e a = λ M K c. record { follows = λ planned d. leaf_follows M K t k reach old new planned d a (h K c d.whole) c e }
tests_alone (Err x) t k reach old new h e a = tt

pub sorts : {T E : Type 0} (r : Result T E) (v : Identifier) (s : Sort) (texts : List Text) (k : ℕ) (old new : Draft) → k ≡ 1
    → OnOk r (AddsStep (SortStep v s texts) k (capped 1) old new) → OnOk r ((M : Structure) (K : ℕ) → texts ≡ M.domain s → Extends M K (sort_texts s v) old new)
sorts (Ok x) v s texts k old new e a = λ M K t. record { follows = λ planned d. sort_follows M K v s texts k old new planned d a e t }
sorts (Err x) v s texts k old new e a = tt

pub joins : {T E : Type 0} (r : Result T E) (left : PlannedOperand) (tests : List Test) (k t reach : ℕ) (old new : Draft) → AlwaysJoins left.period.number old.last.period.number k → t ≡ capped (greatest (map test_reach tests)) → reach ≡ max (max left.reach old.last.reach) t + k
    → OnOk r (AddsStep (Join left.number old.last.number tests) k (capped reach) old new) → OnOk r ((M : Structure) (K : ℕ) → AreTests tests → ExtendsBoth M K left (λ number. join number tests) old new)
joins (Ok x) left tests k t reach old new j e f a = λ M K h. record { follows = λ planned i d o. join_follows M K left tests k t reach old new planned i d o a h j e f }
joins (Err x) left tests k t reach old new j e f a = tt

pub selects : {T E : Type 0} (r : Result T E) (t : Test) (x reach : ℕ) (of : PlannedOperand) (old new : Draft) → x ≡ capped (test_reach t) → reach ≡ max of.reach x + of.period.number
    → OnOk r (AddsStep (Select of.number t) of.period.number (capped reach) old new) → OnOk r ((M : Structure) (K : ℕ) → AreTests (t ∷ []) → ExtendsBoth M K of (λ number. select_from number t) old new)
selects (Ok y) t x reach of old new e f a = λ M K h. record { follows = λ planned i d o. select_follows M K t x reach i of old new planned d o a h.0 e f }
selects (Err y) t x reach of old new e f a = tt

-- of the last step
pub selects_last : {T E : Type 0} (r : Result T E) (t : Test) (old new : Draft) → OnOk r ((M : Structure) (K : ℕ) → AreTests (t ∷ []) → ExtendsBoth M K old.last (λ number. select_from number t) old new) → OnOk r ((M : Structure) (K : ℕ) → AreTests (t ∷ []) → Extends M K (select t) old new)
selects_last (Ok y) t old new h = λ M K k. record { follows = λ planned d. (h M K k).follows planned (length planned) d d.last }
selects_last (Err y) t old new h = tt

-- a step of another reach that is the same
pub adds_same : {T E : Type 0} (r : Result T E) (kind : StepKind) (k a b : ℕ) (old new : Draft) → a ≡ b → OnOk r (AddsStep kind k (capped a) old new) → OnOk r (AddsStep kind k (capped b) old new)
adds_same r kind k a b old new e = subst (λ x. OnOk r (AddsStep kind k (capped x) old new)) e

pub unions : {T E : Type 0} (r : Result T E) (left : PlannedOperand) (k reach : ℕ) (old new : Draft) → AlwaysJoins left.period.number old.last.period.number k → reach ≡ max left.reach old.last.reach + k
    → OnOk r (AddsStep (Union left.number old.last.number) k (capped reach) old new) → OnOk r ((M : Structure) (K : ℕ) → ExtendsBoth M K left union old new)
unions (Ok x) left k reach old new j e a = λ M K. record { follows = λ planned i d o. union_follows M K left k reach old new planned i d o a j e }
unions (Err x) left k reach old new j e a = tt

pub takes_off : {T E : Type 0} (r : Result T E) (left : PlannedOperand) (k reach : ℕ) (old new : Draft) → AlwaysJoins left.period.number old.last.period.number k → reach ≡ max left.reach old.last.reach + 2 * k
    → OnOk r (AddsStep (Minus left.number old.last.number) k (capped reach) old new) → OnOk r ((M : Structure) (K : ℕ) → ExtendsBoth M K left minus old new)
takes_off (Ok x) left k reach old new j e a = λ M K. record { follows = λ planned i d o. minus_follows M K left k reach old new planned i d o a j e }
takes_off (Err x) left k reach old new j e a = tt

pub complements : {T E : Type 0} (r : Result T E) (reach : ℕ) (old new : Draft) → reach ≡ old.last.reach + 2 * old.last.period.number
    → OnOk r (AddsStep (Complement old.last.number) old.last.period.number (capped reach) old new) → OnOk r ((M : Structure) (K : ℕ) → Extends M K complement old new)
complements (Ok x) reach old new e a = λ M K. record { follows = λ planned d. complement_follows M K reach old new planned d a e }
complements (Err x) reach old new e a = tt

pub drops_time : {T E : Type 0} (r : Result T E) (v : Identifier) (s : Sort) (reach : ℕ) (old new : Draft) → is_time s ≡ true → reach ≡ 2 * old.last.reach
    → OnOk r (AddsStep (DropTime old.last.number v) old.last.period.number (capped reach) old new) → OnOk r ((M : Structure) (K : ℕ) → Extends M K (drop_of v s) old new)
drops_time (Ok x) v s reach old new e f a = λ M K. record { follows = λ planned d. drop_time_follows M K v s reach old new planned d a e f }
drops_time (Err x) v s reach old new e f a = tt

pub drops_data : {T E : Type 0} (r : Result T E) (v : Identifier) (s : Sort) (reach : ℕ) (old new : Draft) → is_time s ≡ false → reach ≡ old.last.reach
    → OnOk r (AddsStep (DropData old.last.number v) old.last.period.number (capped reach) old new) → OnOk r ((M : Structure) (K : ℕ) → Extends M K (drop_of v s) old new)
drops_data (Ok x) v s reach old new e f a = λ M K. record { follows = λ planned d. drop_data_follows M K v s reach old new planned d a e f }
drops_data (Err x) v s reach old new e f a = tt

pub heads : {T E : Type 0} (r : Result T E) (k reach : ℕ) (old new : Draft) → reach ≡ old.last.reach
    → OnOk r (AddsStep (Extend old.last.number) k (capped reach) old new) → OnOk r ((M : Structure) (K : ℕ) (f : Form) → IsLeastWithinLimit (periods f M.relations) k → IsCommon (periods f M.relations) K → Extends M K (with_head_step f) old new)
heads (Ok x) k reach old new e a = λ M K f least c. record { follows = λ planned d. head_follows M K f k reach old new planned d a least c e }
heads (Err x) k reach old new e a = tt
