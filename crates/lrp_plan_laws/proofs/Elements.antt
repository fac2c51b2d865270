-- Lists of steps and of elements: the last one, those in front, one taken out, and those that pass a test.
use Rattle.std.proofs.Common.{◌≡◌, ◌↔◌, ◌⊎◌, inl, inr, ⊎_elim, ◌≤◌, ◌<◌, ℕ, zero, suc, Bool, true, false, cond, not, nat_lt, List, [], ◌∷◌, ◌++◌, length, length-append, Some, None, option_map, unwrap_or, slice_get, remove, filter, refl, sym, ap, subst, ◌∙◌, arith}
use Rattle.std.specs.List.{AllByRecursion, position_or_len}
use Rattle.std.proofs.lemmas.Bool.{ltb-true}
use Rattle.lrp_model.specs.Formulas.{Form, conjunction, no_forms}
use Rattle.lrp_model.specs.Satisfaction.{Structure}
use Rattle.lrp_model.specs.Steps.{PlanStep, Steps, step_at, formula_at, reach_at, step_after, made}
use Rattle.lrp_model.specs.Conjunctions.{first_or_0}
use Rattle.lrp_model.specs.Periods.{period}
use Rattle.lrp_plan_laws.specs.Rising.{period_at}
use Rattle.lrp_model.specs.declared.plans.StepKind.{StepKind}

-- ---- steps

-- the last of a list with one more
get_last : {X : Type 0} (xs : List X) (x : X) → slice_get (xs ++ x ∷ []) (length xs) ≡ Some x
get_last [] x = refl
get_last (y ∷ ys) x = get_last ys x

-- an earlier one of a list with more
get_front : {X : Type 0} (xs ys : List X) (i : ℕ) → i < length xs → slice_get (xs ++ ys) i ≡ slice_get xs i
get_front [] ys i lt = absurd (omega arith)
get_front (x ∷ xs) ys zero lt = refl
get_front (x ∷ xs) ys (suc i) lt = get_front xs ys i (omega arith)

-- one step more
pub length_made : (M : Structure) (kind : StepKind) (f : Form) (steps : Steps) → length (made M kind f steps) ≡ suc (length steps)
length_made M kind f steps = length-append steps _ ∙ (omega arith)

-- the formula of a step that was made
pub formula_made : (M : Structure) (kind : StepKind) (f : Form) (steps : Steps) → formula_at (made M kind f steps) (length (made M kind f steps)) ≡ f
formula_made M kind f steps = ap (formula_at (made M kind f steps)) (length_made M kind f steps) ∙ ap (λ o. unwrap_or (option_map (λ step. step.formula) o) (conjunction no_forms)) (get_last steps _)

-- an earlier formula stands where more steps follow
pub formula_front : (steps more : Steps) (i : ℕ) → i ≤ length steps → formula_at (steps ++ more) i ≡ formula_at steps i
formula_front steps more zero le = refl
formula_front steps more (suc i) le = ap (λ o. unwrap_or (option_map (λ step. step.formula) o) (conjunction no_forms)) (get_front steps more i (omega arith))

-- step s stands where more steps follow
pub step_front : (steps more : Steps) (s : ℕ) → s ≤ length steps → step_at (steps ++ more) s ≡ step_at steps s
step_front steps more zero le = refl
step_front steps more (suc i) le = get_front steps more i (omega arith)

-- and so does its reach
pub reach_front : (steps more : Steps) (s : ℕ) → s ≤ length steps → reach_at (steps ++ more) s ≡ reach_at steps s
reach_front steps more s le = ap (λ o. unwrap_or (option_map (λ step. step.reach) o) 0) (step_front steps more s le)

-- the step that was made is the last
pub step_made : (M : Structure) (kind : StepKind) (f : Form) (steps : Steps) → step_at (made M kind f steps) (length (made M kind f steps)) ≡ Some (step_after M kind f steps)
step_made M kind f steps = ap (step_at (made M kind f steps)) (length_made M kind f steps) ∙ get_last steps _

-- it has its reach
pub reach_made : (M : Structure) (kind : StepKind) (f : Form) (steps : Steps) → reach_at (made M kind f steps) (length (made M kind f steps)) ≡ (step_after M kind f steps).reach
reach_made M kind f steps = ap (reach_at (made M kind f steps)) (length_made M kind f steps) ∙ ap (λ o. unwrap_or (option_map (λ step. step.reach) o) 0) (get_last steps _)

-- and the period of its formula
pub period_made : (M : Structure) (kind : StepKind) (f : Form) (steps : Steps) → period_at (made M kind f steps) (length (made M kind f steps)) ≡ period M.relations f
period_made M kind f steps = ap (period_at (made M kind f steps)) (length_made M kind f steps) ∙ ap (λ o. unwrap_or (option_map (λ step. step.period) o) 1) (get_last steps _)

-- a step of steps with one more is an earlier one, or the last
get_one_more : {X : Type 0} (xs : List X) (x y : X) (i : ℕ) → slice_get (xs ++ x ∷ []) i ≡ Some y → ((i < length xs) × (slice_get xs i ≡ Some y)) ⊎ ((i ≡ length xs) × (x ≡ y))
get_one_more [] x y zero e = inr (refl, cc)
get_one_more [] x y (suc i) e = cc
get_one_more (z ∷ zs) x y zero e = inl (omega arith, e)
get_one_more (z ∷ zs) x y (suc i) e = ⊎_elim (λ h. inl (let l : i < length zs = h.0 in omega arith, h.1)) (λ h. inr (ap suc h.0, h.1)) (get_one_more zs x y i e)

-- the same of steps by their numbers
pub step_one_more : (steps : Steps) (x y : PlanStep) (s : ℕ) → step_at (steps ++ x ∷ []) s ≡ Some y → ((s ≤ length steps) × (step_at steps s ≡ Some y)) ⊎ ((s ≡ suc (length steps)) × (x ≡ y))
step_one_more steps x y zero e = cc
step_one_more steps x y (suc i) e = ⊎_elim (λ h. inl (let l : i < length steps = h.0 in omega arith, h.1)) (λ h. inr (ap suc h.0, h.1)) (get_one_more steps x y i e)

-- ---- an element taken out

-- what holds of each holds of the one taken out and of the others
pub take_out : {X : Type 0} (p : X → Type 0) (xs : List X) (i : ℕ) (x : X) → slice_get xs i ≡ Some x → AllByRecursion p xs ↔ (p x × AllByRecursion p (remove xs i))
take_out p [] i x e = cc
take_out p (y ∷ ys) zero x e = let d : y ≡ x = cc in ((λ h. (subst p d h.0, h.1)), λ h. (subst p (sym d) h.0, h.1))
take_out p (y ∷ ys) (suc i) x e =
    let r : AllByRecursion p ys ↔ (p x × AllByRecursion p (remove ys i)) = take_out p ys i x e in
    ((λ h. ((r.0 h.1).0, (h.0, (r.0 h.1).1))), λ h. (h.1.0, r.1 (h.0, h.1.1)))

-- at each place of a list is an element
pub found : {X : Type 0} (xs : List X) (i : ℕ) → i < length xs → (x : X) × (slice_get xs i ≡ Some x)
found [] i lt = absurd (omega arith)
found (x ∷ xs) zero lt = (x, refl)
found (x ∷ xs) (suc i) lt = found xs i (omega arith)

-- an element is at a place of the list
pub within : {X : Type 0} (xs : List X) (i : ℕ) (x : X) → slice_get xs i ≡ Some x → i < length xs
within [] i x e = cc
within (y ∷ ys) zero x e = omega arith
within (y ∷ ys) (suc i) x e = let ih : i < length ys = within ys i x e in omega arith

-- a place that is found, or the first
by_less : (b : Bool) (i n : ℕ) → 0 < n → nat_lt i n ≡ b → unwrap_or (cond b (Some i) None) 0 < n
by_less true i n some e = ltb-true i n e
by_less false i n some e = some

-- the first that passes is at a place of the list
pub first_within : {X : Type 0} (p : X → Bool) (xs : List X) → 0 < length xs → first_or_0 p xs < length xs
first_within p xs some = by_less (nat_lt (position_or_len p xs) (length xs)) (position_or_len p xs) (length xs) some refl

-- ---- those that pass a test, and those that do not

-- one that passes, or does not
split_at : {X : Type 0} (p : X → Type 0) (b : Bool) (x : X) (ys zs xs : List X) → AllByRecursion p xs ↔ (AllByRecursion p ys × AllByRecursion p zs)
    → AllByRecursion p (x ∷ xs) ↔ (AllByRecursion p (cond b (x ∷ ys) ys) × AllByRecursion p (cond (not b) (x ∷ zs) zs))
split_at p true x ys zs xs r = ((λ h. ((h.0, (r.0 h.1).0), (r.0 h.1).1)), λ h. (h.0.0, r.1 (h.0.1, h.1)))
split_at p false x ys zs xs r = ((λ h. ((r.0 h.1).0, (h.0, (r.0 h.1).1))), λ h. (h.1.0, r.1 (h.0, h.1.1)))

-- what holds of each holds of those that pass and of those that do not
pub split_all : {X : Type 0} (p : X → Type 0) (c : X → Bool) (xs : List X) → AllByRecursion p xs ↔ (AllByRecursion p (filter c xs) × AllByRecursion p (filter (λ x. not (c x)) xs))
split_all p c [] = ((λ h. (tt, tt)), λ h. tt)
split_all p c (x ∷ xs) = split_at p (c x) x (filter c xs) (filter (λ y. not (c y)) xs) xs (split_all p c xs)

-- one that passes, or does not
fewer_at : {X : Type 0} (b : Bool) (x : X) (ys : List X) (n : ℕ) → length ys ≤ n → length (cond b (x ∷ ys) ys) ≤ suc n
fewer_at true x ys n le = omega arith
fewer_at false x ys n le = omega arith

-- those that pass are no more
pub filter_fewer : {X : Type 0} (c : X → Bool) (xs : List X) → length (filter c xs) ≤ length xs
filter_fewer c [] = omega arith
filter_fewer c (x ∷ xs) = fewer_at (c x) x (filter c xs) (length xs) (filter_fewer c xs)
