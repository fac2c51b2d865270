-- What a drop says: some integer, or some text that is known, stands for the variable.
use Rattle.std.proofs.Common.{◌≡◌, ◌≢◌, ◌↔◌, ⊎_elim, Bool, true, false, cond, List, [], ◌∷◌, Contains, refl, sym, ap, subst, bytes_eq}
use Rattle.std.specs.Cmp.Lexicographic.{bytes_decides}
use Rattle.std.specs.List.{AllByRecursion}
use Rattle.lrp_model.specs.Texts.{Text, Identifier}
use Rattle.lrp_model.specs.Rows.{Datum, time, text}
use Rattle.lrp_model.specs.Formulas.{Form, disjunction, exists}
use Rattle.lrp_model.specs.Variables.{Variable, time_variable, data_variable, free, free_each}
use Rattle.lrp_model.specs.Satisfaction.{Assignment, Satisfies, SatisfiesSome, ForSome, IsOfSort, SameAt, with_value}
use Rattle.lrp_model.specs.declared.relations.Sort.{Sort}
use Rattle.lrp_model.specs.declared.relations.Sort.TheVariants.{Time, Data, Named}
use Rattle.lrp_model.proofs.Decided.{cons_cases, contains_none}
use Rattle.lrp_model.proofs.FreeLaws.{same_meaning}
use Rattle.lrp_model.proofs.Stable.{stable}
use Rattle.lrp_plan_laws.specs.Made.{IsDataSort}
use Rattle.lrp_plan_laws.specs.Projections.{PlanGround as Ground, for_each_sort}
use Rattle.lrp_plan_laws.proofs.Dropping.{without_member}
use Rattle.lrp_plan_laws.proofs.Members.{all_of, all_by, in_one}

-- the sorts of the ground are sorts of texts, each of their texts is known, and each text that is known is of one of them
pub record IsGround (over : Ground) (texts : List Text) : Type 0 where
  pub sorts : AllByRecursion IsDataSort over.sorts
  pub known : (s : Sort) (t : Text) → Contains (over.structure.domain s) t → Contains texts t
  pub sorted : (t : Text) → Contains texts t → (s : Sort) × Contains over.sorts s × Contains (over.structure.domain s) t

-- the formula of a drop of the variable
abbrev pub dropped : Ground → Variable → Form → Form
dropped over (time_variable v) f = exists v Time f
dropped over (data_variable v) f = disjunction (for_each_sort over.sorts v f)

abbrev pub name_of : Variable → Identifier
name_of (time_variable v) = v
name_of (data_variable v) = v

-- an integer for a time variable, and a known text for a data variable
abbrev pub IsValue : List Text → Variable → Datum → Type 0
IsValue texts (time_variable v) (time x) = Unit {0}
IsValue texts (time_variable v) (text t) = ⊥
IsValue texts (data_variable v) (time x) = ⊥
IsValue texts (data_variable v) (text t) = Contains texts t

-- the assignment gives the variable a text that is known, if it is one of texts
abbrev pub IsKnownAt : List Text → Assignment → Variable → Type 0
IsKnownAt texts env (time_variable v) = Unit {0}
IsKnownAt texts env (data_variable v) = Contains texts (env.texts v)

-- ---- the variable itself

-- a variable keeps its value where it is given that
own_at : {A : Type 0} (g : Identifier → A) (v w : Identifier) (b : Bool) → (b ≡ true → v ≡ w) → cond b (g v) (g w) ≡ g w
own_at g v w true e = ap g (e refl)
own_at g v w false e = refl

abbrev pub value_at : Variable → Assignment → Datum
value_at (time_variable v) env = time (env.times v)
value_at (data_variable v) env = text (env.texts v)

-- an assignment is the same where a variable is given the value that it has
pub own_value : (v w : Variable) (env : Assignment) → SameAt (with_value (name_of v) (value_at v env) env) env w
own_value (time_variable v) (time_variable w) env = own_at env.times v w (bytes_eq v w) (bytes_decides v w).0
own_value (time_variable v) (data_variable w) env = refl
own_value (data_variable v) (time_variable w) env = refl
own_value (data_variable v) (data_variable w) env = own_at env.texts v w (bytes_eq v w) (bytes_decides v w).0

is_false : (b : Bool) → (b ≡ true → ⊥) → b ≡ false
is_false true h = absurd (h refl)
is_false false h = refl

other_at : {A : Type 0} (x y : A) (v w : Identifier) → (w ≢ v) → cond (bytes_eq v w) x y ≡ y
other_at x y v w n = ap (λ b. cond b x y) (is_false (bytes_eq v w) (λ e. n (sym ((bytes_decides v w).0 e))))

-- another variable keeps its value
pub other_value : (texts : List Text) (v w : Variable) (d : Datum) (env : Assignment) → IsValue texts v d → w ≢ v → SameAt (with_value (name_of v) d env) env w
other_value texts (time_variable v) (time_variable w) (time x) env is n = other_at x (env.times w) v w (λ e. n (ap time_variable e))
other_value texts (time_variable v) (data_variable w) (time x) env is n = refl
other_value texts (time_variable v) w (text t) env is n = absurd is
other_value texts (data_variable v) w (time x) env is n = absurd is
other_value texts (data_variable v) (time_variable w) (text t) env is n = refl
other_value texts (data_variable v) (data_variable w) (text t) env is n = other_at t (env.texts w) v w (λ e. n (ap data_variable e))

-- a value that is known is known of the variable that has it
pub known_value : (texts : List Text) (v : Variable) (d : Datum) (env : Assignment) → IsValue texts v d → IsKnownAt texts (with_value (name_of v) d env) v
known_value texts (time_variable v) d env is = tt
known_value texts (data_variable v) (time x) env is = absurd is
known_value texts (data_variable v) (text t) env is = subst (λ b. Contains texts (cond b t (env.texts v))) (sym ((bytes_decides v v).1 refl)) is

-- and known ones stay known
pub stays_known : (texts : List Text) (w : Variable) (env other : Assignment) → SameAt env other w → IsKnownAt texts other w → IsKnownAt texts env w
stays_known texts (time_variable w) env other e k = tt
stays_known texts (data_variable w) env other e k = subst (Contains texts) (sym e) k

module _ (over : Ground) (texts : List Text) (is : IsGround over texts) where
  -- a value of a sort of texts is a text that is known
  of_data : (v : Identifier) (s : Sort) (d : Datum) → IsDataSort s → IsOfSort over.structure s d → IsValue texts (data_variable v) d
  of_data v Time d texted of = absurd texted
  of_data v Data (time x) texted of = absurd of
  of_data v Data (text t) texted of = is.known Data t of
  of_data v (Named name) (time x) texted of = absurd of
  of_data v (Named name) (text t) texted of = is.known (Named name) t of

  -- a text of a sort is a value of it
  as_data : (s : Sort) (t : Text) → IsDataSort s → Contains (over.structure.domain s) t → IsOfSort over.structure s (text t)
  as_data Time t texted c = absurd texted
  as_data Data t texted c = c
  as_data (Named name) t texted c = c

  of_time : (v : Identifier) (d : Datum) → IsOfSort over.structure Time d ↔ IsValue texts (time_variable v) d
  of_time v (time x) = ((λ h. h), λ h. h)
  of_time v (text t) = ((λ h. h), λ h. h)

  -- one of the sorts has a text
  some_value : (sorts : List Sort) (v : Identifier) (f : Form) (env : Assignment) → AllByRecursion IsDataSort sorts → SatisfiesSome (for_each_sort sorts v f) over.structure env
      → ForSome (λ d. IsValue texts (data_variable v) d × Satisfies f over.structure (with_value v d env))
  some_value [] v f env texted h = absurd h
  some_value (s ∷ sorts) v f env texted h = λ none. h (λ e. e (λ d x. none d (of_data v s d texted.0 x.0, x.1))) (λ rest. some_value sorts v f env texted.1 rest none)

  -- a text of one of the sorts is one of some sort
  at_sort : (sorts : List Sort) (s : Sort) (v : Identifier) (f : Form) (env : Assignment) → Contains sorts s → Satisfies (exists v s f) over.structure env → SatisfiesSome (for_each_sort sorts v f) over.structure env
  at_sort [] s v f env c h = absurd (contains_none s c)
  at_sort (r ∷ sorts) s v f env c h =
      ⊎_elim (λ e fails rest. fails (subst (λ x. Satisfies (exists v x f) over.structure env) (sym e) h)) (λ k fails rest. rest (at_sort sorts s v f env k h)) (cons_cases r s sorts c)

  value_some : (v : Identifier) (f : Form) (env : Assignment) (d : Datum) → IsValue texts (data_variable v) d × Satisfies f over.structure (with_value v d env) → SatisfiesSome (for_each_sort over.sorts v f) over.structure env
  value_some v f env (time x) h = absurd h.0
  value_some v f env (text t) h =
      let k = is.sorted t h.0 in
      at_sort over.sorts k.0 v f env k.1 (λ none. none (text t) (as_data k.0 t (all_of IsDataSort over.sorts k.0 is.sorts k.1) k.2, h.1))

  -- a drop says that some value stands for the variable
  pub drop_says : (v : Variable) (f : Form) (env : Assignment) → Satisfies (dropped over v f) over.structure env ↔ ForSome (λ d. IsValue texts v d × Satisfies f over.structure (with_value (name_of v) d env))
  drop_says (time_variable v) f env = ((λ h none. h (λ d x. none d ((of_time v d).0 x.0, x.1))), λ h none. h (λ d x. none d ((of_time v d).1 x.0, x.1)))
  drop_says (data_variable v) f env =
      ((λ h. some_value over.sorts v f env is.sorts h), λ h. stable (disjunction (for_each_sort over.sorts v f)) over.structure env (λ fails. h (λ d x. fails (value_some v f env d x))))

  pub value_known : (v : Variable) (env : Assignment) → IsKnownAt texts env v → IsValue texts v (value_at v env)
  value_known (time_variable v) env k = tt
  value_known (data_variable v) env k = k

  -- what is satisfied is satisfied without the variable
  pub drop_keeps : (v : Variable) (f : Form) (env : Assignment) → IsKnownAt texts env v → Satisfies f over.structure env → Satisfies (dropped over v f) over.structure env
  drop_keeps v f env k h =
      (drop_says v f env).1 (λ none. none (value_at v env) (
        value_known v env k,
        (same_meaning f over.structure (with_value (name_of v) (value_at v env) env) env (all_by (SameAt (with_value (name_of v) (value_at v env) env) env) (free f) (λ w c. own_value v w env))).1 h,
      ))

  -- ---- the variables of a drop

  sort_free : (sorts : List Sort) (v : Identifier) (f : Form) (w : Variable) → AllByRecursion IsDataSort sorts → Contains (free_each (for_each_sort sorts v f)) w → Contains (free f) w × (w ≢ data_variable v)
  sort_free [] v f w texted c = absurd (contains_none w c)
  sort_free (Time ∷ sorts) v f w texted c = absurd texted.0
  sort_free (Data ∷ sorts) v f w texted c = ⊎_elim (λ a. (without_member (data_variable v) (free f) w).0 a) (λ b. sort_free sorts v f w texted.1 b) (in_one (free (exists v Data f)) (free_each (for_each_sort sorts v f)) w c)
  sort_free (Named name ∷ sorts) v f w texted c = ⊎_elim (λ a. (without_member (data_variable v) (free f) w).0 a) (λ b. sort_free sorts v f w texted.1 b) (in_one (free (exists v (Named name) f)) (free_each (for_each_sort sorts v f)) w c)

  -- those of the formula, but for the one that is dropped
  pub drop_free : (v : Variable) (f : Form) (w : Variable) → Contains (free (dropped over v f)) w → Contains (free f) w × (w ≢ v)
  drop_free (time_variable v) f w c = (without_member (time_variable v) (free f) w).0 c
  drop_free (data_variable v) f w c = sort_free over.sorts v f w is.sorts c
