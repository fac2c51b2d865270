-- Assignments that differ in some variables alone: what holds for some of them, and what a drop, or a quantifier, has to do with it.
use Rattle.std.proofs.Common.{◌≡◌, ◌≢◌, ◌↔◌, ◌⊎◌, ⊎_elim, inl, inr, Bool, true, false, List, [], ◌∷◌, ◌++◌, Contains, refl, sym, ap, subst, ◌∙◌, cond}
use Rattle.std.specs.Cmp.Lexicographic.{bytes_decides}
use Rattle.lrp_model.specs.Texts.{Text, Identifier}
use Rattle.lrp_model.specs.Rows.{Datum, time, text}
use Rattle.lrp_model.specs.Formulas.{Form, exists}
use Rattle.lrp_model.specs.Variables.{Variable, time_variable, data_variable, bound_by, same_variable, head_variables, free}
use Rattle.lrp_model.specs.Satisfaction.{Structure, Assignment, Satisfies, ForSome, IsOfSort, SameAt, with_value}
use Rattle.lrp_model.specs.declared.relations.Sort.{Sort}
use Rattle.lrp_model.specs.declared.relations.Sort.TheVariants.{Time, Data, Named}
use Rattle.lrp_model.specs.declared.relations.Column.{Column}
use Rattle.lrp_model.proofs.Decided.{cons_cases, contains_none, contains_first, contains_later}
use Rattle.lrp_model.proofs.FreeLaws.{same_meaning}
use Rattle.lrp_model.proofs.Stable.{stable}
use Rattle.lrp_plan_laws.specs.Made.{IsDataSort}
use Rattle.lrp_plan_laws.specs.Guards.{IsGuarded}
use Rattle.lrp_plan_laws.specs.Projections.{PlanGround as Ground}
use Rattle.lrp_plan_laws.proofs.Dropped.{IsGround, IsValue, IsKnownAt, dropped, name_of, value_at, other_value, known_value, stays_known, value_known, drop_says, drop_keeps}
use Rattle.lrp_plan_laws.proofs.Members.{all_by, in_one}
use Rattle.lrp_plan_laws.proofs.Names.{same_is, same_own}

-- ---- variables among others, decided

cons_among : (v w : Variable) (ws : List Variable) → Contains ws v ⊎ (Contains ws v → ⊥) → (v ≡ w) ⊎ (v ≢ w) → Contains (w ∷ ws) v ⊎ (Contains (w ∷ ws) v → ⊥)
cons_among v w ws (inl c) e = inl (contains_later w v ws c)
cons_among v w ws (inr n) (inl e) = inl (subst (Contains (w ∷ ws)) (sym e) (contains_first w ws))
cons_among v w ws (inr n) (inr d) = inr (λ c. ⊎_elim (λ e. d (sym e)) (λ k. n k) (cons_cases w v ws c))

same_by : (v w : Variable) (b : Bool) → same_variable v w ≡ b → (v ≡ w) ⊎ (v ≢ w)
same_by v w true e = inl (same_is v w e)
same_by v w false e = inr (λ q. let t : same_variable v w ≡ true = subst (λ x. same_variable v x ≡ true) q (same_own v) in cc)

-- two variables are one, or they are not
pub one_or_two : (v w : Variable) → (v ≡ w) ⊎ (v ≢ w)
one_or_two v w = same_by v w (same_variable v w) refl

-- a variable is one of a list, or it is not
pub among_or_not : (ws : List Variable) (v : Variable) → Contains ws v ⊎ (Contains ws v → ⊥)
among_or_not [] v = inr (λ c. contains_none v c)
among_or_not (w ∷ ws) v = cons_among v w ws (among_or_not ws v) (one_or_two v w)

-- ---- equal values

pub same_back : (w : Variable) (a b : Assignment) → SameAt a b w → SameAt b a w
same_back (time_variable v) a b e = sym e
same_back (data_variable v) a b e = sym e

pub same_on : (w : Variable) (a b c : Assignment) → SameAt a b w → SameAt b c w → SameAt a c w
same_on (time_variable v) a b c d e = d ∙ e
same_on (data_variable v) a b c d e = d ∙ e

pub same_self : (w : Variable) (a : Assignment) → SameAt a a w
same_self (time_variable v) a = refl
same_self (data_variable v) a = refl

-- a formula without the variables in which assignments differ
pub unmoved : (f : Form) (M : Structure) (a b : Assignment) → ((w : Variable) → Contains (free f) w → SameAt a b w) → Satisfies f M a → Satisfies f M b
unmoved f M a b same h = (same_meaning f M a b (all_by (SameAt a b) (free f) same)).0 h

-- a variable gets the value of another assignment
taken_own : (v : Variable) (env e : Assignment) → SameAt (with_value (name_of v) (value_at v env) e) env v
taken_own (time_variable v) env e = ap (λ b. cond b (env.times v) (e.times v)) ((bytes_decides v v).1 refl)
taken_own (data_variable v) env e = ap (λ b. cond b (env.texts v) (e.texts v)) ((bytes_decides v v).1 refl)

-- its own value is one
own_is_value : (v : Variable) (env : Assignment) → (texts : List Text) × IsValue texts v (value_at v env)
own_is_value (time_variable v) env = ([], tt)
own_is_value (data_variable v) env = (env.texts v ∷ [], contains_first (env.texts v) [])

-- and all others are left
taken_other : (v w : Variable) (env e : Assignment) → w ≢ v → SameAt (with_value (name_of v) (value_at v env) e) e w
taken_other v w env e n = let k = own_is_value v env in other_value k.0 v w (value_at v env) e k.1 n

-- ---- some assignment that differs in these variables alone

-- it differs in none but these, and their texts are known
pub record Ranges (texts : List Text) (vs : List Variable) (env e : Assignment) : Type 0 where
  pub others : (w : Variable) → (Contains vs w → ⊥) → SameAt e env w
  pub known : (w : Variable) → Contains vs w → IsKnownAt texts e w

abbrev pub SomeOver : List Text → List Variable → (Assignment → Type 0) → Assignment → Type 0
SomeOver texts vs p env = ForSome (λ e. Ranges texts vs env e × p e)

-- what is known is known of each of them too
pub ranges_known : (texts : List Text) (ws vs : List Variable) (env e : Assignment) → ((w : Variable) → Contains ws w → IsKnownAt texts env w) → Ranges texts vs env e → (w : Variable) → Contains (ws ++ vs) w → IsKnownAt texts e w
ranges_known texts ws vs env e k r w c = ⊎_elim (λ a. by (among_or_not vs w) a) (λ b. r.known w b) (in_one ws vs w c)
  where
    by : Contains vs w ⊎ (Contains vs w → ⊥) → Contains ws w → IsKnownAt texts e w
    by (inl d) a = r.known w d
    by (inr n) a = stays_known texts w e env (r.others w n) (k w a)

-- what is the same of each is the same of some
pub some_map : (texts : List Text) (vs : List Variable) (p q : Assignment → Type 0) (env : Assignment) → ((e : Assignment) → Ranges texts vs env e → p e → q e) → SomeOver texts vs p env → SomeOver texts vs q env
some_map texts vs p q env f h none = h (λ e x. none e (x.0, f e x.0 x.1))

-- the same variables in another order
pub some_same : (texts : List Text) (vs ws : List Variable) (p : Assignment → Type 0) (env : Assignment) → ((w : Variable) → Contains vs w ↔ Contains ws w) → SomeOver texts vs p env → SomeOver texts ws p env
some_same texts vs ws p env same h none = h (λ e x. none e (record { others = λ w n. x.0.others w (λ c. n ((same w).0 c)); known = λ w c. x.0.known w ((same w).1 c) }, x.1))

-- no variable: the assignment itself
pub some_none : (texts : List Text) (f : Form) (M : Structure) (env : Assignment) → SomeOver texts [] (Satisfies f M) env ↔ Satisfies f M env
some_none texts f M env = (
  (λ h. stable f M env (λ fails. h (λ e x. fails (unmoved f M e env (λ w c. x.0.others w (λ d. contains_none w d)) x.1)))),
  λ s none. none env (record { others = λ w n. same_self w env; known = λ w c. absurd (contains_none w c) }, s),
)

-- what a formula says does not depend on the variable
abbrev pub IsFreeOf : Variable → (Assignment → Type 0) → Type 0
IsFreeOf v p = (a b : Assignment) → ((w : Variable) → w ≢ v → SameAt a b w) → p a → p b

module _ (over : Ground) (texts : List Text) (is : IsGround over texts) (v : Variable) (vs ws : List Variable) (split : (w : Variable) → Contains vs w ↔ ((w ≡ v) ⊎ Contains ws w)) (f : Form) (p : Assignment → Type 0) (apart : IsFreeOf v p) (env : Assignment) where
  abbrev With : Assignment → Type 0
  With e = Satisfies f over.structure e × p e

  abbrev Without : Assignment → Type 0
  Without e = Satisfies (dropped over v f) over.structure e × p e

  -- the variable is among the others
  kept_in : (e : Assignment) → Contains ws v → Ranges texts vs env e → With e → Ranges texts ws env e × Without e
  kept_in e c r h = (
    record { others = λ w n. r.others w (λ d. ⊎_elim (λ q. n (subst (Contains ws) (sym q) c)) (λ k. n k) ((split w).0 d)); known = λ w k. r.known w ((split w).1 (inr k)) },
    (drop_keeps over texts is v f e (r.known v ((split v).1 (inl refl))) h.0, h.1),
  )

  -- it is not: it gets its value back
  put_back : (e : Assignment) → (Contains ws v → ⊥) → Ranges texts vs env e → With e → (a : Assignment) × (Ranges texts ws env a × Without a)
  put_back e n r h =
      let a : Assignment = with_value (name_of v) (value_at v env) e in (
        a,
        (
          record {
            others = λ w k. other w k (one_or_two w v);
            known = λ w c. stays_known texts w a e (taken_other v w env e (λ q. n (subst (Contains ws) q c))) (r.known w ((split w).1 (inr c)));
          },
          (
            (drop_says over texts is v f a).1 (λ none. none (value_at v e) (value_known over texts is v e (r.known v ((split v).1 (inl refl))), unmoved f over.structure e (with_value (name_of v) (value_at v e) a) (λ w c. again w (one_or_two w v)) h.0)),
            apart e a (λ w d. same_back w a e (taken_other v w env e d)) h.1,
          ),
        ),
      )
    where
      other : (w : Variable) → (Contains ws w → ⊥) → (w ≡ v) ⊎ (w ≢ v) → SameAt (with_value (name_of v) (value_at v env) e) env w
      other w k (inl q) = subst (SameAt (with_value (name_of v) (value_at v env) e) env) (sym q) (taken_own v env e)
      other w k (inr d) = same_on w (with_value (name_of v) (value_at v env) e) e env (taken_other v w env e d) (r.others w (λ c. ⊎_elim (λ q. d q) (λ m. k m) ((split w).0 c)))

      again : (w : Variable) → (w ≡ v) ⊎ (w ≢ v) → SameAt e (with_value (name_of v) (value_at v e) (with_value (name_of v) (value_at v env) e)) w
      again w (inl q) = same_back w (with_value (name_of v) (value_at v e) (with_value (name_of v) (value_at v env) e)) e (subst (SameAt (with_value (name_of v) (value_at v e) (with_value (name_of v) (value_at v env) e)) e) (sym q) (taken_own v e (with_value (name_of v) (value_at v env) e)))
      again w (inr d) =
          same_back w (with_value (name_of v) (value_at v e) (with_value (name_of v) (value_at v env) e)) e
          (same_on w (with_value (name_of v) (value_at v e) (with_value (name_of v) (value_at v env) e)) (with_value (name_of v) (value_at v env) e) e (taken_other v w e (with_value (name_of v) (value_at v env) e) d) (taken_other v w env e d))

  -- the variable gets the value that the drop says
  brought_in : (e : Assignment) (d : Datum) → Ranges texts ws env e → IsValue texts v d → Satisfies f over.structure (with_value (name_of v) d e) → p e → Ranges texts vs env (with_value (name_of v) d e) × With (with_value (name_of v) d e)
  brought_in e d r value h q = (
    record {
      others = λ w n. same_on w (with_value (name_of v) d e) e env (other_value texts v w d e value (λ x. n ((split w).1 (inl x)))) (r.others w (λ c. n ((split w).1 (inr c))));
      known = λ w c. known w (one_or_two w v) ((split w).0 c);
    },
    (h, apart e (with_value (name_of v) d e) (λ w n. same_back w (with_value (name_of v) d e) e (other_value texts v w d e value n)) q),
  )
    where
      known : (w : Variable) → (w ≡ v) ⊎ (w ≢ v) → (w ≡ v) ⊎ Contains ws w → IsKnownAt texts (with_value (name_of v) d e) w
      known w (inl x) c = subst (IsKnownAt texts (with_value (name_of v) d e)) (sym x) (known_value texts v d e value)
      known w (inr n) (inl x) = absurd (n x)
      known w (inr n) (inr c) = stays_known texts w (with_value (name_of v) d e) e (other_value texts v w d e value n) (r.known w c)

  -- for some values of all variables exactly where the drop for some values of the others
  pub drop_one : SomeOver texts vs With env ↔ SomeOver texts ws Without env
  drop_one = (
    (λ h none. h (λ e x. ⊎_elim (λ c. let y = kept_in e c x.0 x.1 in none e y) (λ n. let y = put_back e n x.0 x.1 in none y.0 y.1) (among_or_not ws v))),
    λ h none. h (λ e x. (drop_says over texts is v f e).0 x.1.0 (λ d y. none (with_value (name_of v) d e) (brought_in e d x.0 y.0 y.1 x.1.1))),
  )

-- ---- quantifiers around a formula

-- the quantifiers of these binders, the innermost first, around a formula
abbrev pub closed_by : List Column → Form → Form
closed_by [] f = f
closed_by (c ∷ cs) f = closed_by cs (exists c.name c.sort f)

-- each quantifier over texts is guarded by the formula that it takes
abbrev pub AreGuarded : List Text → Structure → List Column → Form → Type 0
AreGuarded texts M [] f = Unit {0}
AreGuarded texts M (c ∷ cs) f = (IsDataSort c.sort → IsGuarded texts M c.name c.sort f) × AreGuarded texts M cs (exists c.name c.sort f)

module _ (over : Ground) (texts : List Text) (is : IsGround over texts) where
  -- a guarded quantifier over texts says that some known text stands for its variable
  text_quantifier : (v : Identifier) (s : Sort) (f : Form) (env : Assignment) → IsDataSort s → IsGuarded texts over.structure v s f → ((d : Datum) → IsOfSort over.structure s d → IsValue texts (data_variable v) d)
      → ((t : Text) → Contains (over.structure.domain s) t → IsOfSort over.structure s (text t)) → Satisfies (exists v s f) over.structure env ↔ Satisfies (dropped over (data_variable v) f) over.structure env
  text_quantifier v s f env texted g to from = (
    (λ h. (drop_says over texts is (data_variable v) f env).1 (λ none. h (λ d x. none d (to d x.0, x.1)))),
    λ h none. (drop_says over texts is (data_variable v) f env).0 h (λ d x. back d x.0 x.1 none),
  )
    where
      back : (d : Datum) → IsValue texts (data_variable v) d → Satisfies f over.structure (with_value v d env) → ((a : Datum) → IsOfSort over.structure s a × Satisfies f over.structure (with_value v a env) → ⊥) → ⊥
      back (time x) value h none = absurd value
      back (text t) value h none = none (text t) (from t (g.guards env t value h), h)

  -- a quantifier as a drop of its variable
  pub quantifier_drops : (c : Column) (f : Form) (env : Assignment) → (IsDataSort c.sort → IsGuarded texts over.structure c.name c.sort f) → Satisfies (exists c.name c.sort f) over.structure env ↔ Satisfies (dropped over (bound_by c.sort c.name) f) over.structure env
  quantifier_drops c f env g = by c.sort g
    where
      of_data : (d : Datum) → IsOfSort over.structure Data d → IsValue texts (data_variable c.name) d
      of_data (time x) h = absurd h
      of_data (text t) h = is.known Data t h

      of_named : (name : Identifier) (d : Datum) → IsOfSort over.structure (Named name) d → IsValue texts (data_variable c.name) d
      of_named name (time x) h = absurd h
      of_named name (text t) h = is.known (Named name) t h

      by : (s : Sort) → (IsDataSort s → IsGuarded texts over.structure c.name s f) → Satisfies (exists c.name s f) over.structure env ↔ Satisfies (dropped over (bound_by s c.name) f) over.structure env
      by Time k = ((λ h. h), λ h. h)
      by Data k = text_quantifier c.name Data f env tt (k tt) of_data (λ t m. m)
      by (Named name) k = text_quantifier c.name (Named name) f env tt (k tt) (of_named name) (λ t m. m)

  nothing : (v : Variable) → IsFreeOf v (λ e. Unit {0})
  nothing v a b same h = tt

  -- all quantifiers together say that it holds for some values of their variables
  pub closed_says : (cs : List Column) (f : Form) (env : Assignment) → AreGuarded texts over.structure cs f → Satisfies (closed_by cs f) over.structure env ↔ SomeOver texts (head_variables cs) (Satisfies f over.structure) env
  closed_says [] f env g = let k = some_none texts f over.structure env in (k.1, k.0)
  closed_says (c ∷ cs) f env g =
      let v : Variable = bound_by c.sort c.name in
      let r = closed_says cs (exists c.name c.sort f) env g.1 in
      let d = drop_one over texts is v (v ∷ head_variables cs) (head_variables cs) (λ w. ((λ x. ⊎_elim (λ e. inl (sym e)) (λ k. inr k) (cons_cases v w (head_variables cs) x)), λ x. ⊎_elim (λ e. subst (Contains (v ∷ head_variables cs)) (sym e) (contains_first v (head_variables cs))) (λ k. contains_later v w (head_variables cs) k) x)) f (λ e. Unit {0}) (nothing v) env in (
        (λ h. some_map texts (v ∷ head_variables cs) _ _ env (λ e x y. y.0) (d.1 (some_map texts (head_variables cs) _ _ env (λ e x y. ((quantifier_drops c f e g.0).0 y, tt)) (r.0 h)))),
        λ h. r.1 (some_map texts (head_variables cs) _ _ env (λ e x y. (quantifier_drops c f e g.0).1 y.0) (d.0 (some_map texts (v ∷ head_variables cs) _ _ env (λ e x y. (y, tt)) h))),
      )
