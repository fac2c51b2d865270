-- Where each assignment that satisfies a formula lies in one of few cells, few cells of the formula are inhabited.
use Rattle.std.proofs.Common.{◌≡◌, ℕ, ◌≤◌, Bool, true, false, cond, not, List, [], ◌∷◌, filter, refl, sym, subst, ◌∙◌, arith}
use Rattle.std.specs.Prelude.{ℤ, pos, ◌-ℤ◌, ◌≤ℤ◌, ◌<ℤ◌}
use Rattle.std.specs.List.{AllByRecursion}
use Rattle.std.proofs.lemmas.Int.{ints}
use Rattle.lrp_theory.specs.Divides.{Divides, IsPointMember}
use Rattle.lrp_theory.proofs.Modulo.{Divides-is, Divides--, small_multiple}
use Rattle.lrp_model.specs.Texts.{Text, Identifier}
use Rattle.lrp_model.specs.Rows.{Datum, time, text}
use Rattle.lrp_model.specs.Formulas.{Form, Forms, conjunction, exists, form}
use Rattle.lrp_model.specs.Variables.{Variable, time_variable, data_variable, bound_by, same_variable}
use Rattle.lrp_model.specs.Satisfaction.{Structure, Assignment, Satisfies, IsOfSort, with_value}
use Rattle.lrp_model.specs.Cells.{FormCell, LiesIn, IsInhabited, Agree, Differ, ManyCells}
use Rattle.lrp_model.specs.declared.relations.Sort.{Sort}
use Rattle.lrp_model.specs.declared.relations.Sort.TheVariants.{Time, Data, Named}
use Rattle.lrp_sample.proofs.Few.{HasSome, few}

-- the variable's integer has the cell's residue modulo K, which is from 0 to K - 1; or its text is the cell's
abbrev pub Lies : ℕ → Assignment → FormCell → Variable → Type 0
Lies K env cell (time_variable v) = (pos 0 ≤ℤ cell.residues v) × (cell.residues v <ℤ pos K) × IsPointMember (cell.residues v) (pos K) (env.times v)
Lies K env cell (data_variable v) = env.texts v ≡ cell.texts v

-- the assignment lies in the cell of this number
abbrev pub LiesAt : ℕ → (ℕ → FormCell) → List Variable → Assignment → ℕ → Type 0
LiesAt K cell vs env k = AllByRecursion (Lies K env (cell k)) vs

-- each assignment that satisfies the formula lies in one of the first n cells
abbrev pub LieIn : Structure → ℕ → ℕ → (ℕ → FormCell) → List Variable → Form → Type 0
LieIn M K n cell vs f = (env : Assignment) → Satisfies f M env → HasSome (LiesAt K cell vs) n env

-- ---- cells in which one assignment lies are one

pub one_residue : (K : ℕ) (r s x : ℤ) → pos 0 ≤ℤ r → r <ℤ pos K → pos 0 ≤ℤ s → s <ℤ pos K → IsPointMember r (pos K) x → IsPointMember s (pos K) x → r ≡ s
one_residue K r s x rl rh sl sh rm sm =
    let d : Divides (pos K) (r -ℤ s) = Divides-is (pos K) ((x -ℤ s) -ℤ (x -ℤ r)) (r -ℤ s) (omega (arith, ints)) (Divides-- (pos K) (x -ℤ s) (x -ℤ r) sm rm) in
    let z : r -ℤ s ≡ pos 0 = small_multiple K (r -ℤ s) d (omega (arith, ints)) (omega (arith, ints)) in
    omega (arith, ints)

agreed : (K : ℕ) (constants : List Text) (env : Assignment) (c d : FormCell) (v : Variable) → LiesIn K constants env c v → Lies K env d v → Agree c d v
agreed K constants env c d (time_variable v) h g = one_residue K (c.residues v) (d.residues v) (env.times v) h.0 h.1 g.0 g.1 h.2 g.2
agreed K constants env c d (data_variable v) h g = sym h.1 ∙ g

all_agreed : (K : ℕ) (constants : List Text) (env : Assignment) (c d : FormCell) (vs : List Variable) → AllByRecursion (LiesIn K constants env c) vs → AllByRecursion (Lies K env d) vs → AllByRecursion (Agree c d) vs
all_agreed K constants env c d [] h g = tt
all_agreed K constants env c d (v ∷ vs) h g = (agreed K constants env c d v h.0 g.0, all_agreed K constants env c d vs h.1 g.1)

both_agree : (a b c : FormCell) (v : Variable) → Agree a c v → Agree b c v → Agree a b v
both_agree a b c (time_variable v) h g = h ∙ sym g
both_agree a b c (data_variable v) h g = h ∙ sym g

all_agree : (a b c : FormCell) (vs : List Variable) → AllByRecursion (Agree a c) vs → AllByRecursion (Agree b c) vs → AllByRecursion (Agree a b) vs
all_agree a b c [] h g = tt
all_agree a b c (v ∷ vs) h g = (both_agree a b c v h.0 g.0, all_agree a b c vs h.1 g.1)

-- no more than n cells are inhabited
pub few_cells : (M : Structure) (K n cap : ℕ) (cell : ℕ → FormCell) (constants : List Text) (vs : List Variable) (f : Form) → n ≤ cap → LieIn M K n cell vs f → ManyCells M K constants vs f cap → ⊥
few_cells M K n cap cell constants vs f le lie =
    few (λ c k. AllByRecursion (Agree c (cell k)) vs) n (Differ vs) (IsInhabited M K constants vs f)
    (λ a b k h g differ. differ (all_agree a b (cell k) vs h g))
    (λ c i none. lie i.witness i.satisfies (λ k l g. none k l (all_agreed K constants i.witness c (cell k) vs i.inside g)))
    cap le

-- ---- from a formula to those that are made of it

module _ (M : Structure) (K n : ℕ) (cell : ℕ → FormCell) where
  -- what satisfies a conjunction satisfies its first element
  pub of_first : (vs : List Variable) (f : Form) (fs : Forms) → LieIn M K n cell vs f → LieIn M K n cell vs (conjunction (form f fs))
  of_first vs f fs lie env h = lie env h.0

  -- what lies in a cell at some variables lies in it at others
  pub widened : (vs ws : List Variable) (f : Form) → ((env : Assignment) (c : FormCell) → AllByRecursion (Lies K env c) vs → AllByRecursion (Lies K env c) ws) → LieIn M K n cell vs f → LieIn M K n cell ws f
  widened vs ws f more lie env h none = lie env h (λ k l g. none k l (more env (cell k) g))

-- the variables but for one
abbrev pub others : Sort → Identifier → List Variable → List Variable
others s v = filter (λ w. not (same_variable (bound_by s v) w))

-- the value of a variable does not matter at another
kept : (M : Structure) (K : ℕ) (cell : FormCell) (env : Assignment) (s : Sort) (v : Identifier) (d : Datum) (w : Variable) → IsOfSort M s d → same_variable (bound_by s v) w ≡ false → Lies K (with_value v d env) cell w → Lies K env cell w
kept M K cell env Time v (time x) (time_variable w) is e h = (h.0, h.1, subst (λ b. IsPointMember (cell.residues w) (pos K) (cond b x (env.times w))) e h.2)
kept M K cell env Time v (time x) (data_variable w) is e h = h
kept M K cell env Time v (text t) w is e h = absurd is
kept M K cell env Data v (time x) w is e h = absurd is
kept M K cell env Data v (text t) (time_variable w) is e h = h
kept M K cell env Data v (text t) (data_variable w) is e h = subst (λ b. cond b t (env.texts w) ≡ cell.texts w) e h
kept M K cell env (Named name) v (time x) w is e h = absurd is
kept M K cell env (Named name) v (text t) (time_variable w) is e h = h
kept M K cell env (Named name) v (text t) (data_variable w) is e h = subst (λ b. cond b t (env.texts w) ≡ cell.texts w) e h

put_kept : (M : Structure) (K : ℕ) (cell : FormCell) (env : Assignment) (s : Sort) (v : Identifier) (d : Datum) (w : Variable) (ws : List Variable) (b : Bool) → IsOfSort M s d → same_variable (bound_by s v) w ≡ b
    → Lies K (with_value v d env) cell w → AllByRecursion (Lies K env cell) ws → AllByRecursion (Lies K env cell) (cond (not b) (w ∷ ws) ws)
put_kept M K cell env s v d w ws true is e h rest = rest
put_kept M K cell env s v d w ws false is e h rest = (kept M K cell env s v d w is e h, rest)

all_kept : (M : Structure) (K : ℕ) (cell : FormCell) (env : Assignment) (s : Sort) (v : Identifier) (d : Datum) (vs : List Variable) → IsOfSort M s d → AllByRecursion (Lies K (with_value v d env) cell) vs → AllByRecursion (Lies K env cell) (others s v vs)
all_kept M K cell env s v d [] is h = tt
all_kept M K cell env s v d (w ∷ ws) is h =
    put_kept M K cell env s v d w (others s v ws) (same_variable (bound_by s v) w) is refl h.0 (all_kept M K cell env s v d ws is h.1)

-- a quantifier drops its variable from the cells
pub dropped : (M : Structure) (K n : ℕ) (cell : ℕ → FormCell) (v : Identifier) (s : Sort) (vs : List Variable) (f : Form)
    → LieIn M K n cell vs f → LieIn M K n cell (others s v vs) (exists v s f)
dropped M K n cell v s vs f lie env some none =
    some (λ d p. lie (with_value v d env) p.1 (λ k l a. none k l (all_kept M K (cell k) env s v d vs p.0 a)))
