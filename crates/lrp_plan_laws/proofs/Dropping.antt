-- How a plan drops texts: what one way of planning has, and another has otherwise.
use Rattle.std.proofs.Common.{◌≡◌, ◌≢◌, ◌↔◌, ⊎_elim, ℕ, Bool, true, false, cond, not, List, [], ◌∷◌, Contains, filter, refl, sym, subst}
use Rattle.std.specs.List.{AllByRecursion}
use Rattle.lrp_model.specs.Texts.{Identifier}
use Rattle.lrp_model.specs.Formulas.{Form, exists}
use Rattle.lrp_model.specs.Variables.{Variable, data_variable, same_variable, free}
use Rattle.lrp_model.specs.declared.relations.Sort.TheVariants.{Data}
use Rattle.lrp_model.specs.declared.relations.Relation.{Relation}
use Rattle.lrp_model.specs.declared.plans.StepKind.{StepKind}
use Rattle.lrp_model.specs.declared.plans.StepKind.TheVariants.{Scan, Leaf, Sort as SortStep, Join, Select, Union, Minus, Complement, DropTime, DropData, Extend}
use Rattle.lrp_model.proofs.Decided.{cons_cases}
use Rattle.lrp_plan_laws.specs.Made.{IsEarlier, operands, AreWithout}
use Rattle.lrp_plan_laws.proofs.Marks.{Mark, marks}
use Rattle.lrp_plan_laws.proofs.Members.{all_of, all_self, all_later}
use Rattle.lrp_plan_laws.proofs.Names.{Names, names_self, same_own, without_is}

-- the formula of a drop of texts names what a quantifier over it names
pub record Rules : Type 1 where
  pub drops : Identifier → Form → Form → Type 0
  pub names : (v : Identifier) (f g : Form) → drops v f g → (db : List Relation) (ws : List Variable) (ks : List Mark) → Names db g ws ks ↔ Names db (exists v Data f) ws ks

-- the formula of a drop of texts is as the rules make it
abbrev pub IsDrop : Rules → (ℕ → Form) → StepKind → Form → Type 0
IsDrop rules at (DropData of v) f = rules.drops v (at of) f
IsDrop rules at kind f = Unit {0}

-- and stays so where more steps follow
pub moved_drop : (rules : Rules) (at other : ℕ → Form) (s : ℕ) → ((l : ℕ) → IsEarlier s l → other l ≡ at l) → (kind : StepKind) (f : Form) → AllByRecursion (IsEarlier s) (operands kind) → IsDrop rules at kind f → IsDrop rules other kind f
moved_drop rules at other s same (Scan name terms) f o h = tt
moved_drop rules at other s same (Leaf t) f o h = tt
moved_drop rules at other s same (SortStep v sort texts) f o h = tt
moved_drop rules at other s same (Join left right tests) f o h = tt
moved_drop rules at other s same (Select of t) f o h = tt
moved_drop rules at other s same (Union left right) f o h = tt
moved_drop rules at other s same (Minus left right) f o h = tt
moved_drop rules at other s same (Complement of) f o h = tt
moved_drop rules at other s same (DropTime of v) f o h = tt
moved_drop rules at other s same (DropData of v) f o h = subst (λ a. rules.drops v a f) (sym (same of o.0)) h
moved_drop rules at other s same (Extend of) f o h = tt

-- ---- without a variable

-- one variable that is b is left out
other_at : (b w : Variable) (rest : List Variable) (t : Bool) → same_variable b w ≡ t → AllByRecursion (λ x. x ≢ b) rest → AllByRecursion (λ x. x ≢ b) (cond (not t) (w ∷ rest) rest)
other_at b w rest true e h = h
other_at b w rest false e h = ((λ q. let t : same_variable b w ≡ true = subst (λ x. same_variable b x ≡ true) (sym q) (same_own b) in cc), h)

-- none that is left is b
others : (b : Variable) (vs : List Variable) → AllByRecursion (λ x. x ≢ b) (filter (λ w. not (same_variable b w)) vs)
others b [] = tt
others b (v ∷ vs) = other_at b v (filter (λ w. not (same_variable b w)) vs) (same_variable b v) refl (others b vs)

-- those that are left are the others
pub without_member : (b : Variable) (vs : List Variable) (w : Variable) → Contains (filter (λ x. not (same_variable b x)) vs) w ↔ (Contains vs w × (w ≢ b))
without_member b vs w =
    let rest : List Variable = filter (λ x. not (same_variable b x)) vs in
    let back : AllByRecursion (Contains (b ∷ rest)) vs = (without_is rest b vs).0 (all_self rest) in
    let on : AllByRecursion (Contains vs) rest = (without_is vs b vs).1 (all_later b vs vs (all_self vs)) in (
      (λ c. (all_of (Contains vs) rest w on c, all_of (λ x. x ≢ b) rest w (others b vs) c)),
      λ h. ⊎_elim (λ e. absurd (h.1 (sym e))) (λ c. c) (cons_cases b w rest (all_of (Contains (b ∷ rest)) vs w back h.0)),
    )

-- a drop of texts has the variables of its operand without the one that it drops
pub drop_without : (rules : Rules) (v : Identifier) (f g : Form) → rules.drops v f g → AreWithout v (free f) (free g)
drop_without rules v f g d w =
    let q : Form = exists v Data f in
    let on : AllByRecursion (Contains (free q)) (free g) = ((rules.names v f g d [] (free q) (marks q [])).1 (names_self [] q)).0 in
    let back : AllByRecursion (Contains (free g)) (free q) = ((rules.names v f g d [] (free g) (marks g [])).0 (names_self [] g)).0 in
    let m = without_member (data_variable v) (free f) w in
    ((λ c. m.0 (all_of (Contains (free q)) (free g) w on c)), λ h. all_of (Contains (free g)) (free q) w back (m.1 h))
