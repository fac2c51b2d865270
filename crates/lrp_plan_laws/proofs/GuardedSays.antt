-- The plan of a core form under a guard says what the guard and the core form say.
use Rattle.std.proofs.Common.{◌≡◌, ◌↔◌, inl, ⊎_elim, ◌≤◌, ◌<◌, ◌+◌, ℕ, Bool, true, false, cond, ◌&&◌, List, [], ◌∷◌, ◌++◌, length, length-append, append_assoc, append-nil, reverse, Option, Some, None, nat_eq, Contains, refl, sym, ap, subst, ◌∙◌, arith}
use Rattle.lrp_model.specs.Texts.{Text, Identifier}
use Rattle.lrp_model.specs.Formulas.{Form, Forms, atom, test, sorted, negation, conjunction, disjunction, implication, exists, forall, no_forms, form}
use Rattle.lrp_model.specs.Variables.{Variable, bound_by, are_among, variables_of_test, free, free_each, head_variables}
use Rattle.lrp_model.specs.Satisfaction.{Structure, Assignment, Satisfies, SatisfiesAll, SatisfiesSome, Either}
use Rattle.lrp_model.specs.Core.{IsCore, AreCore, HasElement}
use Rattle.lrp_model.specs.Conjunctions.{is_test, tests_in}
use Rattle.lrp_model.specs.Steps.{Steps, Rule, formula_at, made, join, union, scan_of, leaf, sort_texts}
use Rattle.lrp_model.specs.declared.relations.Sort.{Sort}
use Rattle.lrp_model.specs.declared.relations.Column.{Column}
use Rattle.lrp_model.specs.declared.formulas.Test.{Test}
use Rattle.lrp_model.specs.declared.formulas.Test.TheVariants.{Compare, Member, Equal}
use Rattle.lrp_model.specs.declared.plans.StepKind.{StepKind}
use Rattle.lrp_model.specs.declared.plans.StepKind.TheVariants.{Scan, Leaf, Sort as SortStep}
use Rattle.lrp_model.proofs.Logic.{same, then_iff, all_append}
use Rattle.lrp_model.proofs.Stable.{stable}
use Rattle.lrp_model.proofs.Decided.{contains_none, cons_cases, contains_first, contains_later}
use Rattle.lrp_plan_laws.specs.Binding.{is_guarded_by}
use Rattle.lrp_plan_laws.specs.Made.{AreAmong, IsDataSort}
use Rattle.lrp_plan_laws.specs.Guards.{IsGuarded}
use Rattle.lrp_plan_laws.specs.Projections.{PlanGround as Ground, drop_each, last_drop, project, projected}
use Rattle.lrp_plan_laws.specs.GuardedConjunctions.{GuardedRule, GuardedPart as Part, Elements, select_from, guarded_conjunction as conjunction_rule}
use Rattle.lrp_plan_laws.specs.GuardedPlans.{leaf_under, test_under, ending, member_under, member, further_members, disjunction_rule, atoms_in, sorts_in, as_part, build, others_in, negations_in, members_in}
use Rattle.lrp_plan_laws.proofs.Elements.{formula_front}
use Rattle.lrp_plan_laws.proofs.Members.{in_left, in_right, in_one}
use Rattle.lrp_plan_laws.proofs.PlanBuilds.{EachGuard, EachOfGuard}
use Rattle.lrp_plan_laws.proofs.Dropped.{IsGround, stays_known}
use Rattle.lrp_plan_laws.proofs.Ranging.{among_or_not, same_back, unmoved, Ranges, SomeOver, some_map, some_same, some_none, closed_by, AreGuarded, closed_says}
use Rattle.lrp_plan_laws.proofs.Telling.{Saying, AreKnown, Tells, tells_made, tells_same, tells_from, select_from_tells, join_tells, union_tells, Drops, drops, last_drop_last, Projects, projects}
use Rattle.lrp_plan_laws.proofs.GuardedStanding.{GuardSays, FitsGuard, IsSoundRule, AreSoundParts, Nothing}
use Rattle.lrp_plan_laws.proofs.GuardedTaking.{StandsFor}
use Rattle.lrp_plan_laws.proofs.GuardedTelling.{drops_say}
use Rattle.lrp_plan_laws.proofs.GuardedWhole.{closed_free}
use Rattle.lrp_plan_laws.proofs.GuardedConjunction.{ElementsSay, ElementsAmong, element_count, conjunction_sound}
use Rattle.lrp_plan_laws.proofs.GuardedAnd.{turned_has, nat_same}

module _ (over : Ground) (texts : List Text) (valid : IsGround over texts) (alone : StandsFor over.structure) where
  -- ---- guards

  -- a guard of the whole is one of the formula
  guard_inner : (guard : Option ℕ) (steps : Steps) (cs : List Column) (f : Form) → FitsGuard guard steps (free (closed_by cs f)) → FitsGuard guard steps (free f)
  guard_inner None steps cs f h = tt
  guard_inner (Some g) steps cs f h = (h.0, λ w c. ((closed_free cs f w).0 (h.1 w c)).0)

  -- a guard says the same whatever the values of the block
  guard_same : (guard : Option ℕ) (steps : Steps) (cs : List Column) (f : Form) (env e : Assignment) → FitsGuard guard steps (free (closed_by cs f)) → Ranges texts (head_variables cs) env e → GuardSays over.structure guard steps e ↔ GuardSays over.structure guard steps env
  guard_same None steps cs f env e h r = same
  guard_same (Some g) steps cs f env e h r =
      let a : Form = formula_at steps g in (
        unmoved a over.structure e env (λ w c. r.others w ((closed_free cs f w).0 (h.1 w c)).1),
        unmoved a over.structure env e (λ w c. same_back w e env (r.others w ((closed_free cs f w).0 (h.1 w c)).1)),
      )

  -- what a guard can't fail to say it says
  guard_stable : (guard : Option ℕ) (steps : Steps) (env : Assignment) → ((GuardSays over.structure guard steps env → ⊥) → ⊥) → GuardSays over.structure guard steps env
  guard_stable None steps env h = tt
  guard_stable (Some g) steps env h = stable (formula_at steps g) over.structure env h

  -- a guard stands where more steps follow
  guard_later : (guard : Option ℕ) (steps after more : Steps) (vs : List Variable) → after ≡ steps ++ more → FitsGuard guard steps vs → FitsGuard guard after vs
  guard_later None steps after more vs is h = tt
  guard_later (Some g) steps after more vs is h =
      let e : formula_at after g ≡ formula_at steps g = ap (λ s. formula_at s g) is ∙ formula_front steps more g h.0 in
      let l : length after ≡ length steps + length more = ap length is ∙ length-append steps more in
      let low : g ≤ length steps = h.0 in
      (omega (arith, l, low), λ w c. h.1 w (subst (λ f. Contains (free f) w) e c))

  -- and says the same
  guard_still : (guard : Option ℕ) (steps after more : Steps) (vs : List Variable) (env : Assignment) → after ≡ steps ++ more → FitsGuard guard steps vs → GuardSays over.structure guard after env ↔ GuardSays over.structure guard steps env
  guard_still None steps after more vs env is h = same
  guard_still (Some g) steps after more vs env is h = subst (λ f. Satisfies f over.structure env ↔ Satisfies (formula_at steps g) over.structure env) (sym (ap (λ s. formula_at s g) is ∙ formula_front steps more g h.0)) same

  -- more variables may be known
  widened : (vs room : List Variable) (before after : Steps) (q : Saying) → AreAmong vs room → Tells over.structure texts vs before after q → Tells over.structure texts room before after q
  widened vs room before after q among t = record { more = t.more; is = t.is; scope = λ w c. among w (t.scope w c); says = λ env k. t.says env (λ w c. k w (among w c)) }

  -- ---- the end of a block

  pub ending_says : (cs : List Column) (block : List Variable) (f : Form) (rule : GuardedRule) → ((w : Variable) → Contains block w ↔ Contains (head_variables cs) w) → AreGuarded texts over.structure cs f → IsSoundRule over texts f rule → IsSoundRule over texts (closed_by cs f) (ending block rule)
  ending_says cs block f rule same_block guarded sound guard steps fits =
      let hv : List Variable = head_variables cs in
      let after : Steps = rule over guard steps in
      let t : Tells over.structure texts (free f) steps after (λ env. GuardSays over.structure guard steps env × Satisfies f over.structure env) = sound guard steps (guard_inner guard steps cs f fits) in
      let vs : List Variable = reverse block in
      let turned : (w : Variable) → Contains vs w ↔ Contains hv w = λ w. then_iff (turned_has block w) (same_block w) in
      let a : Form = formula_at after (length after) in
      let all : Steps = drop_each over vs (length after) after in
      let d : Drops over.structure texts vs a after all (last_drop vs (length after) all) = drops over texts valid vs (length after) after (omega arith) in
      let last : last_drop vs (length after) all ≡ length all = last_drop_last over vs after in
      let g : Form = formula_at all (length all) in
      record {
        more = t.more ++ d.more;
        is = d.is ∙ ap (λ s. s ++ d.more) t.is ∙ append_assoc steps t.more d.more;
        scope = λ w c. let x = d.scope w (subst (λ n. Contains (free (formula_at all n)) w) (sym last) c) in (closed_free cs f w).1 (t.scope w x.0, λ m. x.1 ((turned w).1 m));
        says = λ env k.
            let b : SomeOver texts vs (λ e. Satisfies a over.structure e × Unit {0}) env ↔ SomeOver texts [] (λ e. Satisfies g over.structure e × Unit {0}) env =
            subst (λ n. SomeOver texts vs (λ e. Satisfies a over.structure e × Unit {0}) env ↔ SomeOver texts [] (λ e. Satisfies (formula_at all n) over.structure e × Unit {0}) env) last
            (drops_say over texts valid alone [] [] Nothing vs [] vs (length after) after (λ e. Unit {0}) env (λ w. ((λ c. inl c), λ c. ⊎_elim (λ x. x) (λ x. absurd (contains_none w x)) c)) (λ v c p q h u. tt) (omega arith)) in
            let known : (e : Assignment) → Ranges texts hv env e → AreKnown texts (free f) e =
            λ e r w c. ⊎_elim (λ m. r.known w m) (λ n. stays_known texts w e env (r.others w n) (k w ((closed_free cs f w).1 (c, n)))) (among_or_not hv w) in
            let s = some_none texts g over.structure env in
            let z = closed_says over texts valid cs f env guarded in (
              (λ h.
                  let x : SomeOver texts hv (λ e. Satisfies a over.structure e × Unit {0}) env = some_same texts vs hv _ env turned (b.1 (some_map texts [] _ _ env (λ e r y. (y, tt)) (s.1 h))) in
                  let y : SomeOver texts hv (λ e. GuardSays over.structure guard steps e × Satisfies f over.structure e) env = some_map texts hv _ _ env (λ e r u. (t.says e (known e r)).0 u.0) x in
                  (guard_stable guard steps env (λ fails. y (λ e u. fails ((guard_same guard steps cs f env e fits u.0).0 u.1.0))), z.1 (some_map texts hv _ _ env (λ e r u. u.1) y))),
              λ h.
                  let y : SomeOver texts hv (λ e. Satisfies a over.structure e × Unit {0}) env = some_map texts hv _ _ env (λ e r u. ((t.says e (known e r)).1 ((guard_same guard steps cs f env e fits r).1 h.0, u), tt)) (z.0 h.1) in
                  s.0 (some_map texts [] _ _ env (λ e r u. u.0) (b.0 (some_same texts hv vs _ env (λ w. ((turned w).1, (turned w).0)) y))),
            );
      }

  -- ---- leaves

  -- a step that reads none
  leaf_tells : (kind : StepKind) (f : Form) (steps : Steps) → Tells over.structure texts (free f) steps (made over.structure kind f steps) (Satisfies f over.structure)
  leaf_tells kind f steps = tells_made over.structure texts (free f) steps steps [] kind f (Satisfies f over.structure) (sym (append-nil steps)) (λ w c. c) (λ env k. same)

  leaf_says : (f : Form) (rule : Rule) → ((steps : Steps) → Tells over.structure texts (free f) steps (rule over.structure steps) (Satisfies f over.structure)) → IsSoundRule over texts f (leaf_under rule)
  leaf_says f rule by None steps h = tells_same over.structure texts (free f) steps (rule over.structure steps) _ _ (λ env k. ((λ x. (tt, x)), λ x. x.1)) (by steps)
  leaf_says f rule by (Some g) steps h =
      tells_same over.structure texts (free f) steps (join g [] over.structure (rule over.structure steps)) _ _ (λ env k. ((λ x. x.0), λ x. (x, tt)))
      (join_tells over.structure texts (free f) steps steps (rule over.structure steps) [] g (Satisfies f over.structure) [] (sym (append-nil steps)) h.0 h.1 tt (by steps))

  test_says : (t : Test) → IsSoundRule over texts (test t) (test_under t)
  test_says t None steps h = tells_same over.structure texts (variables_of_test t) steps (leaf t over.structure steps) _ _ (λ env k. ((λ x. (tt, x)), λ x. x.1)) (leaf_tells (Leaf t) (test t) steps)
  test_says t (Some g) steps h = by_known (is_test t && are_among (variables_of_test t) (free (formula_at steps g)))
    where
      by_known : (b : Bool) → Tells over.structure texts (variables_of_test t) steps (cond b (select_from g t over.structure steps) (leaf_under (leaf t) over (Some g) steps)) (λ env. Satisfies (formula_at steps g) over.structure env × Satisfies (test t) over.structure env)
      by_known false = leaf_says (test t) (leaf t) (leaf_tells (Leaf t) (test t)) (Some g) steps h
      by_known true = select_from_tells over.structure texts (variables_of_test t) steps steps [] g t (sym (append-nil steps)) h.1 (λ w c. c)

  -- ---- an `or`

  -- the last step itself, or a join of the guard and it
  chosen : (x : Part) (room : List Variable) (steps after : Steps) (g : ℕ) → (g ≤ length steps) × AreAmong (free (formula_at steps g)) room → (b : Form) → Tells over.structure texts room steps after (λ env. Satisfies b over.structure env × Satisfies x.formula over.structure env)
      → ((env : Assignment) → AreKnown texts room env → Satisfies (formula_at steps g) over.structure env → Satisfies b over.structure env) → (n : ℕ) → (nat_eq n g ≡ true → b ≡ formula_at steps g) → (whole : Bool) → nat_eq n g ≡ whole
      → Tells over.structure texts room steps (cond whole after (join g [] over.structure after)) (λ env. Satisfies (formula_at steps g) over.structure env × Satisfies x.formula over.structure env)
  chosen x room steps after g h b t part n own true e = tells_same over.structure texts room steps after _ _ (λ env k. ((λ y. (subst (λ f. Satisfies f over.structure env) (own e) y.0, y.1)), λ y. (subst (λ f. Satisfies f over.structure env) (sym (own e)) y.0, y.1))) t
  chosen x room steps after g h b t part n own false e =
      tells_same over.structure texts room steps (join g [] over.structure after) _ _ (λ env k. ((λ y. (y.0.0, y.0.1.1)), λ y. ((y.0, (part env k y.0, y.1)), tt)))
      (join_tells over.structure texts room steps steps after [] g _ [] (sym (append-nil steps)) h.0 h.1 tt t)

  -- a member under the projection of the guard
  under_says : (x : Part) (room : List Variable) (steps : Steps) (g : ℕ) → AreAmong (free x.formula) room → IsSoundRule over texts x.formula x.rule → (g ≤ length steps) × AreAmong (free (formula_at steps g)) room
      → Tells over.structure texts room steps (member_under x over g steps) (λ env. Satisfies (formula_at steps g) over.structure env × Satisfies x.formula over.structure env)
  under_says x room steps g among sound h = by_whole (nat_eq (projected over (free x.formula) g steps) g) refl
    where
      by_whole : (b : Bool) → nat_eq (projected over (free x.formula) g steps) g ≡ b
          → Tells over.structure texts room steps (cond b (x.rule over (Some (projected over (free x.formula) g steps)) (project over (free x.formula) g steps)) (join g [] over.structure (x.rule over (Some (projected over (free x.formula) g steps)) (project over (free x.formula) g steps))))
          (λ env. Satisfies (formula_at steps g) over.structure env × Satisfies x.formula over.structure env)
      by_whole b e =
          let wanted : List Variable = free x.formula in
          let a : Form = formula_at steps g in
          let mid : Steps = project over wanted g steps in
          let n : ℕ = projected over wanted g steps in
          let pr : Projects over texts valid wanted a steps mid n = projects over texts valid wanted g steps h.0 in
          let after : Steps = x.rule over (Some n) mid in
          let s : Tells over.structure texts wanted mid after (λ env. Satisfies (formula_at mid n) over.structure env × Satisfies x.formula over.structure env) = sound (Some n) mid (pr.step, pr.scope) in
          let t : Tells over.structure texts room steps after (λ env. Satisfies (formula_at mid n) over.structure env × Satisfies x.formula over.structure env) = widened wanted room steps after _ among (tells_from over.structure texts wanted steps mid after pr.more _ pr.is s) in
          chosen x room steps after g h (formula_at mid n) t (λ env k y. pr.says env (λ w c. k w (h.1 w c)) y) n
          (λ q. ap (formula_at mid) (nat_same n g q) ∙ ap (λ s. formula_at s g) pr.is ∙ formula_front steps pr.more g h.0) b e

  -- a member under a guard
  member_says : (x : Part) (room : List Variable) → AreAmong (free x.formula) room → IsSoundRule over texts x.formula x.rule → (guard : Option ℕ) (steps : Steps) → FitsGuard guard steps room
      → Tells over.structure texts room steps (member x over guard steps) (λ env. GuardSays over.structure guard steps env × Satisfies x.formula over.structure env)
  member_says x room among sound None steps h = widened (free x.formula) room steps (x.rule over None steps) _ among (sound None steps tt)
  member_says x room among sound (Some g) steps h = by_guarded (is_guarded_by (free (formula_at steps g)) x.formula)
    where
      by_guarded : (b : Bool) → Tells over.structure texts room steps (cond b (member_under x over g steps) (join g [] over.structure (x.rule over None steps))) (λ env. Satisfies (formula_at steps g) over.structure env × Satisfies x.formula over.structure env)
      by_guarded true = under_says x room steps g among sound h
      by_guarded false =
          tells_same over.structure texts room steps (join g [] over.structure (x.rule over None steps)) _ _ (λ env k. ((λ y. (y.0.0, y.0.1.1)), λ y. ((y.0, (tt, y.1)), tt)))
          (join_tells over.structure texts room steps steps (x.rule over None steps) [] g (λ env. Unit {0} × Satisfies x.formula over.structure env) [] (sym (append-nil steps)) h.0 h.1 tt (widened (free x.formula) room steps (x.rule over None steps) _ among (sound None steps tt)))

  -- what holds of one or of another under a guard
  either_under : (G P Q : Type 0) → (((G → ⊥) → ⊥) → G) → Either (G × P) (G × Q) ↔ (G × Either P Q)
  either_under G P Q stay = (
    (λ x. (stay (λ n. x (λ y. n y.0) (λ y. n y.0)), λ a b. x (λ y. a y.1) (λ y. b y.1))),
    λ x a b. x.1 (λ y. a (x.0, y)) (λ y. b (x.0, y)),
  )

  either_more : (P F R : Type 0) → Either (Either P F) R ↔ Either P (Either F R)
  either_more P F R = ((λ h a b. h (λ e. e a (λ f. b (λ m n. m f))) (λ r. b (λ m n. n r))), λ h a b. h (λ p. a (λ m n. m p)) (λ e. e (λ f. a (λ m n. n f)) b))

  -- further members of an `or`
  further_says : (fs : Forms) (room : List Variable) → AreAmong (free_each fs) room → AreSoundParts over texts (members_in fs) → (start mid : Steps) (guard : Option ℕ) (p : Saying) → ((env : Assignment) → ((p env → ⊥) → ⊥) → p env) → FitsGuard guard start room
      → Tells over.structure texts room start mid (λ env. GuardSays over.structure guard start env × p env) → Tells over.structure texts room start (further_members (members_in fs) over guard mid) (λ env. GuardSays over.structure guard start env × Either (p env) (SatisfiesSome fs over.structure env))
  further_says no_forms room among sound start mid guard p stay h t = tells_same over.structure texts room start mid _ _ (λ env k. ((λ x. (x.0, λ a b. a x.1)), λ x. (x.0, stay env (λ n. x.1 n (λ y. y))))) t
  further_says (form f fs) room among sound start mid guard p stay h t =
      let x : Part = record { formula = f; rule = build f [] } in
      let k = guard_later guard start mid t.more room t.is h in
      let m = member_says x room (λ w c. among w (in_left (free f) (free_each fs) w c)) sound.0 guard mid k in
      let steps : Steps = member x over guard mid in
      let u : Tells over.structure texts room start (union (length mid) over.structure steps) (λ env. GuardSays over.structure guard start env × Either (p env) (Satisfies f over.structure env)) =
      tells_same over.structure texts room start (union (length mid) over.structure steps) _ _
      (λ env known.
      let g = guard_still guard start mid t.more room env t.is h in
      let e = either_under (GuardSays over.structure guard start env) (p env) (Satisfies f over.structure env) (guard_stable guard start env) in
      ((λ y. e.0 (λ a b. y a (λ z. b (g.0 z.0, z.1)))), λ y. let z = e.1 y in λ a b. z a (λ c. b (g.1 c.0, c.1))))
      (union_tells over.structure texts room start mid steps _ _ t m) in
      tells_same over.structure texts room start (further_members (members_in fs) over guard (union (length mid) over.structure steps)) _ _
      (λ env known. let e = either_more (p env) (Satisfies f over.structure env) (SatisfiesSome fs over.structure env) in ((λ y. (y.0, e.0 y.1)), λ y. (y.0, e.1 y.1)))
      (further_says fs room (λ w c. among w (in_right (free f) (free_each fs) w c)) sound.1 start (union (length mid) over.structure steps) guard (λ env. Either (p env) (Satisfies f over.structure env)) (λ env n a b. n (λ e. e a b)) h u)

  disjunction_says : (f : Form) (fs : Forms) → IsSoundRule over texts f (build f []) → AreSoundParts over texts (members_in fs) → IsSoundRule over texts (disjunction (form f fs)) (disjunction_rule (members_in (form f fs)))
  disjunction_says f fs first sound guard steps h =
      let room : List Variable = free_each (form f fs) in
      let x : Part = record { formula = f; rule = build f [] } in
      further_says fs room (λ w c. in_right (free f) (free_each fs) w c) sound steps (member x over guard steps) guard (Satisfies f over.structure) (λ env n. stable f over.structure env n) h
      (member_says x room (λ w c. in_left (free f) (free_each fs) w c) first guard steps h)

-- ---- the elements of an `and`

-- the elements of each kind
abbrev pub elements_of : Forms → Elements
elements_of fs = record { atoms = atoms_in fs; sorts = sorts_in fs; others = others_in fs; tests = tests_in fs; negations = negations_in fs }

-- there is an element where there is a formula
elements_some : (fs : Forms) → HasElement fs → 0 < element_count (elements_of fs)
elements_some no_forms h = absurd h
elements_some (form (atom name terms) fs) h = omega arith
elements_some (form (test (Compare left op right)) fs) h = omega arith
elements_some (form (test (Member term point)) fs) h = omega arith
elements_some (form (test (Equal left right)) fs) h = omega arith
elements_some (form (sorted s v) fs) h = omega arith
elements_some (form (negation g) fs) h = omega arith
elements_some (form (conjunction gs) fs) h = omega arith
elements_some (form (disjunction gs) fs) h = omega arith
elements_some (form (implication f g) fs) h = omega arith
elements_some (form (exists v s f) fs) h = omega arith
elements_some (form (forall v s f) fs) h = omega arith

-- with one more of a kind
with_atom : (X A S O T N : Type 0) → X ↔ (A × (S × (O × (T × N)))) → (B : Type 0) → (B × X) ↔ ((B × A) × (S × (O × (T × N))))
with_atom X A S O T N r B = ((λ h. let y = r.0 h.1 in ((h.0, y.0), y.1)), λ h. (h.0.0, r.1 (h.0.1, h.1)))

with_sort : (X A S O T N : Type 0) → X ↔ (A × (S × (O × (T × N)))) → (B : Type 0) → (B × X) ↔ (A × ((B × S) × (O × (T × N))))
with_sort X A S O T N r B = ((λ h. let y = r.0 h.1 in (y.0, ((h.0, y.1.0), y.1.1))), λ h. (h.1.0.0, r.1 (h.0, (h.1.0.1, h.1.1))))

with_other : (X A S O T N : Type 0) → X ↔ (A × (S × (O × (T × N)))) → (B : Type 0) → (B × X) ↔ (A × (S × ((B × O) × (T × N))))
with_other X A S O T N r B = ((λ h. let y = r.0 h.1 in (y.0, (y.1.0, ((h.0, y.1.1.0), y.1.1.1)))), λ h. (h.1.1.0.0, r.1 (h.0, (h.1.0, (h.1.1.0.1, h.1.1.1)))))

with_test : (X A S O T N : Type 0) → X ↔ (A × (S × (O × (T × N)))) → (B : Type 0) → (B × X) ↔ (A × (S × (O × ((B × T) × N))))
with_test X A S O T N r B = ((λ h. let y = r.0 h.1 in (y.0, (y.1.0, (y.1.1.0, ((h.0, y.1.1.1.0), y.1.1.1.1))))), λ h. (h.1.1.1.0.0, r.1 (h.0, (h.1.0, (h.1.1.0, (h.1.1.1.0.1, h.1.1.1.1))))))

with_negation : (X A S O T N : Type 0) → X ↔ (A × (S × (O × (T × N)))) → (B : Type 0) → (B × X) ↔ (A × (S × (O × (T × (B × N)))))
with_negation X A S O T N r B = ((λ h. let y = r.0 h.1 in (y.0, (y.1.0, (y.1.1.0, (y.1.1.1.0, (h.0, y.1.1.1.1)))))), λ h. (h.1.1.1.1.0, r.1 (h.0, (h.1.0, (h.1.1.0, (h.1.1.1.0, h.1.1.1.1.1))))))

-- a list says what its elements say
elements_say : (M : Structure) (env : Assignment) (fs : Forms) → SatisfiesAll fs M env ↔ ElementsSay M (elements_of fs) env
elements_say M env no_forms = ((λ h. (tt, (tt, (tt, (tt, tt))))), λ h. tt)
elements_say M env (form (atom name terms) fs) = with_atom _ _ _ _ _ _ (elements_say M env fs) _
elements_say M env (form (sorted s v) fs) = with_sort _ _ _ _ _ _ (elements_say M env fs) _
elements_say M env (form (test (Compare left op right)) fs) = with_test _ _ _ _ _ _ (elements_say M env fs) _
elements_say M env (form (test (Equal left right)) fs) = with_test _ _ _ _ _ _ (elements_say M env fs) _
elements_say M env (form (test (Member term point)) fs) = with_other _ _ _ _ _ _ (elements_say M env fs) _
elements_say M env (form (negation g) fs) = with_negation _ _ _ _ _ _ (elements_say M env fs) _
elements_say M env (form (conjunction gs) fs) = with_other _ _ _ _ _ _ (elements_say M env fs) _
elements_say M env (form (disjunction gs) fs) = with_other _ _ _ _ _ _ (elements_say M env fs) _
elements_say M env (form (implication f g) fs) = with_other _ _ _ _ _ _ (elements_say M env fs) _
elements_say M env (form (exists v s f) fs) = with_other _ _ _ _ _ _ (elements_say M env fs) _
elements_say M env (form (forall v s f) fs) = with_other _ _ _ _ _ _ (elements_say M env fs) _

-- the variables of a list's formulas
abbrev EachAmong : List Variable → Forms → Type 0
EachAmong vs no_forms = Unit {0}
EachAmong vs (form f fs) = AreAmong (free f) vs × EachAmong vs fs

each_among : (fs : Forms) (vs : List Variable) → AreAmong (free_each fs) vs → EachAmong vs fs
each_among no_forms vs h = tt
each_among (form f fs) vs h = ((λ w c. h w (in_left (free f) (free_each fs) w c)), each_among fs vs (λ w c. h w (in_right (free f) (free_each fs) w c)))

-- those of its elements are among them
elements_among : (vs : List Variable) (fs : Forms) → EachAmong vs fs ↔ ElementsAmong vs (elements_of fs)
elements_among vs no_forms = ((λ h. (tt, (tt, (tt, (tt, tt))))), λ h. tt)
elements_among vs (form (atom name terms) fs) = with_atom _ _ _ _ _ _ (elements_among vs fs) _
elements_among vs (form (sorted s v) fs) = with_sort _ _ _ _ _ _ (elements_among vs fs) _
elements_among vs (form (test (Compare left op right)) fs) = with_test _ _ _ _ _ _ (elements_among vs fs) _
elements_among vs (form (test (Equal left right)) fs) = with_test _ _ _ _ _ _ (elements_among vs fs) _
elements_among vs (form (test (Member term point)) fs) = with_other _ _ _ _ _ _ (elements_among vs fs) _
elements_among vs (form (negation g) fs) = with_negation _ _ _ _ _ _ (elements_among vs fs) _
elements_among vs (form (conjunction gs) fs) = with_other _ _ _ _ _ _ (elements_among vs fs) _
elements_among vs (form (disjunction gs) fs) = with_other _ _ _ _ _ _ (elements_among vs fs) _
elements_among vs (form (implication f g) fs) = with_other _ _ _ _ _ _ (elements_among vs fs) _
elements_among vs (form (exists v s f) fs) = with_other _ _ _ _ _ _ (elements_among vs fs) _
elements_among vs (form (forall v s f) fs) = with_other _ _ _ _ _ _ (elements_among vs fs) _

-- ---- each core form

-- a quantifier over texts is guarded by what it takes
abbrev pub GuardedBy : List Text → Structure → Identifier → Sort → Form → Type 0
GuardedBy texts M v s f = IsDataSort s → IsGuarded texts M v s f

module _ (over : Ground) (texts : List Text) (valid : IsGround over texts) (alone : StandsFor over.structure) where
  -- a positive that is no atom, sort element, comparison or equality
  part_says : (f : Form) (rule : GuardedRule) → IsSoundRule over texts f rule → AreSoundParts over texts (as_part f rule)
  part_says (atom name terms) rule h = tt
  part_says (sorted s v) rule h = tt
  part_says (test (Compare left op right)) rule h = tt
  part_says (test (Member term point)) rule h = (h, tt)
  part_says (test (Equal left right)) rule h = tt
  part_says (negation f) rule h = tt
  part_says (conjunction fs) rule h = (h, tt)
  part_says (disjunction fs) rule h = (h, tt)
  part_says (implication f g) rule h = (h, tt)
  part_says (exists v s f) rule h = (h, tt)
  part_says (forall v s f) rule h = (h, tt)

  no_block : (w : Variable) → Contains [] w ↔ Contains (head_variables []) w
  no_block w = same

  -- the larger block of a quantifier
  larger : (v : Identifier) (s : Sort) (cs : List Column) (block : List Variable) → ((w : Variable) → Contains block w ↔ Contains (head_variables cs) w) → (w : Variable) → Contains (block ++ bound_by s v ∷ []) w ↔ Contains (bound_by s v ∷ head_variables cs) w
  larger v s cs block same_block w =
      let b : Variable = bound_by s v in (
        (λ c. ⊎_elim (λ x. contains_later b w (head_variables cs) ((same_block w).0 x)) (λ x. ⊎_elim (λ e. subst (Contains (b ∷ head_variables cs)) e (contains_first b (head_variables cs))) (λ n. absurd (contains_none w n)) (cons_cases b w [] x)) (in_one block (b ∷ []) w c)),
        λ c. ⊎_elim (λ e. in_right block (b ∷ []) w (subst (Contains (b ∷ [])) e (contains_first b []))) (λ x. in_left block (b ∷ []) w ((same_block w).1 x)) (cons_cases b w (head_variables cs) c),
      )

  mutual
    pub build_says : (f : Form) → IsCore f → EachGuard over.structure (GuardedBy texts over.structure) f → (cs : List Column) (block : List Variable) → ((w : Variable) → Contains block w ↔ Contains (head_variables cs) w) → AreGuarded texts over.structure cs f
        → IsSoundRule over texts (closed_by cs f) (build f block)
    build_says (atom name terms) c kept cs block sb g =
        ending_says over texts valid alone cs block (atom name terms) (leaf_under (scan_of name terms)) sb g (leaf_says over texts valid alone (atom name terms) (scan_of name terms) (leaf_tells over texts valid alone (Scan name terms) (atom name terms)))
    build_says (test t) c kept cs block sb g = ending_says over texts valid alone cs block (test t) (test_under t) sb g (test_says over texts valid alone t)
    build_says (sorted s v) c kept cs block sb g =
        ending_says over texts valid alone cs block (sorted s v) (leaf_under (sort_texts s v)) sb g (leaf_says over texts valid alone (sorted s v) (sort_texts s v) (leaf_tells over texts valid alone (SortStep v s (over.structure.domain s)) (sorted s v)))
    build_says (negation f) c kept cs block sb g =
        let es : Elements = record { atoms = []; sorts = []; others = []; tests = []; negations = record { formula = f; rule = build f [] } ∷ [] } in
        ending_says over texts valid alone cs block (negation f) (conjunction_rule es []) sb g
        (conjunction_sound over texts valid alone es [] (negation f) [] no_block tt tt (build_says f c kept [] [] no_block tt, tt) (omega arith) (λ env. ((λ h. h.1.1.1.1.0), λ h. (tt, (tt, (tt, (tt, (h, tt))))))) (tt, (tt, (tt, (tt, ((λ w c. c), tt))))))
    build_says (conjunction fs) c kept cs block sb g =
        conjunction_sound over texts valid alone (elements_of fs) cs (conjunction fs) block sb g (others_say fs c.1 kept) (negations_say fs c.1 kept) (elements_some fs c.0) (λ env. let e = elements_say over.structure env fs in (e.1, e.0))
        ((elements_among (free_each fs) fs).0 (each_among fs (free_each fs) (λ w c. c)))
    build_says (disjunction no_forms) c kept cs block sb g = absurd c.0
    build_says (disjunction (form f fs)) c kept cs block sb g =
        ending_says over texts valid alone cs block (disjunction (form f fs)) (disjunction_rule (members_in (form f fs))) sb g
        (disjunction_says over texts valid alone f fs (build_says f c.1.0 kept.0 [] [] no_block tt) (members_say fs c.1.1 kept.1))
    build_says (implication f h) c kept cs block sb g = absurd c
    build_says (exists v s f) c kept cs block sb g =
        build_says f c kept.1 (record { name = v; sort = s } ∷ cs) (block ++ bound_by s v ∷ []) (larger v s cs block sb) (kept.0 f (λ env. same), g)
    build_says (forall v s f) c kept cs block sb g = absurd c

    others_say : (fs : Forms) → AreCore fs → EachOfGuard over.structure (GuardedBy texts over.structure) fs → AreSoundParts over texts (others_in fs)
    others_say no_forms c kept = tt
    others_say (form f fs) c kept = (all_append (λ p. IsSoundRule over texts p.formula p.rule) (as_part f (build f [])) (others_in fs)).1 (part_says f (build f []) (build_says f c.0 kept.0 [] [] no_block tt), others_say fs c.1 kept.1)

    negations_say : (fs : Forms) → AreCore fs → EachOfGuard over.structure (GuardedBy texts over.structure) fs → AreSoundParts over texts (negations_in fs)
    negations_say no_forms c kept = tt
    negations_say (form (negation g) fs) c kept = (build_says g c.0 kept.0 [] [] no_block tt, negations_say fs c.1 kept.1)
    negations_say (form f fs) c kept = negations_say fs c.1 kept.1

    members_say : (fs : Forms) → AreCore fs → EachOfGuard over.structure (GuardedBy texts over.structure) fs → AreSoundParts over texts (members_in fs)
    members_say no_forms c kept = tt
    members_say (form f fs) c kept = (build_says f c.0 kept.0 [] [] no_block tt, members_say fs c.1 kept.1)
