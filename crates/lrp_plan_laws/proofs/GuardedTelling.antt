-- An `and` under a guard says what its guard and all of its elements say, for some values of its block's variables.
use Rattle.std.proofs.Common.{◌≡◌, ◌≢◌, ◌↔◌, ◌⊎◌, ⊎_elim, inl, inr, ◌≤◌, ℕ, suc, Bool, true, false, cond, not, List, [], ◌∷◌, ◌++◌, length, append_assoc, append-nil, Some, slice_get, remove, flat_map, Contains, refl, sym, ap, subst, ◌∙◌, arith}
use Rattle.std.specs.List.{AllByRecursion}
use Rattle.lrp_model.specs.Texts.{Text}
use Rattle.lrp_model.specs.Formulas.{Form, test}
use Rattle.lrp_model.specs.Variables.{Variable, time_variable, data_variable, variables_of_test, is_among, free}
use Rattle.lrp_model.specs.Satisfaction.{Structure, Assignment, Satisfies, Passes}
use Rattle.lrp_model.specs.Steps.{Steps, formula_at, join, minus, complement, leaf}
use Rattle.lrp_model.specs.declared.plans.StepKind.TheVariants.{Leaf}
use Rattle.lrp_model.proofs.Logic.{same, then_iff}
use Rattle.lrp_model.proofs.Decided.{contains_none, contains_first, contains_later, cons_cases}
use Rattle.lrp_plan_laws.specs.Made.{AreAmong}
use Rattle.lrp_plan_laws.specs.Projections.{PlanGround as Ground, drop_variable, drop_each, last_drop, distinct_variables as each_once}
use Rattle.lrp_plan_laws.specs.GuardedConjunctions.{GuardedPart as Part, Standing, atom_form, sort_form, part_steps, take_one_negation as take_negation, take_off, any_value, bring_each, last_brought, missing, with_missing as brought, has_guard, variables_left}
use Rattle.lrp_plan_laws.proofs.Dropped.{IsGround}
use Rattle.lrp_plan_laws.proofs.Elements.{take_out}
use Rattle.lrp_plan_laws.proofs.Members.{all_of, all_by, in_one, in_left, in_right, all_self}
use Rattle.lrp_plan_laws.proofs.PlanLaws.{Where, put_where, get_where}
use Rattle.lrp_plan_laws.proofs.Ranging.{same_back, SomeOver, IsFreeOf, some_same, unmoved, drop_one}
use Rattle.lrp_plan_laws.proofs.Standings.{kept_is, once_in, flat_all}
use Rattle.lrp_plan_laws.proofs.Telling.{Saying, AreKnown, Tells, tells_made, tells_same, join_tells, minus_tells, complement_tells, last_drop_last, dropped_step}
use Rattle.lrp_plan_laws.proofs.GuardedStanding.{IsSoundRule, AreSoundParts, LeftSays, so_far, IsOnTheWay, Nothing, some_iff}
use Rattle.lrp_plan_laws.proofs.GuardedTaking.{StandsFor, Keeps, PartTells, part_tells}

module _ (over : Ground) (texts : List Text) (valid : IsGround over texts) (alone : StandsFor over.structure) (start : Steps) (outer : List Variable) (p : Saying) where
  abbrev M : Structure
  M = over.structure

  -- ---- variables that are brought

  -- each value passes
  any_passes : (v : Variable) (env : Assignment) → Passes env (any_value v)
  any_passes (time_variable v) env = refl
  any_passes (data_variable v) env = refl

  any_variable : (v w : Variable) → Contains (variables_of_test (any_value v)) w → w ≡ v
  any_variable (time_variable v) w c = ⊎_elim (λ e. sym e) (λ d. ⊎_elim (λ e. sym e) (λ k. absurd (contains_none w k)) (cons_cases (time_variable v) w [] d)) (cons_cases (time_variable v) w (time_variable v ∷ []) c)
  any_variable (data_variable v) w c = ⊎_elim (λ e. sym e) (λ d. ⊎_elim (λ e. sym e) (λ k. absurd (contains_none w k)) (cons_cases (data_variable v) w [] d)) (cons_cases (data_variable v) w (data_variable v ∷ []) c)

  -- the result with these variables brought says what it said
  record Brings (room : List Variable) (before : Steps) (of : ℕ) (after : Steps) (n : ℕ) : Type 0 where
    more : Steps
    is : after ≡ before ++ more
    step : n ≤ length after
    scope : AreAmong (free (formula_at after n)) room
    says : (e : Assignment) → AreKnown texts room e → Satisfies (formula_at after n) M e ↔ Satisfies (formula_at before of) M e

  last_brought_last : (vs : List Variable) (steps : Steps) → last_brought vs (length steps) (bring_each M vs (length steps) steps) ≡ length (bring_each M vs (length steps) steps)
  last_brought_last [] steps = refl
  last_brought_last (v ∷ vs) steps = refl

  brings : (room vs : List Variable) (of : ℕ) (steps : Steps) → of ≤ length steps → AreAmong (free (formula_at steps of)) room → AreAmong vs room → Brings room steps of (bring_each M vs of steps) (last_brought vs of (bring_each M vs of steps))
  brings room [] of steps le scope among = record { more = []; is = sym (append-nil steps); step = le; scope = scope; says = λ e k. same }
  brings room (v ∷ vs) of steps le scope among =
      let mid : Steps = join of [] M (leaf (any_value v) M steps) in
      let leafed : Tells M texts room steps (leaf (any_value v) M steps) (λ e. Passes e (any_value v)) =
      tells_made M texts room steps steps [] (Leaf (any_value v)) (test (any_value v)) _ (sym (append-nil steps)) (λ w c. subst (Contains room) (sym (any_variable v w c)) (among v (contains_first v vs))) (λ e k. same) in
      let t : Tells M texts room steps mid (λ e. (Satisfies (formula_at steps of) M e × Passes e (any_value v)) × Unit {0}) =
      join_tells M texts room steps steps (leaf (any_value v) M steps) [] of _ [] (sym (append-nil steps)) le scope tt leafed in
      let r : Brings room mid (length mid) (bring_each M vs (length mid) mid) (last_brought vs (length mid) (bring_each M vs (length mid) mid)) = brings room vs (length mid) mid (omega arith) t.scope (λ w c. among w (contains_later v w vs c)) in
      let z = last_brought_last vs mid in
      record {
        more = t.more ++ r.more;
        is = r.is ∙ ap (λ s. s ++ r.more) t.is ∙ append_assoc steps t.more r.more;
        step = omega arith;
        scope = subst (λ n. AreAmong (free (formula_at (bring_each M vs (length mid) mid) n)) room) z r.scope;
        says = λ e k.
            let x = r.says e k in
            let y = t.says e k in
            subst (λ n. Satisfies (formula_at (bring_each M vs (length mid) mid) n) M e ↔ Satisfies (formula_at steps of) M e) z
            (then_iff x ((λ h. (y.0 h).0.0), λ h. y.1 ((h, any_passes v e), tt)));
      }

  -- ---- negations

  -- a negation, with the result so far or without
  off_kept : (part : Part) (at : Standing) → IsSoundRule over texts part.formula part.rule → AreAmong (free part.formula) (outer ++ at.block) → IsOnTheWay M texts start outer p (λ e. Satisfies part.formula M e → ⊥) at → Keeps over texts valid alone start outer p (take_off over part at)
  off_kept part at sound among w = by at.taken.some refl
    where
      room : List Variable
      room = outer ++ at.block

      steps : Steps
      steps = part_steps over at.taken part at.steps

      pt : PartTells over texts valid alone start outer p room at part.formula steps
      pt = part_tells over texts valid alone start outer p room at part (has_guard at.taken at.steps part.formula) refl w.step w.scope among sound

      tells_all : (b : Bool) → at.taken.some ≡ b → Tells M texts room at.steps (cond b (minus at.taken.result M steps) (complement M steps)) (λ e. Where at.taken.some (Satisfies (so_far at) M e) × (Satisfies part.formula M e → ⊥))
      tells_all true some =
          tells_same M texts room at.steps (minus at.taken.result M steps) _ _
          (λ e k. (
            (λ x. (put_where at.taken.some _ some x.0, λ y. x.1 ((pt.with_result e k (put_where at.taken.some _ some x.0)).1 y))),
            λ x. (get_where at.taken.some _ some x.0, λ y. x.1 ((pt.with_result e k x.0).0 y)),
          ))
          (minus_tells M texts room at.steps at.steps steps [] at.taken.result pt.says_what (sym (append-nil at.steps)) w.step (w.scope some) pt.tells)
      tells_all false none =
          tells_same M texts room at.steps (complement M steps) _ _
          (λ e k.
          let here : Where at.taken.some (Satisfies (so_far at) M e) = subst (λ b. Where b (Satisfies (so_far at) M e)) (sym none) tt in
          ((λ x. (here, λ y. x ((pt.with_result e k here).1 y))), λ x y. x.1 ((pt.with_result e k here).0 y)))
          (complement_tells M texts room at.steps steps pt.says_what pt.tells)

      by : (b : Bool) → at.taken.some ≡ b → Keeps over texts valid alone start outer p (take_off over part at)
      by b some =
          let n = tells_all at.taken.some refl in
          record {
            more = w.more ++ n.more;
            is = n.is ∙ ap (λ s. s ++ n.more) w.is ∙ append_assoc start w.more n.more;
            step = omega arith;
            scope = λ e. n.scope;
            left = w.left;
            says = λ env k. then_iff
                (some_iff texts outer at.block _ _ env k (λ e known. (
                  (λ x. let y = (n.says e known).0 x.0 in (y.0, (y.1, x.1.1))),
                  λ x. ((n.says e known).1 (x.0, x.1.0), (tt, x.1.1)),
                )))
                (w.says env k);
          }

  -- what is brought keeps what is kept
  brought_kept : (f : Form) (at : Standing) (next : Saying) → at.taken.some ≡ true → AreAmong (free f) (outer ++ at.block) → IsOnTheWay M texts start outer p next at → IsOnTheWay M texts start outer p next (brought M f at)
  brought_kept f at next some among w =
      let vs : List Variable = missing at.taken f in
      let b : Brings (outer ++ at.block) at.steps at.taken.result (bring_each M vs at.taken.result at.steps) (last_brought vs at.taken.result (bring_each M vs at.taken.result at.steps)) =
      brings (outer ++ at.block) vs at.taken.result at.steps w.step (w.scope some) (λ v c. among v (once_in (free f) v (kept_is (λ v. not (is_among at.taken.variables v)) (each_once (free f)) v c).0)) in
      record {
        more = w.more ++ b.more;
        is = b.is ∙ ap (λ s. s ++ b.more) w.is ∙ append_assoc start w.more b.more;
        step = b.step;
        scope = λ e. b.scope;
        left = w.left;
        says = λ env k. then_iff
            (some_iff texts outer at.block _ _ env k (λ e known. (
              (λ x. (put_where at.taken.some _ some ((b.says e known).0 x.0), x.1)),
              λ x. ((b.says e known).1 (get_where at.taken.some _ some x.0), x.1),
            )))
            (w.says env k);
      }

  pub negation_kept : (i : ℕ) (part : Part) (at : Standing) → slice_get at.negations i ≡ Some part → AreSoundParts over texts at.negations → Keeps over texts valid alone start outer p at → Keeps over texts valid alone start outer p (take_negation over i (Some part) at)
  negation_kept i part at found sound w = by at.taken.some refl
    where
      room : List Variable
      room = outer ++ at.block

      out : AreAmong (free part.formula) room × AllByRecursion (λ x. AreAmong (free x.formula) room) (remove at.negations i)
      out = (take_out (λ x. AreAmong (free x.formula) room) at.negations i part found).0 w.left.1.1.1.1

      rule : IsSoundRule over texts part.formula part.rule
      rule = ((take_out (λ x. IsSoundRule over texts x.formula x.rule) at.negations i part found).0 sound).0

      left : Standing
      left = record at { negations = remove at.negations i }

      on : IsOnTheWay M texts start outer p (λ e. Satisfies part.formula M e → ⊥) left
      on = record {
        more = w.more;
        is = w.is;
        step = w.step;
        scope = w.scope;
        left = (w.left.0, (w.left.1.0, (w.left.1.1.0, (w.left.1.1.1.0, out.1))));
        says = λ env k. then_iff
            (some_iff texts outer at.block _ _ env k (λ e known.
            let u = take_out (λ x. Satisfies x.formula M e → ⊥) at.negations i part found in (
              (λ x. (x.0, (tt, (x.1.1.0, (x.1.1.1.0, (x.1.1.1.1.0, (x.1.1.1.1.1.0, u.1 (x.1.0, x.1.1.1.1.1.1)))))))),
              λ x. let y = u.0 x.1.1.1.1.1.1 in (x.0, (y.0, (x.1.1.0, (x.1.1.1.0, (x.1.1.1.1.0, (x.1.1.1.1.1.0, y.1)))))),
            )))
            (w.says env k);
      }

      by : (b : Bool) → at.taken.some ≡ b → Keeps over texts valid alone start outer p (take_off over part (cond b (brought M part.formula left) left))
      by true some = off_kept part (brought M part.formula left) rule out.0 (brought_kept part.formula left _ some out.0 on)
      by false none = off_kept part left rule out.0 on

  -- ---- variables of the block that are spent

  -- what is left says the same where a variable that it doesn't have is another
  pub left_apart : (at : Standing) (v : Variable) → (Contains (variables_left at) v → ⊥) → IsFreeOf v (λ e. Nothing e × LeftSays M at e)
  left_apart at v n a b agree h =
      let apart : (w : Variable) → Contains (variables_left at) w → w ≢ v = λ w c e. n (subst (Contains (variables_left at)) e c) in
      let v1 = flat_map (λ a. free (atom_form a)) at.atoms in
      let v2 = flat_map (λ e. free (sort_form e)) at.sorts in
      let v3 = flat_map (λ p. free p.formula) at.others in
      let v4 = flat_map variables_of_test at.tests in
      let v5 = flat_map (λ p. free p.formula) at.negations in (
        tt,
        (
          each atom_form at.atoms (λ x w c k. apart w (in_left v1 (v2 ++ (v3 ++ (v4 ++ v5))) w (flat_in (λ a. free (atom_form a)) at.atoms x w c k))) h.1.0,
          (
            each sort_form at.sorts (λ x w c k. apart w (in_right v1 (v2 ++ (v3 ++ (v4 ++ v5))) w (in_left v2 (v3 ++ (v4 ++ v5)) w (flat_in (λ e. free (sort_form e)) at.sorts x w c k)))) h.1.1.0,
            (
              each (λ x. x.formula) at.others (λ x w c k. apart w (in_right v1 (v2 ++ (v3 ++ (v4 ++ v5))) w (in_right v2 (v3 ++ (v4 ++ v5)) w (in_left v3 (v4 ++ v5) w (flat_in (λ p. free p.formula) at.others x w c k))))) h.1.1.1.0,
              (
                each (λ t. test t) at.tests (λ x w c k. apart w (in_right v1 (v2 ++ (v3 ++ (v4 ++ v5))) w (in_right v2 (v3 ++ (v4 ++ v5)) w (in_right v3 (v4 ++ v5) w (in_left v4 v5 w (flat_in variables_of_test at.tests x w c k)))))) h.1.1.1.1.0,
                all_by (λ x. Satisfies x.formula M b → ⊥) at.negations (λ x c s. all_of (λ x. Satisfies x.formula M a → ⊥) at.negations x h.1.1.1.1.1 c
                    (unmoved x.formula M b a (λ w k. same_back w a b (agree w (apart w (in_right v1 (v2 ++ (v3 ++ (v4 ++ v5))) w (in_right v2 (v3 ++ (v4 ++ v5)) w (in_right v3 (v4 ++ v5) w (in_right v4 v5 w (flat_in (λ p. free p.formula) at.negations x w c k)))))))) s)),
              ),
            ),
          ),
        ),
      )
    where
      each : {X : Type 0} (f : X → Form) (xs : List X) → ((x : X) (w : Variable) → Contains xs x → Contains (free (f x)) w → w ≢ v) → AllByRecursion (λ x. Satisfies (f x) M a) xs → AllByRecursion (λ x. Satisfies (f x) M b) xs
      each f xs free_of hs = all_by (λ x. Satisfies (f x) M b) xs (λ x c. unmoved (f x) M a b (λ w k. agree w (free_of x w c k)) (all_of (λ x. Satisfies (f x) M a) xs x hs c))

      flat_in : {X : Type 0} (f : X → List Variable) (xs : List X) (x : X) (w : Variable) → Contains xs x → Contains (f x) w → Contains (flat_map f xs) w
      flat_in f xs x w c k = all_of (Contains (flat_map f xs)) (f x) w (all_of (λ y. AllByRecursion (Contains (flat_map f xs)) (f y)) xs x ((flat_all (Contains (flat_map f xs)) f xs).0 (all_self (flat_map f xs))) c) k

  -- drops of variables, one after the other
  pub drops_say : (spent ws vs : List Variable) (of : ℕ) (steps : Steps) (q : Saying) (env : Assignment) → ((w : Variable) → Contains vs w ↔ (Contains spent w ⊎ Contains ws w)) → ((v : Variable) → Contains spent v → IsFreeOf v q) → of ≤ length steps
      → SomeOver texts vs (λ e. Satisfies (formula_at steps of) M e × q e) env ↔ SomeOver texts ws (λ e. Satisfies (formula_at (drop_each over spent of steps) (last_drop spent of (drop_each over spent of steps))) M e × q e) env
  drops_say [] ws vs of steps q env split apart le =
      let s : (w : Variable) → Contains vs w ↔ Contains ws w = λ w. ((λ c. ⊎_elim (λ k. absurd (contains_none w k)) (λ k. k) ((split w).0 c)), λ c. (split w).1 (inr c)) in
      (some_same texts vs ws _ env s, some_same texts ws vs _ env (λ w. ((s w).1, (s w).0)))
  drops_say (v ∷ spent) ws vs of steps q env split apart le =
      let mid : Steps = drop_variable over v of steps in
      let d = dropped_step over texts valid v of steps in
      let l : length mid ≡ suc (length steps) = d.2 in
      let one = drop_one over texts valid v vs (spent ++ ws)
      (λ w. (
        (λ c. ⊎_elim (λ k. ⊎_elim (λ e. inl (sym e)) (λ m. inr (in_left spent ws w m)) (cons_cases v w spent k)) (λ k. inr (in_right spent ws w k)) ((split w).0 c)),
        λ c. ⊎_elim (λ e. (split w).1 (inl (subst (Contains (v ∷ spent)) (sym e) (contains_first v spent)))) (λ k. ⊎_elim (λ m. (split w).1 (inl (contains_later v w spent m))) (λ m. (split w).1 (inr m)) (in_one spent ws w k)) c,
      ))
      (formula_at steps of) q (apart v (contains_first v spent)) env in
      let rest = drops_say spent ws (spent ++ ws) (length mid) mid q env (λ w. (in_one spent ws w, λ c. ⊎_elim (in_left spent ws w) (in_right spent ws w) c)) (λ u c. apart u (contains_later v u spent c)) (omega arith) in
      let z : last_drop spent (length mid) (drop_each over spent (length mid) mid) ≡ length (drop_each over spent (length mid) mid) = last_drop_last over spent mid in
      let e : drop_each over spent (length mid) mid ≡ drop_each over spent (suc (length steps)) mid = ap (λ n. drop_each over spent n mid) l in
      let done = subst (λ n. SomeOver texts (spent ++ ws) (λ e. Satisfies (formula_at mid (length mid)) M e × q e) env ↔ SomeOver texts ws (λ e. Satisfies (formula_at (drop_each over spent (length mid) mid) n) M e × q e) env) z rest in
      let moved = subst (λ s. SomeOver texts (spent ++ ws) (λ e. Satisfies (formula_at mid (length mid)) M e × q e) env ↔ SomeOver texts ws (λ e. Satisfies (formula_at s (length s)) M e × q e) env) e done in
      then_iff one (subst (λ f. SomeOver texts (spent ++ ws) (λ e. Satisfies f M e × q e) env ↔ SomeOver texts ws (λ e. Satisfies (formula_at (drop_each over spent (suc (length steps)) mid) (length (drop_each over spent (suc (length steps)) mid))) M e × q e) env) d.0 moved)
