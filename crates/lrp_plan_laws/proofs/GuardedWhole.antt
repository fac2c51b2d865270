-- An `and` under a guard, whole: from where it begins to where nothing is left and the block's variables are dropped.
use Rattle.std.proofs.Common.{◌≡◌, ◌↔◌, ◌⊎◌, ⊎_elim, inl, inr, ◌≤◌, ℕ, Bool, true, false, cond, not, List, [], ◌∷◌, ◌++◌, length, append_assoc, Option, Some, None, slice_get, remove, filter, flat_map, Contains, refl, sym, ap, subst, ◌∙◌, arith}
use Rattle.std.specs.List.{AllByRecursion}
use Rattle.lrp_model.specs.Texts.{Text}
use Rattle.lrp_model.specs.Formulas.{Form, exists}
use Rattle.lrp_model.specs.Variables.{Variable, bound_by, variables_of_test, is_among, head_variables, free}
use Rattle.lrp_model.specs.Satisfaction.{Structure, Assignment, Satisfies, SameAt}
use Rattle.lrp_model.specs.Steps.{Steps, formula_at, join, scan_of, leaf, sort_texts}
use Rattle.lrp_model.specs.declared.relations.Column.{Column}
use Rattle.lrp_model.specs.declared.formulas.Test.{Test}
use Rattle.lrp_model.proofs.Logic.{same, then_iff}
use Rattle.lrp_model.proofs.Decided.{contains_none, contains_first, contains_later, cons_cases}
use Rattle.lrp_model.proofs.Stable.{stable}
use Rattle.lrp_plan_laws.specs.Atoms.{Atom}
use Rattle.lrp_plan_laws.specs.Made.{AreAmong}
use Rattle.lrp_plan_laws.specs.Projections.{PlanGround as Ground, drop_each, last_drop}
use Rattle.lrp_plan_laws.specs.GuardedConjunctions.{still_needed, GuardedPart as Part, SortElement, Standing, atom_form, sort_form, taken_up, go_on_from, take_up, covered_by, uncovered_by, part_steps, take_atom, take_sort, take_other, take_one_test as take_test, take_one_negation as take_negation, take_off, with_missing as brought, is_whole_guard, variables_left, drop_spent}
use Rattle.lrp_plan_laws.proofs.Dropped.{IsGround}
use Rattle.lrp_plan_laws.proofs.Dropping.{without_member}
use Rattle.lrp_plan_laws.proofs.Elements.{take_out}
use Rattle.lrp_plan_laws.proofs.Members.{all_of, all_by, all_self, in_one, in_left, in_right}
use Rattle.lrp_plan_laws.proofs.PlanLaws.{put_where, get_where}
use Rattle.lrp_plan_laws.proofs.Ranging.{SomeOver, IsFreeOf, some_map, some_same, some_none, unmoved, same_back, closed_by, closed_says, AreGuarded}
use Rattle.lrp_plan_laws.proofs.Standings.{among_has, kept_has, kept_is, flat_all}
use Rattle.lrp_plan_laws.proofs.Telling.{Saying, AreKnown, Tells, last_drop_last, drops, Drops}
use Rattle.lrp_plan_laws.proofs.GuardedStanding.{GuardSays, FitsGuard, IsSoundRule, AreSoundParts, LeftSays, LeftAmong, so_far, Nothing, some_iff}
use Rattle.lrp_plan_laws.proofs.GuardedTaking.{StandsFor, Keeps, atom_kept, sort_kept, test_kept, other_kept}
use Rattle.lrp_plan_laws.proofs.GuardedTelling.{negation_kept, drops_say, left_apart}

-- the number of the last drop, where the first one is of the last step
drops_end : (over : Ground) (vs : List Variable) (of : ℕ) (steps : Steps) → of ≡ length steps → last_drop vs of (drop_each over vs of steps) ≡ length (drop_each over vs of steps)
drops_end over vs of steps e = subst (λ n. last_drop vs n (drop_each over vs n steps) ≡ length (drop_each over vs n steps)) (sym e) (last_drop_last over vs steps)

-- the variables of the closed formula: those of the formula that no quantifier binds
pub closed_free : (cs : List Column) (f : Form) (w : Variable) → Contains (free (closed_by cs f)) w ↔ (Contains (free f) w × (Contains (head_variables cs) w → ⊥))
closed_free [] f w = ((λ c. (c, λ d. contains_none w d)), λ x. x.0)
closed_free (c ∷ cs) f w =
    let r = closed_free cs (exists c.name c.sort f) w in
    let m = without_member (bound_by c.sort c.name) (free f) w in (
      (λ k. let x = r.0 k in let y = m.0 x.0 in (y.0, λ d. ⊎_elim (λ e. y.1 (sym e)) (λ n. x.1 n) (cons_cases (bound_by c.sort c.name) w (head_variables cs) d))),
      λ x. r.1 (m.1 (x.0, λ e. x.1 (subst (Contains (bound_by c.sort c.name ∷ head_variables cs)) (sym e) (contains_first (bound_by c.sort c.name) (head_variables cs)))), λ d. x.1 (contains_later (bound_by c.sort c.name) w (head_variables cs) d)),
    )

-- the variables of what is left among others
left_among : (at : Standing) (vs ws : List Variable) → ((w : Variable) → Contains (variables_left at) w → Contains vs w → Contains ws w) → LeftAmong vs at → LeftAmong ws at
left_among at vs ws go h =
    let v1 = flat_map (λ a. free (atom_form a)) at.atoms in
    let v2 = flat_map (λ e. free (sort_form e)) at.sorts in
    let v3 = flat_map (λ p. free p.formula) at.others in
    let v4 = flat_map variables_of_test at.tests in
    let v5 = flat_map (λ p. free p.formula) at.negations in (
      each (λ a. free (atom_form a)) at.atoms (λ w k. in_left v1 (v2 ++ (v3 ++ (v4 ++ v5))) w k) h.0,
      (
        each (λ e. free (sort_form e)) at.sorts (λ w k. in_right v1 (v2 ++ (v3 ++ (v4 ++ v5))) w (in_left v2 (v3 ++ (v4 ++ v5)) w k)) h.1.0,
        (
          each (λ x. free x.formula) at.others (λ w k. in_right v1 (v2 ++ (v3 ++ (v4 ++ v5))) w (in_right v2 (v3 ++ (v4 ++ v5)) w (in_left v3 (v4 ++ v5) w k))) h.1.1.0,
          (
            each variables_of_test at.tests (λ w k. in_right v1 (v2 ++ (v3 ++ (v4 ++ v5))) w (in_right v2 (v3 ++ (v4 ++ v5)) w (in_right v3 (v4 ++ v5) w (in_left v4 v5 w k)))) h.1.1.1.0,
            each (λ x. free x.formula) at.negations (λ w k. in_right v1 (v2 ++ (v3 ++ (v4 ++ v5))) w (in_right v2 (v3 ++ (v4 ++ v5)) w (in_right v3 (v4 ++ v5) w (in_right v4 v5 w k)))) h.1.1.1.1,
          ),
        ),
      ),
    )
  where
    each : {X : Type 0} (f : X → List Variable) (xs : List X) → ((w : Variable) → Contains (flat_map f xs) w → Contains (variables_left at) w) → AllByRecursion (λ x. AreAmong (f x) vs) xs → AllByRecursion (λ x. AreAmong (f x) ws) xs
    each f xs up hs = all_by (λ x. AreAmong (f x) ws) xs (λ x c w k.
        go w (up w (all_of (Contains (flat_map f xs)) (f x) w (all_of (λ y. AllByRecursion (Contains (flat_map f xs)) (f y)) xs x ((flat_all (Contains (flat_map f xs)) f xs).0 (all_self (flat_map f xs))) c) k)) (all_of (λ y. AreAmong (f y) vs) xs x hs c w k))

-- what takes in leaves parts alone, has taken something, and its last step is the result
record Ups (before after : Standing) : Type 0 where
  others : after.others ≡ before.others
  negations : after.negations ≡ before.negations
  some : after.taken.some ≡ true
  last : after.taken.result ≡ length after.steps

up_facts : (M : Structure) (vs : List Variable) (steps : Steps) (at : Standing) → Ups at (take_up M vs steps at)
up_facts M vs steps at = by at.taken.some
  where
    by : (b : Bool) → Ups at (cond b (record at { steps = join at.taken.result (covered_by (at.taken.variables ++ vs) at.tests) M steps; taken = taken_up (at.taken.variables ++ vs) (join at.taken.result (covered_by (at.taken.variables ++ vs) at.tests) M steps); tests = uncovered_by (at.taken.variables ++ vs) at.tests }) (go_on_from M vs steps at))
    by true = record { others = refl; negations = refl; some = refl; last = refl }
    by false = record { others = refl; negations = refl; some = refl; last = refl }

module _ (over : Ground) (texts : List Text) (valid : IsGround over texts) (alone : StandsFor over.structure) (start : Steps) (outer : List Variable) (p : Saying) where
  abbrev M : Structure
  M = over.structure

  -- what is kept, with parts whose rules are sound
  pub record IsWay (at : Standing) : Type 0 where
    pub keeps : Keeps over texts valid alone start outer p at
    pub others : AreSoundParts over texts at.others
    pub negations : AreSoundParts over texts at.negations

  -- something was taken in, and the last step is the result
  pub record IsDone (at : Standing) : Type 0 where
    pub way : IsWay at
    pub some : at.taken.some ≡ true
    pub last : at.taken.result ≡ length at.steps

  -- ---- spent variables

  pub spent_done : (at : Standing) → IsDone at → IsDone (drop_spent over at)
  spent_done at done = record {
    way = record {
      keeps = record {
        more = w.more ++ d.more;
        is = d.is ∙ ap (λ s. s ++ d.more) w.is ∙ append_assoc start w.more d.more;
        step = omega arith;
        scope = λ e v c.
            let x = d.scope v (subst (λ n. Contains (free (formula_at after n)) v) (sym z) c) in
            by_outer v (w.scope done.some v x.0) (λ b. stays v b (λ k. x.1 k));
        left = left_among at (outer ++ at.block) (outer ++ kept) (λ v k c. by_outer v c (λ b. kept_has (is_among left) at.block v b (among_has left v k))) w.left;
        says = λ env k. then_iff
            (then_iff (some_iff texts outer kept _ _ env k (λ e known. ((λ x. (get_where at.taken.some _ done.some x.0, x.1)), λ x. (put_where at.taken.some _ done.some x.0, x.1))))
            (then_iff (subst (λ n. SomeOver texts kept (λ e. Satisfies (formula_at after (length after)) M e × (Nothing e × LeftSays M at e)) env ↔ SomeOver texts kept (λ e. Satisfies (formula_at after n) M e × (Nothing e × LeftSays M at e)) env) (sym z) same)
            (then_iff (back (drops_say over texts valid alone start outer p spent kept at.block at.taken.result at.steps (λ e. Nothing e × LeftSays M at e) env split apart w.step))
            (some_iff texts outer at.block _ _ env k (λ e known. ((λ x. (put_where at.taken.some _ done.some x.0, x.1)), λ x. (get_where at.taken.some _ done.some x.0, x.1)))))))
            (w.says env k);
      };
      others = done.way.others;
      negations = done.way.negations;
    };
    some = done.some;
    last = refl;
  }
    where
      w : Keeps over texts valid alone start outer p at
      w = done.way.keeps

      left : List Variable
      left = variables_left at

      spent : List Variable
      spent = filter (λ v. not (is_among left v)) at.block

      kept : List Variable
      kept = filter (is_among left) at.block

      after : Steps
      after = drop_each over spent at.taken.result at.steps

      d : Drops M texts spent (so_far at) at.steps after (last_drop spent at.taken.result after)
      d = drops over texts valid spent at.taken.result at.steps w.step

      z : last_drop spent at.taken.result after ≡ length after
      z = drops_end over spent at.taken.result at.steps done.last

      back : {a b : Type 0} → a ↔ b → b ↔ a
      back x = (x.1, x.0)

      by_outer : (v : Variable) → Contains (outer ++ at.block) v → (Contains at.block v → Contains kept v) → Contains (outer ++ kept) v
      by_outer v c h = ⊎_elim (λ a. in_left outer kept v a) (λ b. in_right outer kept v (h b)) (in_one outer at.block v c)

      stays_by : (v : Variable) (b : Bool) → is_among left v ≡ b → Contains at.block v → (Contains spent v → ⊥) → Contains kept v
      stays_by v true e c n = kept_has (is_among left) at.block v c e
      stays_by v false e c n = absurd (n (kept_has (λ x. not (is_among left x)) at.block v c (ap not e)))

      stays : (v : Variable) → Contains at.block v → (Contains spent v → ⊥) → Contains kept v
      stays v c n = stays_by v (is_among left v) refl c n

      split_by : (v : Variable) (b : Bool) → is_among left v ≡ b → Contains at.block v → Contains spent v ⊎ Contains kept v
      split_by v true e c = inr (kept_has (is_among left) at.block v c e)
      split_by v false e c = inl (kept_has (λ x. not (is_among left x)) at.block v c (ap not e))

      split : (v : Variable) → Contains at.block v ↔ (Contains spent v ⊎ Contains kept v)
      split v = ((λ c. split_by v (is_among left v) refl c), λ c. ⊎_elim (λ k. (kept_is (λ x. not (is_among left x)) at.block v k).0) (λ k. (kept_is (is_among left) at.block v k).0) c)

      gone : (b : Bool) → not b ≡ true → b ≡ true → ⊥
      gone true e f = cc
      gone false e f = cc

      apart : (v : Variable) → Contains spent v → IsFreeOf v (λ e. Nothing e × LeftSays M at e)
      apart v c = left_apart over texts valid alone start outer p at v (λ k. gone (is_among left v) (kept_is (λ x. not (is_among left x)) at.block v c).1 (among_has left v k))

  -- ---- rounds

  part_out : (parts : List Part) (i : ℕ) (part : Part) → slice_get parts i ≡ Some part → AreSoundParts over texts parts → AreSoundParts over texts (remove parts i)
  part_out parts i part found sound = ((take_out (λ x. IsSoundRule over texts x.formula x.rule) parts i part found).0 sound).1

  -- taken up: what is kept, and the parts of the one that it was taken up from
  up_done : (vs : List Variable) (steps : Steps) (left : Standing) → AreSoundParts over texts left.others → AreSoundParts over texts left.negations → Keeps over texts valid alone start outer p (take_up M vs steps left) → IsDone (take_up M vs steps left)
  up_done vs steps left others negations keeps =
      let u : Ups left (take_up M vs steps left) = up_facts M vs steps left in
      record {
        way = record { keeps = keeps; others = subst (AreSoundParts over texts) (sym u.others) others; negations = subst (AreSoundParts over texts) (sym u.negations) negations };
        some = u.some;
        last = u.last;
      }

  pub by_atom : (at : Standing) (i : ℕ) (a : Atom) → slice_get at.atoms i ≡ Some a → IsWay at → IsDone (take_atom over i (Some a) at)
  by_atom at i a found w = up_done (free (atom_form a)) (scan_of a.name a.terms M at.steps) (record at { atoms = remove at.atoms i; sorts = still_needed M a at.sorts }) w.others w.negations (atom_kept over texts valid alone start outer p i a at found w.keeps)

  pub by_sort : (at : Standing) (i : ℕ) (s : SortElement) → slice_get at.sorts i ≡ Some s → IsWay at → IsDone (take_sort over i (Some s) at)
  by_sort at i s found w = up_done (free (sort_form s)) (sort_texts s.sort s.variable M at.steps) (record at { sorts = remove at.sorts i }) w.others w.negations (sort_kept over texts valid alone start outer p i s at found w.keeps)

  pub by_test : (at : Standing) (i : ℕ) (u : Test) → slice_get at.tests i ≡ Some u → IsWay at → IsDone (take_test over i (Some u) at)
  by_test at i u found w = up_done (variables_of_test u) (leaf u M at.steps) (record at { tests = remove at.tests i }) w.others w.negations (test_kept over texts valid alone start outer p i u at found w.keeps)

  pub by_other : (at : Standing) (i : ℕ) (part : Part) → slice_get at.others i ≡ Some part → IsWay at → IsDone (take_other over i (Some part) at)
  by_other at i part found w =
      let left : Standing = record at { others = remove at.others i } in
      let steps : Steps = part_steps over at.taken part at.steps in
      by (is_whole_guard over at.taken at.steps part.formula) steps left (part_out at.others i part found w.others) w.negations (other_kept over texts valid alone start outer p i part at found w.others w.keeps)
    where
      by : (b : Bool) (steps : Steps) (left : Standing) → AreSoundParts over texts left.others → AreSoundParts over texts left.negations → Keeps over texts valid alone start outer p (cond b (go_on_from M (free part.formula) steps left) (take_up M (free part.formula) steps left)) → IsDone (cond b (go_on_from M (free part.formula) steps left) (take_up M (free part.formula) steps left))
      by true steps left others negations keeps = record { way = record { keeps = keeps; others = others; negations = negations }; some = refl; last = refl }
      by false steps left others negations keeps = up_done (free part.formula) steps left others negations keeps

  pub by_negation : (at : Standing) (i : ℕ) (part : Part) → slice_get at.negations i ≡ Some part → IsWay at → IsDone (take_negation over i (Some part) at)
  by_negation at i part found w =
      let left : Standing = record at { negations = remove at.negations i } in
      by at.taken.some left w.others (part_out at.negations i part found w.negations) (negation_kept over texts valid alone start outer p i part at found w.negations w.keeps)
    where
      by : (b : Bool) (left : Standing) → AreSoundParts over texts left.others → AreSoundParts over texts left.negations → Keeps over texts valid alone start outer p (take_off over part (cond b (brought M part.formula left) left)) → IsDone (take_off over part (cond b (brought M part.formula left) left))
      by true left others negations keeps = record { way = record { keeps = keeps; others = others; negations = negations }; some = refl; last = refl }
      by false left others negations keeps = record { way = record { keeps = keeps; others = others; negations = negations }; some = refl; last = refl }

  -- ---- the end

  -- the last step says p for some values of these variables; they are dropped, and then it says p
  pub all_dropped : (block turned : List Variable) (steps more : Steps) (n : ℕ) (q : Saying) → steps ≡ start ++ more → n ≡ length steps → ((w : Variable) → Contains turned w ↔ Contains block w) → AreAmong (free (formula_at steps n)) (outer ++ block) → ((e : Assignment) → q e) → ((v : Variable) → IsFreeOf v q)
      → ((env : Assignment) → AreKnown texts outer env → SomeOver texts block (λ e. Satisfies (formula_at steps n) M e × q e) env ↔ p env) → Tells M texts outer start (drop_each over turned n steps) p
  all_dropped block turned steps more n q is last same_vars scope always apart says =
      let le : n ≤ length steps = omega arith in
      let after : Steps = drop_each over turned n steps in
      let d : Drops M texts turned (formula_at steps n) steps after (last_drop turned n after) = drops over texts valid turned n steps le in
      let z : last_drop turned n after ≡ length after = drops_end over turned n steps last in
      record {
        more = more ++ d.more;
        is = d.is ∙ ap (λ s. s ++ d.more) is ∙ append_assoc start more d.more;
        scope = λ v c.
            let x = d.scope v (subst (λ k. Contains (free (formula_at after k)) v) (sym z) c) in
            ⊎_elim (λ a. a) (λ b. absurd (x.1 ((same_vars v).1 b))) (in_one outer block v (scope v x.0));
        says = λ env k.
            let s = drops_say over texts valid alone start outer p turned [] block n steps q env (λ w. ((λ c. inl ((same_vars w).1 c)), λ c. ⊎_elim (λ a. (same_vars w).0 a) (λ b. absurd (contains_none w b)) c)) (λ v c. apart v) le in
            let t = some_none texts (formula_at after (length after)) M env in
            let u = subst (λ k. SomeOver texts [] (λ e. Satisfies (formula_at after k) M e × q e) env ↔ p env) z (then_iff (s.1, s.0) (says env k)) in (
              (λ h. u.0 (some_map texts [] _ _ env (λ e r y. (y, always e)) (t.1 h))),
              λ h. t.0 (some_map texts [] _ _ env (λ e r y. y.0) (u.1 h)),
            );
      }

-- ---- the beginning

module _ (over : Ground) (texts : List Text) (valid : IsGround over texts) (cs : List Column) (f : Form) (guarded : AreGuarded texts over.structure cs f) (guard : Option ℕ) (start : Steps) (fits : FitsGuard guard start (free (closed_by cs f))) where
  -- what a guard says does not depend on the variables of the block
  guard_moved : (guard : Option ℕ) → FitsGuard guard start (free (closed_by cs f)) → (a b : Assignment) → ((w : Variable) → (Contains (head_variables cs) w → ⊥) → SameAt a b w) → GuardSays over.structure guard start a → GuardSays over.structure guard start b
  guard_moved None h a b agree g = tt
  guard_moved (Some n) h a b agree g = unmoved (formula_at start n) over.structure a b (λ w c. agree w ((closed_free cs f w).0 (h.1 w c)).1) g

  guard_stable : (guard : Option ℕ) (env : Assignment) → ((GuardSays over.structure guard start env → ⊥) → ⊥) → GuardSays over.structure guard start env
  guard_stable None env h = tt
  guard_stable (Some n) env h = stable (formula_at start n) over.structure env h

  -- the guard and the formula for some values of the block's variables: the guard, and the formula within its quantifiers
  pub block_says : (block : List Variable) → ((w : Variable) → Contains block w ↔ Contains (head_variables cs) w) → (env : Assignment) → SomeOver texts block (λ e. GuardSays over.structure guard start e × Satisfies f over.structure e) env ↔ (GuardSays over.structure guard start env × Satisfies (closed_by cs f) over.structure env)
  block_says block same_vars env =
      let c = closed_says over texts valid cs f env guarded in (
        (λ h. (
          guard_stable guard env (λ fails. h (λ e x. fails (guard_moved guard fits e env (λ w n. x.0.others w (λ k. n ((same_vars w).0 k))) x.1.0))),
          c.1 (some_same texts block (head_variables cs) _ env same_vars (some_map texts block _ _ env (λ e r x. x.1) h)),
        )),
        λ h. some_map texts block _ _ env (λ e r x. (guard_moved guard fits env e (λ w n. same_back w e env (r.others w (λ k. n ((same_vars w).0 k)))) h.0, x)) (some_same texts (head_variables cs) block _ env (λ w. ((same_vars w).1, (same_vars w).0)) (c.0 h.1)),
      )
