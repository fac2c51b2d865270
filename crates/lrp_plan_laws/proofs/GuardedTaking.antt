-- Each way of taking an element in keeps what an `and` under a guard keeps.
use Rattle.std.proofs.Common.{◌≡◌, ◌↔◌, ◌≤◌, ℕ, Bool, true, false, cond, not, ◌&&◌, List, [], ◌++◌, length, append-nil, Some, None, slice_get, remove, filter, refl, sym, ap, subst, ◌∙◌, arith}
use Rattle.std.specs.Prelude.{nat_eq}
use Rattle.std.specs.List.{AllByRecursion}
use Rattle.lrp_model.specs.Texts.{Text}
use Rattle.lrp_model.specs.Rows.{relation_named, columns_in}
use Rattle.lrp_model.specs.Formulas.{Form, test}
use Rattle.lrp_model.specs.Variables.{Variable, variables_of_test, free}
use Rattle.lrp_model.specs.Satisfaction.{Structure, Assignment, Satisfies, Passes}
use Rattle.lrp_model.specs.Steps.{Steps, formula_at, made, scan_of, leaf, sort_texts}
use Rattle.lrp_model.specs.declared.formulas.Test.{Test}
use Rattle.lrp_model.specs.declared.plans.StepKind.{StepKind}
use Rattle.lrp_model.specs.declared.plans.StepKind.TheVariants.{Scan, Leaf, Sort as SortStep}
use Rattle.lrp_model.proofs.Logic.{same, then_iff}
use Rattle.lrp_plan_laws.specs.Atoms.{Atom}
use Rattle.lrp_plan_laws.specs.Made.{AreAmong}
use Rattle.lrp_plan_laws.specs.Projections.{PlanGround as Ground, project, projected}
use Rattle.lrp_plan_laws.specs.GuardedConjunctions.{GuardedPart as Part, SortElement, Standing, atom_form, sort_form, take_up, go_on_from, stands_alone, still_needed, has_guard, under, part_steps, is_whole_guard, take_atom, take_sort, take_other, take_one_test as take_test}
use Rattle.lrp_plan_laws.proofs.Dropped.{IsGround}
use Rattle.lrp_plan_laws.proofs.Elements.{take_out, split_all, formula_front}
use Rattle.lrp_plan_laws.proofs.Members.{all_by}
use Rattle.lrp_plan_laws.proofs.PlanLaws.{Where, put_where, get_where, and_first}
use Rattle.lrp_plan_laws.proofs.Telling.{Saying, AreKnown, Tells, tells_made, tells_from, passes, Projects, projects}
use Rattle.lrp_plan_laws.proofs.GuardedStanding.{IsSoundRule, AreSoundParts, so_far, IsOnTheWay, Nothing, some_iff, gone_on, taken_in}

-- where an atom has the variable of a sort element alone in a column of its sort, the atom is satisfied only where the element is
abbrev pub StandsFor : Structure → Type 0
StandsFor M = (a : Atom) (e : SortElement) → stands_alone e (columns_in (relation_named M.relations a.name)) a.terms ≡ true → (env : Assignment) → Satisfies (atom_form a) M env → Satisfies (sort_form e) M env

both_true : (a b : Bool) → (a && b) ≡ true → (a ≡ true) × (b ≡ true)
both_true true b e = (refl, e)
both_true false b e = cc

same_number : (m n : ℕ) → nat_eq m n ≡ true → m ≡ n
same_number m n e = grind arith

not_not : (b : Bool) → not (not b) ≡ true → b ≡ true
not_not true e = refl
not_not false e = cc

module _ (over : Ground) (texts : List Text) (valid : IsGround over texts) (alone : StandsFor over.structure) (start : Steps) (outer : List Variable) (p : Saying) where
  abbrev M : Structure
  M = over.structure

  -- what is kept
  abbrev pub Keeps : Standing → Type 0
  Keeps at = IsOnTheWay M texts start outer p Nothing at

  -- a step of its own for a formula
  pub leaf_tells : (room : List Variable) (steps : Steps) (kind : StepKind) (f : Form) → AreAmong (free f) room → Tells M texts room steps (made M kind f steps) (Satisfies f M)
  leaf_tells room steps kind f scope = tells_made M texts room steps steps [] kind f (Satisfies f M) (sym (append-nil steps)) scope (λ env k. same)

  -- ---- atoms, sort elements and tests

  pub atom_kept : (i : ℕ) (a : Atom) (at : Standing) → slice_get at.atoms i ≡ Some a → Keeps at → Keeps (take_atom over i (Some a) at)
  atom_kept i a at e w =
      let room : List Variable = outer ++ at.block in
      let needed : SortElement → Bool = λ s. not (stands_alone s (columns_in (relation_named M.relations a.name)) a.terms) in
      let t = (take_out (λ x. AreAmong (free (atom_form x)) room) at.atoms i a e).0 w.left.0 in
      let among = (split_all (λ s. AreAmong (free (sort_form s)) room) needed at.sorts).0 w.left.1.0 in
      let left : Standing = record at { atoms = remove at.atoms i; sorts = still_needed M a at.sorts } in
      let needless : (env : Assignment) → Satisfies (atom_form a) M env → AllByRecursion (λ s. Satisfies (sort_form s) M env) (filter (λ s. not (needed s)) at.sorts) =
      λ env h. all_by (λ s. Satisfies (sort_form s) M env) (filter (λ s. not (needed s)) at.sorts) (λ s c. alone a s (not_not (stands_alone s (columns_in (relation_named M.relations a.name)) a.terms) (passes (λ s. not (needed s)) at.sorts s c)) env h) in
      let on : IsOnTheWay M texts start outer p (Satisfies (atom_form a) M) left =
      record {
        more = w.more;
        is = w.is;
        step = w.step;
        scope = w.scope;
        left = (t.1, (among.0, w.left.1.1));
        says = λ env k. then_iff
            (some_iff texts outer at.block _ _ env k (λ e known.
            let u = take_out (λ x. Satisfies (atom_form x) M e) at.atoms i a e2 in
            let s = split_all (λ s. Satisfies (sort_form s) M e) needed at.sorts in (
              (λ x. (x.0, (tt, (u.1 (x.1.0, x.1.1.0), (s.1 (x.1.1.1.0, needless e x.1.0), x.1.1.1.1))))),
              λ x. let y = u.0 x.1.1.0 in let z = s.0 x.1.1.1.0 in (x.0, (y.0, (y.1, (z.0, x.1.1.1.1)))),
            )))
            (w.says env k);
      } in
      taken_in M texts start outer p (free (atom_form a)) (scan_of a.name a.terms M at.steps) (Satisfies (atom_form a) M) (Satisfies (atom_form a) M) left on (leaf_tells room at.steps (Scan a.name a.terms) (atom_form a) t.0) (λ e known h. same)
    where
      e2 : slice_get at.atoms i ≡ Some a
      e2 = e

  pub sort_kept : (i : ℕ) (s : SortElement) (at : Standing) → slice_get at.sorts i ≡ Some s → Keeps at → Keeps (take_sort over i (Some s) at)
  sort_kept i s at found w =
      let room : List Variable = outer ++ at.block in
      let t = (take_out (λ x. AreAmong (free (sort_form x)) room) at.sorts i s found).0 w.left.1.0 in
      let left : Standing = record at { sorts = remove at.sorts i } in
      let on : IsOnTheWay M texts start outer p (Satisfies (sort_form s) M) left =
      record {
        more = w.more;
        is = w.is;
        step = w.step;
        scope = w.scope;
        left = (w.left.0, (t.1, w.left.1.1));
        says = λ env k. then_iff
            (some_iff texts outer at.block _ _ env k (λ e known.
            let u = take_out (λ x. Satisfies (sort_form x) M e) at.sorts i s found in (
              (λ x. (x.0, (tt, (x.1.1.0, (u.1 (x.1.0, x.1.1.1.0), x.1.1.1.1))))),
              λ x. let y = u.0 x.1.1.1.0 in (x.0, (y.0, (x.1.1.0, (y.1, x.1.1.1.1)))),
            )))
            (w.says env k);
      } in
      taken_in M texts start outer p (free (sort_form s)) (sort_texts s.sort s.variable M at.steps) (Satisfies (sort_form s) M) (Satisfies (sort_form s) M) left on (leaf_tells room at.steps (SortStep s.variable s.sort (M.domain s.sort)) (sort_form s) t.0) (λ e known h. same)

  pub test_kept : (i : ℕ) (u : Test) (at : Standing) → slice_get at.tests i ≡ Some u → Keeps at → Keeps (take_test over i (Some u) at)
  test_kept i u at found w =
      let room : List Variable = outer ++ at.block in
      let t = (take_out (λ x. AreAmong (variables_of_test x) room) at.tests i u found).0 w.left.1.1.1.0 in
      let left : Standing = record at { tests = remove at.tests i } in
      let on : IsOnTheWay M texts start outer p (λ env. Passes env u) left =
      record {
        more = w.more;
        is = w.is;
        step = w.step;
        scope = w.scope;
        left = (w.left.0, (w.left.1.0, (w.left.1.1.0, (t.1, w.left.1.1.1.1))));
        says = λ env k. then_iff
            (some_iff texts outer at.block _ _ env k (λ e known.
            let v = take_out (Passes e) at.tests i u found in (
              (λ x. (x.0, (tt, (x.1.1.0, (x.1.1.1.0, (x.1.1.1.1.0, (v.1 (x.1.0, x.1.1.1.1.1.0), x.1.1.1.1.1.1))))))),
              λ x. let y = v.0 x.1.1.1.1.1.0 in (x.0, (y.0, (x.1.1.0, (x.1.1.1.0, (x.1.1.1.1.0, (y.1, x.1.1.1.1.1.1)))))),
            )))
            (w.says env k);
      } in
      taken_in M texts start outer p (variables_of_test u) (leaf u M at.steps) (λ env. Passes env u) (λ env. Passes env u) left on (leaf_tells room at.steps (Leaf u) (test u) t.0) (λ e known h. same)

  -- ---- parts

  -- the steps of a part after these: what they say with the result so far is what the part says
  pub record PartTells (room : List Variable) (at : Standing) (f : Form) (steps : Steps) : Type 1 where
    pub says_what : Saying
    pub tells : Tells M texts room at.steps steps says_what
    pub with_result : (e : Assignment) → AreKnown texts room e → Where at.taken.some (Satisfies (so_far at) M e) → says_what e ↔ Satisfies f M e

  widened : (vs room : List Variable) (before after : Steps) (q : Saying) → AreAmong vs room → Tells M texts vs before after q → Tells M texts room before after q
  widened vs room before after q among t = record { more = t.more; is = t.is; scope = λ w c. among w (t.scope w c); says = λ env k. t.says env (λ w c. k w (among w c)) }

  under_tells : (room : List Variable) (at : Standing) (part : Part) → at.taken.some ≡ true → at.taken.result ≤ length at.steps → AreAmong (free (so_far at)) room → AreAmong (free part.formula) room → IsSoundRule over texts part.formula part.rule
      → Tells M texts room at.steps (under over at.taken part at.steps) (λ e. Satisfies (formula_at (project over (free part.formula) at.taken.result at.steps) (projected over (free part.formula) at.taken.result at.steps)) M e × Satisfies part.formula M e)
  under_tells room at part some le scope among sound =
      let wanted : List Variable = free part.formula in
      let mid : Steps = project over wanted at.taken.result at.steps in
      let n : ℕ = projected over wanted at.taken.result at.steps in
      let pr : Projects over texts valid wanted (so_far at) at.steps mid n = projects over texts valid wanted at.taken.result at.steps le in
      tells_from M texts room at.steps mid (under over at.taken part at.steps) pr.more _ pr.is
      (widened wanted room mid (under over at.taken part at.steps) _ among (sound (Some n) mid (pr.step, pr.scope)))

  pub part_tells : (room : List Variable) (at : Standing) (part : Part) (b : Bool) → has_guard at.taken at.steps part.formula ≡ b → at.taken.result ≤ length at.steps → (at.taken.some ≡ true → AreAmong (free (so_far at)) room) → AreAmong (free part.formula) room → IsSoundRule over texts part.formula part.rule
      → PartTells room at part.formula (cond b (under over at.taken part at.steps) (part.rule over None at.steps))
  part_tells room at part true e le scope among sound =
      let some : at.taken.some ≡ true = and_first _ _ e in
      let pr : Projects over texts valid (free part.formula) (so_far at) at.steps (project over (free part.formula) at.taken.result at.steps) (projected over (free part.formula) at.taken.result at.steps) = projects over texts valid (free part.formula) at.taken.result at.steps le in
      record {
        says_what = _;
        tells = under_tells room at part some le (scope some) among sound;
        with_result = λ a known h. ((λ x. x.1), λ x. (pr.says a (λ w c. known w (scope some w c)) (get_where at.taken.some _ some h), x));
      }
  part_tells room at part false e le scope among sound = record {
    says_what = _;
    tells = widened (free part.formula) room at.steps (part.rule over None at.steps) _ among (sound None at.steps tt);
    with_result = λ a known h. ((λ x. x.1), λ x. (tt, x));
  }

  pub other_kept : (i : ℕ) (part : Part) (at : Standing) → slice_get at.others i ≡ Some part → AreSoundParts over texts at.others → Keeps at → Keeps (take_other over i (Some part) at)
  other_kept i part at found sound w = by (is_whole_guard over at.taken at.steps part.formula) refl
    where
      room : List Variable
      room = outer ++ at.block

      out : AreAmong (free part.formula) room × AllByRecursion (λ x. AreAmong (free x.formula) room) (remove at.others i)
      out = (take_out (λ x. AreAmong (free x.formula) room) at.others i part found).0 w.left.1.1.0

      rule : IsSoundRule over texts part.formula part.rule
      rule = ((take_out (λ x. IsSoundRule over texts x.formula x.rule) at.others i part found).0 sound).0

      steps : Steps
      steps = part_steps over at.taken part at.steps

      left : Standing
      left = record at { others = remove at.others i }

      on : IsOnTheWay M texts start outer p (Satisfies part.formula M) left
      on = record {
        more = w.more;
        is = w.is;
        step = w.step;
        scope = w.scope;
        left = (w.left.0, (w.left.1.0, (out.1, w.left.1.1.1)));
        says = λ env k. then_iff
            (some_iff texts outer at.block _ _ env k (λ e known.
            let u = take_out (λ x. Satisfies x.formula M e) at.others i part found in (
              (λ x. (x.0, (tt, (x.1.1.0, (x.1.1.1.0, (u.1 (x.1.0, x.1.1.1.1.0), x.1.1.1.1.1)))))),
              λ x. let y = u.0 x.1.1.1.1.0 in (x.0, (y.0, (x.1.1.0, (x.1.1.1.0, (y.1, x.1.1.1.1.1))))),
            )))
            (w.says env k);
      }

      pt : PartTells room at part.formula steps
      pt = part_tells room at part (has_guard at.taken at.steps part.formula) refl w.step w.scope out.0 rule

      by : (b : Bool) → is_whole_guard over at.taken at.steps part.formula ≡ b → Keeps (cond b (go_on_from M (free part.formula) steps left) (take_up M (free part.formula) steps left))
      by false e = taken_in M texts start outer p (free part.formula) steps pt.says_what (Satisfies part.formula M) left on pt.tells pt.with_result
      by true e =
          let both = both_true (has_guard at.taken at.steps part.formula) _ e in
          let some : at.taken.some ≡ true = and_first _ _ both.0 in
          let wanted : List Variable = free part.formula in
          let mid : Steps = project over wanted at.taken.result at.steps in
          let n : ℕ = projected over wanted at.taken.result at.steps in
          let pr : Projects over texts valid wanted (so_far at) at.steps mid n = projects over texts valid wanted at.taken.result at.steps w.step in
          let number : n ≡ at.taken.result = same_number n at.taken.result both.1 in
          let formula : formula_at mid n ≡ so_far at = ap (formula_at mid) number ∙ kept_front mid pr.more at.taken.result pr.is w.step in
          let t : Tells M texts room at.steps (under over at.taken part at.steps) (λ a. Satisfies (formula_at mid n) M a × Satisfies part.formula M a) = under_tells room at part some w.step (w.scope some) out.0 rule in
          let same_steps : under over at.taken part at.steps ≡ steps = ap (λ g. cond g (under over at.taken part at.steps) (part.rule over None at.steps)) (sym both.0) in
          gone_on M texts start outer p (free part.formula) steps (λ a. Satisfies (formula_at mid n) M a × Satisfies part.formula M a) (Satisfies part.formula M) left on
          (subst (λ s. Tells M texts room at.steps s (λ a. Satisfies (formula_at mid n) M a × Satisfies part.formula M a)) same_steps t)
          (λ a known. ((λ x. (put_where at.taken.some _ some (subst (λ g. Satisfies g M a) formula x.0), x.1)), λ x. (subst (λ g. Satisfies g M a) (sym formula) (get_where at.taken.some _ some x.0), x.1)))
        where
          kept_front : (mid more : Steps) (i : ℕ) → mid ≡ at.steps ++ more → i ≤ length at.steps → formula_at mid i ≡ formula_at at.steps i
          kept_front mid more i is le = ap (λ s. formula_at s i) is ∙ formula_front at.steps more i le
