-- An `and` under a guard, from where it begins: it says what its guard says, and what the `and` says within the quantifiers of its block.
use Rattle.std.proofs.Common.{◌≡◌, ◌↔◌, ◌⊎◌, ⊎_elim, inl, inr, ◌<◌, ◌+◌, ℕ, Bool, true, false, cond, List, [], ◌∷◌, ◌++◌, length, append_assoc, append-nil, Option, Some, None, reverse, Contains, refl, sym, ap, subst, ◌∙◌, arith}
use Rattle.std.specs.List.{AllByRecursion}
use Rattle.lrp_model.specs.Texts.{Text}
use Rattle.lrp_model.specs.Rows.{rows_of}
use Rattle.lrp_model.specs.Formulas.{Form}
use Rattle.lrp_model.specs.Variables.{Variable, variables_of_test, are_among, head_variables, free}
use Rattle.lrp_model.specs.Satisfaction.{Structure, Assignment, Satisfies, Passes}
use Rattle.lrp_model.specs.Steps.{Steps}
use Rattle.lrp_model.specs.Conjunctions.{select_each}
use Rattle.lrp_model.specs.declared.relations.Column.{Column}
use Rattle.lrp_model.specs.declared.formulas.Test.{Test}
use Rattle.lrp_model.proofs.Logic.{then_iff}
use Rattle.lrp_plan_laws.specs.Atoms.{Atom}
use Rattle.lrp_plan_laws.specs.Made.{AreAmong}
use Rattle.lrp_plan_laws.specs.Projections.{PlanGround as Ground}
use Rattle.lrp_plan_laws.specs.GuardedConjunctions.{SortElement, Standing, Elements, atom_form, sort_form, covered_by, uncovered_by, select_from, select_each_from, last_selected, elements_left, rounds, next_choice, begun, ranked_by, standing_first, guarded_conjunction as conjunction_rule}
use Rattle.lrp_plan_laws.proofs.Choices.{all_rounds}
use Rattle.lrp_plan_laws.proofs.Dropped.{IsGround}
use Rattle.lrp_plan_laws.proofs.Elements.{split_all}
use Rattle.lrp_plan_laws.proofs.GuardedAnd.{turned_has, ranked_all, ranked_length, split_length}
use Rattle.lrp_plan_laws.proofs.Members.{all_map, in_left, in_right}
use Rattle.lrp_plan_laws.proofs.PlanLaws.{put_where, get_where}
use Rattle.lrp_plan_laws.proofs.Ranging.{among_or_not, SomeOver, closed_by, AreGuarded}
use Rattle.lrp_plan_laws.proofs.Telling.{Saying, Tells, select_tells, select_from_tells}
use Rattle.lrp_plan_laws.proofs.GuardedStanding.{GuardSays, FitsGuard, IsSoundRule, AreSoundParts, LeftSays, LeftAmong, so_far, Nothing, some_iff}
use Rattle.lrp_plan_laws.proofs.GuardedTaking.{StandsFor, Keeps}
use Rattle.lrp_plan_laws.proofs.GuardedWhole.{IsWay, IsDone, spent_done, by_atom, by_sort, by_test, by_other, by_negation, all_dropped, block_says, closed_free}

-- what the elements of an `and` say
abbrev pub ElementsSay : Structure → Elements → Saying
ElementsSay M es env =
    AllByRecursion (λ a. Satisfies (atom_form a) M env) es.atoms
    × (AllByRecursion (λ e. Satisfies (sort_form e) M env) es.sorts
    × (AllByRecursion (λ p. Satisfies p.formula M env) es.others
    × (AllByRecursion (Passes env) es.tests
    × AllByRecursion (λ p. Satisfies p.formula M env → ⊥) es.negations)))

-- their variables are among these
abbrev pub ElementsAmong : List Variable → Elements → Type 0
ElementsAmong vs es =
    AllByRecursion (λ a. AreAmong (free (atom_form a)) vs) es.atoms
    × (AllByRecursion (λ e. AreAmong (free (sort_form e)) vs) es.sorts
    × (AllByRecursion (λ p. AreAmong (free p.formula) vs) es.others
    × (AllByRecursion (λ t. AreAmong (variables_of_test t) vs) es.tests
    × AllByRecursion (λ p. AreAmong (free p.formula) vs) es.negations)))

abbrev pub element_count : Elements → ℕ
element_count es = length es.atoms + (length es.sorts + (length es.others + (length es.tests + length es.negations)))

module _ (over : Ground) (texts : List Text) (valid : IsGround over texts) (alone : StandsFor over.structure) where
  abbrev M : Structure
  M = over.structure

  -- ---- the tests that the guard covers

  module _ (start : Steps) (outer : List Variable) (p : Saying) where
    abbrev Way : Standing → Type 0
    Way at = IsWay over texts valid alone start outer p at

    abbrev Done : Standing → Type 0
    Done at = IsDone over texts valid alone start outer p at

    -- what is kept once the tests that are covered are selected by, or there is none
    begun_way : (at : Standing) → at.taken.some ≡ true → Way at → 0 < elements_left at → (first : List Test) → covered_by at.taken.variables at.tests ≡ first
        → Way (record at { steps = select_each_from at.taken.result first M at.steps; taken = record { some = true; result = last_selected first at.taken.result (select_each_from at.taken.result first M at.steps); variables = at.taken.variables }; tests = uncovered_by at.taken.variables at.tests })
        × (Done (record at { steps = select_each_from at.taken.result first M at.steps; taken = record { some = true; result = last_selected first at.taken.result (select_each_from at.taken.result first M at.steps); variables = at.taken.variables }; tests = uncovered_by at.taken.variables at.tests })
        ⊎ (0 < elements_left (record at { steps = select_each_from at.taken.result first M at.steps; taken = record { some = true; result = last_selected first at.taken.result (select_each_from at.taken.result first M at.steps); variables = at.taken.variables }; tests = uncovered_by at.taken.variables at.tests })))
    begun_way at some way more [] e =
        let w = way.keeps in
        let room : List Variable = outer ++ at.block in
        let c : Test → Bool = λ t. are_among (variables_of_test t) at.taken.variables in
        let among = (split_all (λ t. AreAmong (variables_of_test t) room) c at.tests).0 w.left.1.1.1.0 in
        let l : length (covered_by at.taken.variables at.tests) + length (uncovered_by at.taken.variables at.tests) ≡ length at.tests = split_length c at.tests in
        let z : length (covered_by at.taken.variables at.tests) ≡ 0 = ap length e in (
          record {
            keeps = record {
              more = w.more;
              is = w.is;
              step = w.step;
              scope = λ q. w.scope some;
              left = (w.left.0, (w.left.1.0, (w.left.1.1.0, (among.1, w.left.1.1.1.1))));
              says = λ env k. then_iff
                  (some_iff texts outer at.block _ _ env k (λ a known.
                  let s = split_all (Passes a) c at.tests in (
                    (λ x. (put_where at.taken.some _ some x.0, (tt, (x.1.1.0, (x.1.1.1.0, (x.1.1.1.1.0, (s.1 (subst (AllByRecursion (Passes a)) (sym e) tt, x.1.1.1.1.1.0), x.1.1.1.1.1.1))))))),
                    λ x. (get_where at.taken.some _ some x.0, (tt, (x.1.1.0, (x.1.1.1.0, (x.1.1.1.1.0, ((s.0 x.1.1.1.1.1.0).1, x.1.1.1.1.1.1)))))),
                  )))
                  (w.says env k);
            };
            others = way.others;
            negations = way.negations;
          },
          inr (omega (arith, more, l, z)),
        )
    begun_way at some way more (t ∷ ts) e =
        let w = way.keeps in
        let room : List Variable = outer ++ at.block in
        let c : Test → Bool = λ t. are_among (variables_of_test t) at.taken.variables in
        let among = (split_all (λ t. AreAmong (variables_of_test t) room) c at.tests).0 w.left.1.1.1.0 in
        let known : AllByRecursion (λ t. AreAmong (variables_of_test t) room) (t ∷ ts) = subst (AllByRecursion (λ t. AreAmong (variables_of_test t) room)) e among.0 in
        let one : Tells M texts room at.steps (select_from at.taken.result t M at.steps) (λ a. Satisfies (so_far at) M a × Passes a t) =
        select_from_tells M texts room at.steps at.steps [] at.taken.result t (sym (append-nil at.steps)) (w.scope some) known.0 in
        let n : Tells M texts room at.steps (select_each ts M (select_from at.taken.result t M at.steps)) (λ a. (Satisfies (so_far at) M a × Passes a t) × AllByRecursion (Passes a) ts) =
        select_tells M texts room at.steps (select_from at.taken.result t M at.steps) [] _ ts known.1 one in
        let kept : Keeps over texts valid alone start outer p (record at { steps = select_each ts M (select_from at.taken.result t M at.steps); taken = record { some = true; result = length (select_each ts M (select_from at.taken.result t M at.steps)); variables = at.taken.variables }; tests = uncovered_by at.taken.variables at.tests }) =
        record {
          more = w.more ++ n.more;
          is = n.is ∙ ap (λ s. s ++ n.more) w.is ∙ append_assoc start w.more n.more;
          step = omega arith;
          scope = λ q. n.scope;
          left = (w.left.0, (w.left.1.0, (w.left.1.1.0, (among.1, w.left.1.1.1.1))));
          says = λ env k. then_iff
              (some_iff texts outer at.block _ _ env k (λ a good.
              let s = split_all (Passes a) c at.tests in (
                (λ x. let y = (n.says a good).0 x.0 in (put_where at.taken.some _ some y.0.0, (tt, (x.1.1.0, (x.1.1.1.0, (x.1.1.1.1.0, (s.1 (subst (AllByRecursion (Passes a)) (sym e) (y.0.1, y.1), x.1.1.1.1.1.0), x.1.1.1.1.1.1))))))),
                λ x. let z = s.0 x.1.1.1.1.1.0 in let f = subst (AllByRecursion (Passes a)) e z.0 in ((n.says a good).1 ((get_where at.taken.some _ some x.0, f.0), f.1), (tt, (x.1.1.0, (x.1.1.1.0, (x.1.1.1.1.0, (z.1, x.1.1.1.1.1.1)))))),
              )))
              (w.says env k);
        } in
        let done_way : Way (record at { steps = select_each ts M (select_from at.taken.result t M at.steps); taken = record { some = true; result = length (select_each ts M (select_from at.taken.result t M at.steps)); variables = at.taken.variables }; tests = uncovered_by at.taken.variables at.tests }) =
        record { keeps = kept; others = way.others; negations = way.negations } in
        (done_way, inl (record { way = done_way; some = refl; last = refl }))

    begun_kept : (at : Standing) → Way at → 0 < elements_left at → Way (begun over at) × (Done (begun over at) ⊎ (0 < elements_left (begun over at)))
    begun_kept at way more = by at.taken.some refl
      where
        by : (b : Bool) → at.taken.some ≡ b
            → Way (cond b (record at { steps = select_each_from at.taken.result (covered_by at.taken.variables at.tests) M at.steps; taken = record { some = true; result = last_selected (covered_by at.taken.variables at.tests) at.taken.result (select_each_from at.taken.result (covered_by at.taken.variables at.tests) M at.steps); variables = at.taken.variables }; tests = uncovered_by at.taken.variables at.tests }) at)
            × (Done (cond b (record at { steps = select_each_from at.taken.result (covered_by at.taken.variables at.tests) M at.steps; taken = record { some = true; result = last_selected (covered_by at.taken.variables at.tests) at.taken.result (select_each_from at.taken.result (covered_by at.taken.variables at.tests) M at.steps); variables = at.taken.variables }; tests = uncovered_by at.taken.variables at.tests }) at)
            ⊎ (0 < elements_left (cond b (record at { steps = select_each_from at.taken.result (covered_by at.taken.variables at.tests) M at.steps; taken = record { some = true; result = last_selected (covered_by at.taken.variables at.tests) at.taken.result (select_each_from at.taken.result (covered_by at.taken.variables at.tests) M at.steps); variables = at.taken.variables }; tests = uncovered_by at.taken.variables at.tests }) at)))
        by true some = begun_way at some way more (covered_by at.taken.variables at.tests) refl
        by false none = (way, inr more)

    -- all rounds: nothing is left
    pub rounds_done : (at : Standing) → Way at → 0 < elements_left at → Done (rounds over (elements_left (begun over at)) (next_choice (begun over at)) (begun over at)) × (elements_left (rounds over (elements_left (begun over at)) (next_choice (begun over at)) (begun over at)) ≡ 0)
    rounds_done at way more =
        let b = begun_kept at way more in
        all_rounds over Way Done (λ s d. d.way) (spent_done over texts valid alone start outer p) (by_atom over texts valid alone start outer p) (by_sort over texts valid alone start outer p) (by_other over texts valid alone start outer p) (by_test over texts valid alone start outer p) (by_negation over texts valid alone start outer p)
        (elements_left (begun over at)) (begun over at) (next_choice (begun over at)) refl (omega arith) b.0 b.1

  -- ---- an `and` of these elements

  nothing_says : {X : Type 0} (q : X → Type 0) (xs : List X) → length xs ≡ 0 → AllByRecursion q xs
  nothing_says q [] e = tt
  nothing_says q (x ∷ xs) e = absurd (omega arith)

  empty_is_free : (at : Standing) → elements_left at ≡ 0 → (e : Assignment) → Nothing e × LeftSays M at e
  empty_is_free at none e =
      (tt, (nothing_says _ at.atoms (omega (arith, none)), (nothing_says _ at.sorts (omega (arith, none)), (nothing_says _ at.others (omega (arith, none)), (nothing_says _ at.tests (omega (arith, none)), nothing_says _ at.negations (omega (arith, none)))))))

  module _ (es : Elements) (cs : List Column) (f : Form) (block : List Variable) (same_vars : (w : Variable) → Contains block w ↔ Contains (head_variables cs) w) (guarded : AreGuarded texts M cs f)
      (others : AreSoundParts over texts es.others) (negations : AreSoundParts over texts es.negations) (more : 0 < element_count es)
      (says : (env : Assignment) → ElementsSay M es env ↔ Satisfies f M env) (among : ElementsAmong (free f) es) where
    abbrev outer : List Variable
    outer = free (closed_by cs f)

    widen : (w : Variable) → Contains (free f) w → Contains (outer ++ block) w
    widen w c = ⊎_elim (λ k. in_right outer block w ((same_vars w).1 k)) (λ n. in_left outer block w ((closed_free cs f w).1 (c, n))) (among_or_not (head_variables cs) w)

    wide : {X : Type 0} (g : X → List Variable) (xs : List X) → AllByRecursion (λ x. AreAmong (g x) (free f)) xs → AllByRecursion (λ x. AreAmong (g x) (outer ++ block)) xs
    wide g xs h = all_map (λ x. AreAmong (g x) (free f)) (λ x. AreAmong (g x) (outer ++ block)) xs (λ x k w c. widen w (k w c)) h

    abbrev rows : Atom → ℕ
    rows a = length (rows_of M.relations a.name)

    abbrev entries : SortElement → ℕ
    entries e = length (M.domain e.sort)

    first_left : LeftAmong (outer ++ block) (standing_first over es block None [])
    first_left = (
      (ranked_all (λ a. AreAmong (free (atom_form a)) (outer ++ block)) rows es.atoms).1 (wide (λ a. free (atom_form a)) es.atoms among.0),
      (
        (ranked_all (λ e. AreAmong (free (sort_form e)) (outer ++ block)) entries es.sorts).1 (wide (λ e. free (sort_form e)) es.sorts among.1.0),
        (
          wide (λ x. free x.formula) es.others among.1.1.0,
          (
            wide variables_of_test es.tests among.1.1.1.0,
            wide (λ x. free x.formula) es.negations among.1.1.1.1,
          ),
        ),
      ),
    )

    -- what is left at first is the whole
    first_says : (env : Assignment) → LeftSays M (standing_first over es block None []) env ↔ Satisfies f M env
    first_says env =
        let a = ranked_all (λ x. Satisfies (atom_form x) M env) rows es.atoms in
        let s = ranked_all (λ x. Satisfies (sort_form x) M env) entries es.sorts in
        then_iff ((λ h. (a.0 h.0, (s.0 h.1.0, h.1.1))), λ h. (a.1 h.0, (s.1 h.1.0, h.1.1))) (says env)

    first_more : 0 < elements_left (standing_first over es block None [])
    first_more =
        let a : length (ranked_by rows es.atoms) ≡ length es.atoms = ranked_length rows es.atoms in
        let s : length (ranked_by entries es.sorts) ≡ length es.sorts = ranked_length entries es.sorts in
        omega (arith, a, s, more)

    module _ (guard : Option ℕ) (start : Steps) (fits : FitsGuard guard start outer) where
      abbrev whole : Saying
      whole env = GuardSays M guard start env × Satisfies (closed_by cs f) M env

      -- where it begins
      first_way : (guard : Option ℕ) → FitsGuard guard start outer → ((env : Assignment) → SomeOver texts block (λ e. GuardSays M guard start e × Satisfies f M e) env ↔ whole env) → IsWay over texts valid alone start outer whole (standing_first over es block guard start)
      first_way None h b = record {
        keeps = record {
          more = [];
          is = sym (append-nil start);
          step = omega arith;
          scope = λ q. cc;
          left = first_left;
          says = λ env k. then_iff (some_iff texts outer block _ _ env k (λ e known. ((λ x. (tt, (first_says e).0 x.1.1)), λ x. (tt, (tt, (first_says e).1 x.1))))) (b env);
        };
        others = others;
        negations = negations;
      }
      first_way (Some n) h b = record {
        keeps = record {
          more = [];
          is = sym (append-nil start);
          step = h.0;
          scope = λ q w c. in_left outer block w (h.1 w c);
          left = first_left;
          says = λ env k. then_iff (some_iff texts outer block _ _ env k (λ e known. ((λ x. (x.0, (first_says e).0 x.1.1)), λ x. (x.0, (tt, (first_says e).1 x.1))))) (b env);
        };
        others = others;
        negations = negations;
      }

      pub conjunction_tells : Tells M texts outer start (conjunction_rule es block over guard start) whole
      conjunction_tells =
          let at : Standing = standing_first over es block guard start in
          let d = rounds_done start outer whole at (first_way guard fits (λ env. block_says over texts valid cs f guarded guard start fits block same_vars env)) first_more in
          let last : Standing = rounds over (elements_left (begun over at)) (next_choice (begun over at)) (begun over at) in
          let done : IsDone over texts valid alone start outer whole last = d.0 in
          let none : elements_left last ≡ 0 = d.1 in
          let w : Keeps over texts valid alone start outer whole last = done.way.keeps in
          all_dropped over texts valid alone start outer whole last.block (reverse last.block) last.steps w.more last.taken.result (λ e. Nothing e × LeftSays M last e) w.is done.last (λ v. turned_has last.block v) (w.scope done.some) (empty_is_free last none)
          (λ v a b agree h. empty_is_free last none b)
          (λ env k. then_iff (some_iff texts outer last.block _ _ env k (λ e known. ((λ x. (put_where last.taken.some _ done.some x.0, x.1)), λ x. (get_where last.taken.some _ done.some x.0, x.1)))) (w.says env k))

  -- an `and` of these elements, under whatever guard
  pub conjunction_sound : (es : Elements) (cs : List Column) (f : Form) (block : List Variable) → ((w : Variable) → Contains block w ↔ Contains (head_variables cs) w) → AreGuarded texts M cs f → AreSoundParts over texts es.others → AreSoundParts over texts es.negations → 0 < element_count es
      → ((env : Assignment) → ElementsSay M es env ↔ Satisfies f M env) → ElementsAmong (free f) es → IsSoundRule over texts (closed_by cs f) (conjunction_rule es block)
  conjunction_sound es cs f block same_vars guarded others negations more says among guard start fits = conjunction_tells es cs f block same_vars guarded others negations more says among guard start fits
