-- The plan of a core form builds steps that name what the core form names.
use Rattle.std.proofs.Common.{◌≡◌, ◌↔◌, ◌≤◌, ◌<◌, ◌+◌, ◌*◌, not, filter, List, [], ◌∷◌, length, Contains, refl, sym, subst, arith}
use Rattle.std.specs.Prelude.{max}
use Rattle.std.specs.List.{AllByRecursion}
use Rattle.lrp_model.specs.Texts.{Identifier}
use Rattle.lrp_model.specs.Formulas.{Form, Forms, atom, test, sorted, negation, conjunction, disjunction, implication, exists, forall, no_forms, form}
use Rattle.lrp_model.specs.Variables.{Variable, bound_by, same_variable, free, free_each}
use Rattle.lrp_model.specs.Satisfaction.{Structure, Assignment, Satisfies}
use Rattle.lrp_model.specs.Core.{IsCore, AreCore, HasElement}
use Rattle.lrp_model.specs.Periods.{period}
use Rattle.lrp_model.specs.Steps.{Steps, Rule, formula_at, reach_at, union, drop_of}
use Rattle.lrp_model.specs.Conjunctions.{tests_in, ranked, nothing_taken, conjunction_rule, as_positive}
use Rattle.lrp_model.specs.Plans.{plan_of, plan_of_others, positives_in, negations_in}
use Rattle.lrp_model.specs.declared.relations.Sort.{Sort}
use Rattle.lrp_model.specs.declared.relations.Sort.TheVariants.{Time, Data, Named}
use Rattle.lrp_model.specs.declared.formulas.Test.TheVariants.{Compare, Member, Equal}
use Rattle.lrp_model.specs.declared.plans.StepKind.TheVariants.{Scan, Leaf, Sort as SortStep, Union, DropTime, DropData}
use Rattle.lrp_model.proofs.Logic.{same, then_iff, all_append}
use Rattle.lrp_model.specs.declared.relations.Relation.{Relation}
use Rattle.lrp_plan_laws.specs.Made.{HeadStep, IsDataSort}
use Rattle.lrp_plan_laws.proofs.Dropping.{Rules, drop_without}
use Rattle.lrp_plan_laws.specs.Scopes.{EachScope, EachOfScope}
use Rattle.lrp_plan_laws.proofs.Names.{Names, NamesEach, without_is, cons_named, two_named, exists_named, names_self}
use Rattle.lrp_plan_laws.proofs.PlanSound.{makes, first_positive, first_test, first_negation, ranked_all, count, counted}
use Rattle.lrp_plan_laws.proofs.Builds.{Saying, Builds, CanMake, by_first, by_next, by_both, same_builds, kept_formula}
use Rattle.lrp_plan_laws.proofs.BuildsAnd.{IsBuilt, Left, all_built, complement_builds, fits_within}
use Rattle.lrp_plan_laws.proofs.Members.{all_self, all_later}
use Rattle.lrp_plan_laws.proofs.Marks.{Mark, marks, marks_each}

-- each quantifier is guarded, over every formula that says what its own says
abbrev mutual
  pub EachGuard : Structure → (Identifier → Sort → Form → Type 0) → Form → Type 0
  EachGuard M guard (atom name terms) = Unit {0}
  EachGuard M guard (test t) = Unit {0}
  EachGuard M guard (sorted s v) = Unit {0}
  EachGuard M guard (negation f) = EachGuard M guard f
  EachGuard M guard (conjunction fs) = EachOfGuard M guard fs
  EachGuard M guard (disjunction fs) = EachOfGuard M guard fs
  EachGuard M guard (implication f g) = EachGuard M guard f × EachGuard M guard g
  EachGuard M guard (exists v s f) = ((a : Form) → ((env : Assignment) → Satisfies a M env ↔ Satisfies f M env) → guard v s a) × EachGuard M guard f
  EachGuard M guard (forall v s f) = Unit {0}

  pub EachOfGuard : Structure → (Identifier → Sort → Form → Type 0) → Forms → Type 0
  EachOfGuard M guard no_forms = Unit {0}
  EachOfGuard M guard (form f fs) = EachGuard M guard f × EachOfGuard M guard fs

-- ---- an `and` names what its positives, its tests and its negations name

-- a drop of texts is a quantifier over a data sort
abbrev pub IsQuantifier : Identifier → Form → Form → Type 0
IsQuantifier v f g = (s : Sort) × IsDataSort s × (g ≡ exists v s f)

-- it names the same whatever the sort
pub quantifier_named : (v : Identifier) (f g : Form) → IsQuantifier v f g → (db : List Relation) (ws : List Variable) (ks : List Mark) → Names db g ws ks ↔ Names db (exists v Data f) ws ks
quantifier_named v f g d db ws ks = subst (λ h. Names db h ws ks ↔ Names db (exists v Data f) ws ks) (sym d.2) (of_sort d.0 d.1)
  where
    of_sort : (s : Sort) → IsDataSort s → Names db (exists v s f) ws ks ↔ Names db (exists v Data f) ws ks
    of_sort Time k = absurd k
    of_sort Data k = same
    of_sort (Named name) k = same

-- the rules of a plan as it is written
abbrev pub quantified : Rules
quantified = record { drops = IsQuantifier; names = quantifier_named }

module _ (M : Structure) (head : HeadStep) (fits : List Variable → Type 0) (guard : Identifier → Sort → Form → Type 0) (down : (vs ws : List Variable) → AllByRecursion (Contains ws) vs → fits ws → fits vs) where
  -- what is left of a list before the first round
  abbrev LeftOf : Forms → Saying
  LeftOf fs ws ks = Left M head quantified fits guard down (positives_in fs) (tests_in fs) (negations_in fs) ws ks

  -- a list names what its positives, its tests and its negations name
  parts : (ws : List Variable) (ks : List Mark) (fs : Forms) → NamesEach M.relations fs ws ks ↔ LeftOf fs ws ks
  parts ws ks no_forms = ((λ h. (tt, (tt, tt))), λ h. (tt, tt))
  parts ws ks (form (atom name terms) fs) = then_iff (cons_named M.relations ws ks (atom name terms) fs) (first_positive _ _ _ _ (parts ws ks fs))
  parts ws ks (form (test (Compare left op right)) fs) = then_iff (cons_named M.relations ws ks (test (Compare left op right)) fs) (first_test _ _ _ _ _ (parts ws ks fs))
  parts ws ks (form (test (Member term point)) fs) = then_iff (cons_named M.relations ws ks (test (Member term point)) fs) (first_positive _ _ _ _ (parts ws ks fs))
  parts ws ks (form (test (Equal left right)) fs) = then_iff (cons_named M.relations ws ks (test (Equal left right)) fs) (first_test _ _ _ _ _ (parts ws ks fs))
  parts ws ks (form (sorted s v) fs) = then_iff (cons_named M.relations ws ks (sorted s v) fs) (first_positive _ _ _ _ (parts ws ks fs))
  parts ws ks (form (negation g) fs) = then_iff (cons_named M.relations ws ks (negation g) fs) (first_negation _ _ _ _ _ (parts ws ks fs))
  parts ws ks (form (conjunction gs) fs) = then_iff (cons_named M.relations ws ks (conjunction gs) fs) (first_positive _ _ _ _ (parts ws ks fs))
  parts ws ks (form (disjunction gs) fs) = then_iff (cons_named M.relations ws ks (disjunction gs) fs) (first_positive _ _ _ _ (parts ws ks fs))
  parts ws ks (form (implication f g) fs) = then_iff (cons_named M.relations ws ks (implication f g) fs) (first_positive _ _ _ _ (parts ws ks fs))
  parts ws ks (form (exists v s f) fs) = then_iff (cons_named M.relations ws ks (exists v s f) fs) (first_positive _ _ _ _ (parts ws ks fs))
  parts ws ks (form (forall v s f) fs) = then_iff (cons_named M.relations ws ks (forall v s f) fs) (first_positive _ _ _ _ (parts ws ks fs))

  -- a positive whose rule builds what it should
  as_built : (f : Form) (rule : Rule) → ((steps : Steps) → Builds M head quantified fits guard steps (rule M steps) (Names M.relations f)) → AllByRecursion (IsBuilt M head quantified fits guard down) (as_positive f rule)
  as_built (test (Compare left op right)) rule h = tt
  as_built (test (Member term point)) rule h = (h, tt)
  as_built (test (Equal left right)) rule h = tt
  as_built (negation f) rule h = tt
  as_built (atom name terms) rule h = (h, tt)
  as_built (sorted s v) rule h = (h, tt)
  as_built (conjunction fs) rule h = (h, tt)
  as_built (disjunction fs) rule h = (h, tt)
  as_built (implication f g) rule h = (h, tt)
  as_built (exists v s f) rule h = (h, tt)
  as_built (forall v s f) rule h = (h, tt)

  -- an `and` builds what it names
  conjunction_builds : (fs : Forms) (steps : Steps) → HasElement fs → fits (free_each fs) → AllByRecursion (IsBuilt M head quantified fits guard down) (positives_in fs) → AllByRecursion (IsBuilt M head quantified fits guard down) (negations_in fs)
      → Builds M head quantified fits guard steps (conjunction_rule (positives_in fs) (tests_in fs) (negations_in fs) M steps) (Names M.relations (conjunction fs))
  conjunction_builds fs steps some good ps ns =
      all_built M head quantified fits guard down (free_each fs) (marks_each fs M.relations) good steps (count M fs) (Names M.relations (conjunction fs)) (names_self M.relations (conjunction fs))
      (record { steps = steps; taken = nothing_taken; positives = ranked M (positives_in fs); tests = tests_in fs; negations = negations_in fs })
      (counted M fs some)
      (record {
        positives = (ranked_all (IsBuilt M head quantified fits guard down) M (positives_in fs)).1 ps;
        negations = ns;
        last = λ e. cc;
        fresh = λ e. refl;
        built = λ e. cc;
        idle = λ e. refl;
        names = λ ws ks.
            let r = ranked_all (λ e. Names M.relations e.formula ws ks) M (positives_in fs) in
            let p = parts ws ks fs in
            ((λ h. p.1 (r.0 h.1.0, h.1.1)), λ x. let w = p.0 x in (tt, (r.1 w.0, w.1)));
        known = λ ws ks h. tt;
      })

  -- ---- each rule

  -- a drop of texts by a quantifier can be made
  text_step : (before steps : Steps) (v : Identifier) (s : Sort) (p : Saying) → Builds M head quantified fits guard before steps p → IsDataSort s → CanMake M head quantified steps (DropData (length steps) v) (exists v s (formula_at steps (length steps)))
  text_step before steps v s p m d = record {
    operands = ((let g : length before < length steps = m.grown in omega arith, omega arith), tt);
    formula = drop_without quantified v (formula_at steps (length steps)) (exists v s (formula_at steps (length steps))) (s, d, refl);
    drop = (s, d, refl);
    variables = tt;
  }

  -- a drop of a variable names what is said of it
  drop_step : (before steps : Steps) (v : Identifier) (s : Sort) (p q : Saying) → Builds M head quantified fits guard before steps p → fits (free (exists v s (formula_at steps (length steps)))) → guard v s (formula_at steps (length steps))
      → ((ws : List Variable) (ks : List Mark) → Names M.relations (exists v s (formula_at steps (length steps))) ws ks ↔ q ws ks) → Builds M head quantified fits guard before (drop_of v s M steps) q
  drop_step before steps v Time p q m good kept names =
      by_next M head quantified fits guard before steps p q (DropTime (length steps) v) (exists v Time (formula_at steps (length steps))) m
      (λ b ks new. (let r : 2 * reach_at steps (length steps) ≤ b = new.0 in omega arith, new.1))
      (record { operands = ((let g : length before < length steps = m.grown in omega arith, omega arith), tt); formula = refl; drop = tt; variables = tt }) good kept names
  drop_step before steps v Data p q m good kept names =
      by_next M head quantified fits guard before steps p q (DropData (length steps) v) (exists v Data (formula_at steps (length steps))) m (λ b ks new. new)
      (text_step before steps v Data p m tt) good kept names
  drop_step before steps v (Named name) p q m good kept names =
      by_next M head quantified fits guard before steps p q (DropData (length steps) v) (exists v (Named name) (formula_at steps (length steps))) m (λ b ks new. new)
      (text_step before steps v (Named name) p m tt) good kept names

  -- a quantifier builds what it names
  drop_builds : (before steps : Steps) (v : Identifier) (s : Sort) (f : Form) → Builds M head quantified fits guard before steps (Names M.relations f) → fits (bound_by s v ∷ free f) → guard v s (formula_at steps (length steps)) → Builds M head quantified fits guard before (drop_of v s M steps) (Names M.relations (exists v s f))
  drop_builds before steps v s f m good kept =
      let a : Form = formula_at steps (length steps) in
      let names : (ws : List Variable) (ks : List Mark) → Names M.relations (exists v s a) ws ks ↔ Names M.relations (exists v s f) ws ks =
      λ ws ks.
      let x = exists_named M.relations ws ks v s a in
      let y = exists_named M.relations ws ks v s f in
      let n = m.names (bound_by s v ∷ ws) ks in
      ((λ h. y.1 (n.0 (x.0 h))), λ h. x.1 (n.1 (y.0 h))) in
      let room : List Variable = bound_by s v ∷ free f in
      let within : Names M.relations (exists v s f) room (marks f M.relations) =
      (exists_named M.relations room (marks f M.relations) v s f).1 (all_later (bound_by s v) room (free f) (all_later (bound_by s v) (free f) (free f) (all_self (free f))), all_self (marks f M.relations)) in
      drop_step before steps v s (Names M.relations f) (Names M.relations (exists v s f)) m
      (fits_within M head quantified fits guard down (exists v s a) room (marks f M.relations) good ((names room (marks f M.relations)).1 within)) kept names

  -- a formula without a variable names no more than the formula with it
  without_room : (b : Variable) (vs : List Variable) → AllByRecursion (Contains (b ∷ vs)) (filter (λ w. not (same_variable b w)) vs)
  without_room b vs = (without_is (b ∷ vs) b vs).1 (all_later b (b ∷ vs) vs (all_later b vs vs (all_self vs)))

  -- the free variables of the whole formula fit
  pub whole : (f : Form) → EachScope fits f → fits (free f)
  whole (atom name terms) good = good
  whole (test t) good = good
  whole (sorted s v) good = good
  whole (negation f) good = whole f good
  whole (conjunction fs) good = good.0
  whole (disjunction fs) good = good.0
  whole (implication f g) good = good.0
  whole (exists v s f) good = down (free (exists v s f)) (bound_by s v ∷ free f) (without_room (bound_by s v) (free f)) good.0
  whole (forall v s f) good = down (free (forall v s f)) (bound_by s v ∷ free f) (without_room (bound_by s v) (free f)) good.0

  -- a union names what its two operands name
  union_builds : (before mid steps : Steps) (f g : Form) (room : List Variable) (most : List Mark) → fits room → Names M.relations g room most × Names M.relations f room most
      → Builds M head quantified fits guard before mid (Names M.relations g) → Builds M head quantified fits guard mid steps (Names M.relations f) → Builds M head quantified fits guard before (union (length mid) M steps) (Names M.relations (disjunction (form g (form f no_forms))))
  union_builds before mid steps f g room most roomy inside m n =
      let a : Form = formula_at steps (length mid) in
      let b : Form = formula_at steps (length steps) in
      let e : a ≡ formula_at mid (length mid) = kept_formula M head quantified fits guard mid steps (Names M.relations f) (length mid) n (omega arith) in
      let first : (ws : List Variable) (ks : List Mark) → Names M.relations a ws ks ↔ Names M.relations g ws ks = λ ws ks. subst (λ h. Names M.relations h ws ks ↔ Names M.relations g ws ks) (sym e) (m.names ws ks) in
      let names : (ws : List Variable) (ks : List Mark) → Names M.relations (disjunction (form a (form b no_forms))) ws ks ↔ Names M.relations (disjunction (form g (form f no_forms))) ws ks =
      λ ws ks.
      let x = two_named M.relations ws ks a b no_forms in
      let y = two_named M.relations ws ks g f no_forms in (
        (λ h. let z = x.0 h in y.1 ((first ws ks).0 z.0, ((n.names ws ks).0 z.1.0, (tt, tt)))),
        λ h. let z = y.0 h in x.1 ((first ws ks).1 z.0, ((n.names ws ks).1 z.1.0, (tt, tt))),
      ) in
      by_both M head quantified fits guard before mid steps (Names M.relations g) (Names M.relations f) (Names M.relations (disjunction (form g (form f no_forms)))) (Union (length mid) (length steps)) (disjunction (form a (form b no_forms))) m n
      (λ c ks new.
      let r : max (reach_at steps (length mid)) (reach_at steps (length steps)) + period M.relations (disjunction (form a (form b no_forms))) ≤ c = new.0 in
      let x = (all_append (Contains ks) (marks a M.relations) (marks_each (form b no_forms) M.relations)).0 new.1 in
      let y = (all_append (Contains ks) (marks b M.relations) []).0 x.1 in
      ((omega arith, x.0), (omega arith, y.0)))
      (record {
        operands = (let g : length before < length mid = m.grown in let h : length mid < length steps = n.grown in ((omega arith, omega arith), ((omega arith, omega arith), tt)));
        formula = refl;
        drop = tt;
        variables = tt;
      })
      (fits_within M head quantified fits guard down (disjunction (form a (form b no_forms))) room most roomy ((names room most).1 ((two_named M.relations room most g f no_forms).1 (inside.0, (inside.1, (tt, tt))))))
      tt
      names

  mutual
    -- each core form builds what it names
    pub builds : (f : Form) → IsCore f → EachScope fits f → EachGuard M guard f → (steps : Steps) → Builds M head quantified fits guard steps (plan_of f M steps) (Names M.relations f)
    builds (atom name terms) c good kept steps = by_first M head quantified fits guard steps (Scan name terms) (atom name terms) (record { operands = tt; formula = refl; drop = tt; variables = tt }) good tt
    builds (test t) c good kept steps = by_first M head quantified fits guard steps (Leaf t) (test t) (record { operands = tt; formula = refl; drop = tt; variables = tt }) good tt
    builds (sorted s v) c good kept steps = by_first M head quantified fits guard steps (SortStep v s (M.domain s)) (sorted s v) (record { operands = tt; formula = (refl, refl); drop = tt; variables = tt }) good tt
    builds (negation f) c good kept steps = complement_builds M head quantified fits guard down steps (plan_of f M steps) f (builds f c good kept steps) (whole f good)
    builds (conjunction fs) c good kept steps = conjunction_builds fs steps c.0 good.0 (built_positives fs c.1 good.1 kept) (built_negations fs c.1 good.1 kept)
    builds (disjunction no_forms) c good kept steps = absurd c.0
    builds (disjunction (form f fs)) c good kept steps =
        same_builds M head quantified fits guard steps (plan_of_others fs M (plan_of f M steps)) (λ ws ks. Names M.relations f ws ks × NamesEach M.relations fs ws ks) _
        (builds_others fs c.1.1 good.1.1 kept.1 steps (plan_of f M steps) f (free_each (form f fs)) (marks_each (form f fs) M.relations) good.0
        ((cons_named M.relations (free_each (form f fs)) (marks_each (form f fs) M.relations) f fs).0 (names_self M.relations (disjunction (form f fs)))) (builds f c.1.0 good.1.0 kept.0 steps))
        (λ ws ks. let x = cons_named M.relations ws ks f fs in ((λ h. x.1 h), λ h. x.0 h))
    builds (implication f g) c good kept steps = absurd c
    builds (exists v s f) c good kept steps = drop_builds steps (plan_of f M steps) v s f (builds f c good.1 kept.1 steps) good.0 (kept.0 (formula_at (plan_of f M steps) (length (plan_of f M steps))) (makes f c M steps).says)
    builds (forall v s f) c good kept steps = absurd c

    -- a result so far and the formulas of an `or` that are left
    builds_others : (fs : Forms) → AreCore fs → EachOfScope fits fs → EachOfGuard M guard fs → (before mid : Steps) (g : Form) (room : List Variable) (most : List Mark) → fits room → Names M.relations g room most × NamesEach M.relations fs room most
        → Builds M head quantified fits guard before mid (Names M.relations g) → Builds M head quantified fits guard before (plan_of_others fs M mid) (λ ws ks. Names M.relations g ws ks × NamesEach M.relations fs ws ks)
    builds_others no_forms c good kept before mid g room most roomy inside m = same_builds M head quantified fits guard before mid (Names M.relations g) _ m (λ ws ks. ((λ h. (h, (tt, tt))), λ h. h.0))
    builds_others (form f fs) c good kept before mid g room most roomy inside m =
        let either : Form = disjunction (form g (form f no_forms)) in
        let here = (cons_named M.relations room most f fs).0 inside.1 in
        let u : Builds M head quantified fits guard before (union (length mid) M (plan_of f M mid)) (Names M.relations either) =
        union_builds before mid (plan_of f M mid) f g room most roomy (inside.0, here.0) m (builds f c.0 good.0 kept.0 mid) in
        same_builds M head quantified fits guard before (plan_of_others fs M (union (length mid) M (plan_of f M mid))) (λ ws ks. Names M.relations either ws ks × NamesEach M.relations fs ws ks) _
        (builds_others fs c.1 good.1 kept.1 before (union (length mid) M (plan_of f M mid)) either room most roomy ((two_named M.relations room most g f no_forms).1 (inside.0, (here.0, (tt, tt))), here.1) u)
        (λ ws ks.
        let x = two_named M.relations ws ks g f no_forms in
        let y = cons_named M.relations ws ks f fs in
        ((λ h. let z = x.0 h.0 in (z.0, y.1 (z.1.0, h.1))), λ h. let z = y.0 h.1 in (x.1 (h.0, (z.0, (tt, tt))), z.1)))

    -- each positive of a list builds what it names
    built_positives : (fs : Forms) → AreCore fs → EachOfScope fits fs → EachOfGuard M guard fs → AllByRecursion (IsBuilt M head quantified fits guard down) (positives_in fs)
    built_positives no_forms c good kept = tt
    built_positives (form f fs) c good kept = (all_append (IsBuilt M head quantified fits guard down) (as_positive f (plan_of f)) (positives_in fs)).1 (as_built f (plan_of f) (builds f c.0 good.0 kept.0), built_positives fs c.1 good.1 kept.1)

    -- and each negation
    built_negations : (fs : Forms) → AreCore fs → EachOfScope fits fs → EachOfGuard M guard fs → AllByRecursion (IsBuilt M head quantified fits guard down) (negations_in fs)
    built_negations no_forms c good kept = tt
    built_negations (form (negation g) fs) c good kept = (builds g c.0 good.0 kept.0, built_negations fs c.1 good.1 kept.1)
    built_negations (form f fs) c good kept = built_negations fs c.1 good.1 kept.1
