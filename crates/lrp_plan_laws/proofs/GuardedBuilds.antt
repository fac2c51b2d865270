-- The plan of a core form under a guard builds steps that name what the guard and the core form name.
use Rattle.std.proofs.Common.{◌≡◌, ◌≢◌, ◌↔◌, ⊎_elim, ◌≤◌, ◌<◌, ℕ, Bool, true, false, cond, ◌&&◌, List, [], ◌∷◌, ◌++◌, length, reverse, Option, Some, None, nat_eq, Contains, refl, sym, ap, subst, ◌∙◌, arith}
use Rattle.std.specs.List.{AllByRecursion}
use Rattle.lrp_model.specs.Texts.{Identifier}
use Rattle.lrp_model.specs.Formulas.{Form, Forms, atom, test, sorted, negation, conjunction, disjunction, implication, exists, forall, no_forms, form}
use Rattle.lrp_model.specs.Variables.{Variable, bound_by, are_among, variables_of_test, free, free_each}
use Rattle.lrp_model.specs.Core.{IsCore, AreCore, HasElement}
use Rattle.lrp_model.specs.Conjunctions.{is_test, tests_in}
use Rattle.lrp_model.specs.Steps.{Steps, Rule, formula_at, made, join, union, scan_of, leaf, sort_texts}
use Rattle.lrp_model.specs.declared.relations.Sort.{Sort}
use Rattle.lrp_model.specs.declared.formulas.Test.{Test}
use Rattle.lrp_model.specs.declared.formulas.Test.TheVariants.{Compare, Member, Equal}
use Rattle.lrp_model.specs.declared.plans.StepKind.{StepKind}
use Rattle.lrp_model.specs.declared.plans.StepKind.TheVariants.{Scan, Leaf, Sort as SortStep, Join, Select, Union}
use Rattle.lrp_model.proofs.Logic.{same, then_iff, all_append}
use Rattle.lrp_model.proofs.Decided.{contains_none, cons_cases, contains_first, contains_later}
use Rattle.lrp_plan_laws.specs.Binding.{is_guarded_by}
use Rattle.lrp_plan_laws.specs.Made.{HeadStep}
use Rattle.lrp_plan_laws.specs.Scopes.{EachScope, EachOfScope}
use Rattle.lrp_plan_laws.specs.Projections.{PlanGround as Ground, for_each_sort, drop_each, last_drop, unwanted, project, projected}
use Rattle.lrp_plan_laws.specs.GuardedConjunctions.{GuardedRule, GuardedPart as Part, Elements, select_from, guarded_conjunction as conjunction_rule}
use Rattle.lrp_plan_laws.specs.GuardedPlans.{leaf_under, test_under, ending, member_under, member, further_members, disjunction_rule, atoms_in, sorts_in, as_part, build, others_in, negations_in, members_in}
use Rattle.lrp_plan_laws.proofs.Elements.{formula_made}
use Rattle.lrp_plan_laws.proofs.Marks.{Mark, marks, marks_each}
use Rattle.lrp_plan_laws.proofs.Members.{all_of, all_by, all_self, all_map, in_left, in_right, in_one}
use Rattle.lrp_plan_laws.proofs.Names.{Names, NamesEach, cons_named, two_named, names_self, exists_named, are_among_is}
use Rattle.lrp_plan_laws.proofs.Dropping.{Rules, without_member}
use Rattle.lrp_plan_laws.proofs.Builds.{Saying, CanMake}
use Rattle.lrp_plan_laws.proofs.Leads.{Leads, Drops, guard_leads, kept_formula, no_fewer, first_leads, chain_leads, select_leads, join_leads, union_leads, drops, drops_last}
use Rattle.lrp_plan_laws.proofs.GuardedAnd.{GuardNames, IsGuard, IsBuilt, IsRule, IsSoundPart, IsGuardIn, IsRuleIn, ElementsName, count, built_within, wanted_or, without_block, conjunction_built, turned, turned_back, and_second, nat_same}

-- ---- a list names what its elements of each kind name

module _ (over : Ground) (head : HeadStep) (rules : Rules) (fits : List Variable → Type 0) (down : (vs ws : List Variable) → AllByRecursion (Contains ws) vs → fits ws → fits vs)
    (ruled : (v : Identifier) (f : Form) → rules.drops v f (disjunction (for_each_sort over.sorts v f))) where
  -- ---- with the guard

  -- a last step that says beside the guard what the formula says is joined with the guard
  guard_joined : (steps after : Steps) (g : ℕ) (other : Option ℕ) (f : Form) (room : List Variable) → fits room → (0 < g) × (g ≤ length steps) × AllByRecursion (Contains room) (free (formula_at steps g)) → Leads over.structure head rules fits steps other after (length after)
      → ((ws : List Variable) (ks : List Mark) → Names over.structure.relations (formula_at steps g) ws ks → Names over.structure.relations (formula_at after (length after)) ws ks ↔ Names over.structure.relations f ws ks) → AllByRecursion (Contains room) (free (formula_at after (length after)))
      → IsBuilt over head rules fits down ruled steps (Some g) (join g [] over.structure after) (λ ws ks. Names over.structure.relations (formula_at steps g) ws ks × Names over.structure.relations f ws ks)
  guard_joined steps after g other f room roomy h k says inside =
      let a : Form = formula_at after g in
      let b : Form = formula_at after (length after) in
      let j : Form = conjunction (form a (form b no_forms)) in
      let ea : a ≡ formula_at steps g = kept_formula over.structure head rules fits steps after other (length after) g k h.1 in
      let wide : AllByRecursion (Contains room) (free j) = (all_append (Contains room) (free a) (free b ++ [])).1 (subst (λ q. AllByRecursion (Contains room) (free q)) (sym ea) h.2, (all_append (Contains room) (free b) []).1 (inside, tt)) in
      let last : Steps = join g [] over.structure after in
      let e : formula_at last (length last) ≡ j = formula_made over.structure (Join g (length after) []) j after in
      record {
        led = join_leads over.structure head rules fits steps steps after (Some g) other g [] (guard_leads over.structure head rules fits steps g h.0 h.1) k tt (down (free j) room wide roomy);
        names = λ ws ks.
            let two = two_named over.structure.relations ws ks a b no_forms in (
              (λ n. let x = two.0 (subst (λ q. Names over.structure.relations q ws ks) e n) in let y = subst (λ q. Names over.structure.relations q ws ks) ea x.0 in (y, (says ws ks y).0 x.1.0)),
              λ n. subst (λ q. Names over.structure.relations q ws ks) (sym e) (two.1 (subst (λ q. Names over.structure.relations q ws ks) (sym ea) n.0, ((says ws ks n.0).1 n.1, (tt, tt)))),
            );
      }

  -- ---- leaves

  -- a step that reads none
  first_built : (kind : StepKind) (f : Form) (steps : Steps) → CanMake over.structure head rules steps kind f → fits (free f) → IsBuilt over head rules fits down ruled steps None (made over.structure kind f steps) (λ ws ks. Unit {0} × Names over.structure.relations f ws ks)
  first_built kind f steps can good = record {
    led = first_leads over.structure head rules fits steps kind f can good;
    names = λ ws ks. subst (λ g. Names over.structure.relations g ws ks ↔ (Unit {0} × Names over.structure.relations f ws ks)) (sym (formula_made over.structure kind f steps)) ((λ h. (tt, h)), λ h. h.1);
  }

  -- a leaf under a guard
  leaf_rule : (f : Form) (rule : Rule) → fits (free f) → ((steps : Steps) → IsBuilt over head rules fits down ruled steps None (rule over.structure steps) (λ ws ks. Unit {0} × Names over.structure.relations f ws ks)) → IsRule over head rules fits down ruled f (leaf_under rule)
  leaf_rule f rule good by steps None h = by steps
  leaf_rule f rule good by steps (Some g) h =
      let b = by steps in
      guard_joined steps (rule over.structure steps) g None f (free f) good h b.led (λ ws ks n. ((λ x. ((b.names ws ks).0 x).1), λ x. (b.names ws ks).1 (tt, x))) (built_within over head rules fits down ruled steps (rule over.structure steps) None f (free f) tt (all_self (free f)) b)

  -- a comparison or an equality under a guard
  test_rule : (t : Test) → fits (variables_of_test t) → ((steps : Steps) → IsBuilt over head rules fits down ruled steps None (leaf t over.structure steps) (λ ws ks. Unit {0} × Names over.structure.relations (test t) ws ks)) → IsRule over head rules fits down ruled (test t) (test_under t)
  test_rule t good by steps None h = by steps
  test_rule t good by steps (Some g) h = by_known (is_test t && are_among (variables_of_test t) (free (formula_at steps g))) refl
    where
      by_known : (b : Bool) → (is_test t && are_among (variables_of_test t) (free (formula_at steps g))) ≡ b
          → IsBuilt over head rules fits down ruled steps (Some g) (cond b (select_from g t over.structure steps) (leaf_under (leaf t) over (Some g) steps)) (λ ws ks. Names over.structure.relations (formula_at steps g) ws ks × Names over.structure.relations (test t) ws ks)
      by_known false e = leaf_rule (test t) (leaf t) good by steps (Some g) h
      by_known true e =
          let a : Form = formula_at steps g in
          let f : Form = conjunction (form a (form (test t) no_forms)) in
          let known : AllByRecursion (Contains (free a)) (variables_of_test t) = are_among_is (variables_of_test t) (free a) (and_second (is_test t) (are_among (variables_of_test t) (free a)) e) in
          let wide : AllByRecursion (Contains (variables_of_test t)) (free f) =
          (all_append (Contains (variables_of_test t)) (free a) (variables_of_test t ++ [])).1 (h.2, (all_append (Contains (variables_of_test t)) (variables_of_test t) []).1 (all_self (variables_of_test t), tt)) in
          record {
            led = select_leads over.structure head rules fits steps steps (Some g) g t (guard_leads over.structure head rules fits steps g h.0 h.1) (λ v c. all_of (Contains (free a)) (variables_of_test t) v known c) (down (free f) (variables_of_test t) wide good);
            names = λ ws ks. subst (λ q. Names over.structure.relations q ws ks ↔ (Names over.structure.relations a ws ks × Names over.structure.relations (test t) ws ks)) (sym (formula_made over.structure (Select g t) f steps))
                (let two = two_named over.structure.relations ws ks a (test t) no_forms in ((λ n. let x = two.0 n in (x.0, x.1.0)), λ n. two.1 (n.0, (n.1, (tt, tt)))));
          }

  -- ---- the end of a block

  -- a guard within a block is a guard
  guard_of : (steps : Steps) (guard : Option ℕ) (vs block : List Variable) → IsGuardIn over head rules fits down ruled steps guard vs block → IsGuard over head rules fits down ruled steps guard vs
  guard_of steps None vs block h = tt
  guard_of steps (Some g) vs block h = (h.0, h.1, h.2)

  -- and within no block
  guard_in : (steps : Steps) (guard : Option ℕ) (vs : List Variable) → IsGuard over head rules fits down ruled steps guard vs → IsGuardIn over head rules fits down ruled steps guard vs []
  guard_in steps None vs h = tt
  guard_in steps (Some g) vs h = (h.0, h.1, h.2, λ v c d. contains_none v d)

  -- what a guard names that has no variable of the block
  guard_turned : (steps : Steps) (guard : Option ℕ) (vs block ws : List Variable) (ks : List Mark) → IsGuardIn over head rules fits down ruled steps guard vs block → GuardNames over head rules fits down ruled steps guard (reverse block ++ ws) ks ↔ GuardNames over head rules fits down ruled steps guard ws ks
  guard_turned steps None vs block ws ks h = same
  guard_turned steps (Some g) vs block ws ks h =
      let f : Form = formula_at steps g in
      let w = without_block over head rules fits down ruled steps g block ws ks h.3 in
      ((λ n. w.0 (turned block ws (free f) n.0, n.1)), λ n. let m = w.1 n in (turned_back block ws (free f) m.0, m.1))

  -- the variables of a block are dropped at the end
  ending_rule : (block : List Variable) (f : Form) (rule : GuardedRule) → fits (free f) → IsRule over head rules fits down ruled f rule → IsRuleIn over head rules fits down ruled block (free f) (Names over.structure.relations f) (ending block rule)
  ending_rule block f rule good by steps guard h =
      let after : Steps = rule over guard steps in
      let b : IsBuilt over head rules fits down ruled steps guard after (λ ws ks. GuardNames over head rules fits down ruled steps guard ws ks × Names over.structure.relations f ws ks) = by steps guard (guard_of steps guard (free f) block h) in
      let inside : AllByRecursion (Contains (free f)) (free (formula_at after (length after))) = built_within over head rules fits down ruled steps after guard f (free f) (guard_of steps guard (free f) block h) (all_self (free f)) b in
      let vs : List Variable = reverse block in
      let d : Drops over head rules fits down ruled steps after guard (length after) vs (free f) = drops over head rules fits down ruled steps after guard (length after) vs (free f) b.led good inside in
      let all : Steps = drop_each over vs (length after) after in
      let last : last_drop vs (length after) all ≡ length all = drops_last over head rules fits down ruled vs (length after) after refl in
      record {
        led = subst (λ i. Leads over.structure head rules fits steps guard all i) last d.led;
        names = λ ws ks.
            let x : Names over.structure.relations (formula_at all (length all)) ws ks ↔ Names over.structure.relations (formula_at after (length after)) (vs ++ ws) ks = subst (λ i. Names over.structure.relations (formula_at all i) ws ks ↔ Names over.structure.relations (formula_at after (length after)) (vs ++ ws) ks) last (d.names over.structure.relations ws ks) in
            let y = b.names (vs ++ ws) ks in
            let g = guard_turned steps guard (free f) block ws ks h in (
              (λ n. let m = y.0 (x.0 n) in (g.0 m.0, (turned block ws (free f) m.1.0, m.1.1))),
              λ n. x.1 (y.1 (g.1 n.0, (turned_back block ws (free f) n.1.0, n.1.1))),
            );
      }

  -- a rule within no block
  rule_of : (f : Form) (rule : GuardedRule) → IsRuleIn over head rules fits down ruled [] (free f) (Names over.structure.relations f) rule → IsRule over head rules fits down ruled f rule
  rule_of f rule by steps guard h = by steps guard (guard_in steps guard (free f) h)

  -- ---- an `or`

  -- the last step itself, or a join of the guard and it
  chosen_built : (steps : Steps) (g : ℕ) (f : Form) (after : Steps) (room : List Variable) → fits room → (0 < g) × (g ≤ length steps) × AllByRecursion (Contains room) (free (formula_at steps g)) → Leads over.structure head rules fits steps (Some g) after (length after)
      → ((ws : List Variable) (ks : List Mark) → Names over.structure.relations (formula_at steps g) ws ks → Names over.structure.relations (formula_at after (length after)) ws ks ↔ Names over.structure.relations f ws ks) → AllByRecursion (Contains room) (free (formula_at after (length after)))
      → (n : ℕ) → (n ≡ g → (ws : List Variable) (ks : List Mark) → Names over.structure.relations (formula_at after (length after)) ws ks → Names over.structure.relations (formula_at steps g) ws ks) → (b : Bool) → nat_eq n g ≡ b
      → IsBuilt over head rules fits down ruled steps (Some g) (cond b after (join g [] over.structure after)) (λ ws ks. Names over.structure.relations (formula_at steps g) ws ks × Names over.structure.relations f ws ks)
  chosen_built steps g f after room roomy h led says within n back false e = guard_joined steps after g (Some g) f room roomy h led says within
  chosen_built steps g f after room roomy h led says within n back true e = record {
    led = led;
    names = λ ws ks. ((λ y. let r = back (nat_same n g e) ws ks y in (r, (says ws ks r).0 y)), λ y. (says ws ks y.0).1 y.1);
  }

  -- a member under the projection of the guard
  under_built : (x : Part) (room : List Variable) (steps : Steps) (g : ℕ) → fits room → AllByRecursion (Contains room) (free x.formula) → IsSoundPart over head rules fits down ruled x → (0 < g) × (g ≤ length steps) × AllByRecursion (Contains room) (free (formula_at steps g))
      → IsBuilt over head rules fits down ruled steps (Some g) (member_under x over g steps) (λ ws ks. Names over.structure.relations (formula_at steps g) ws ks × Names over.structure.relations x.formula ws ks)
  under_built x room steps g roomy inside sound h = by_whole (nat_eq (projected over (free x.formula) g steps) g) refl
    where
      by_whole : (b : Bool) → nat_eq (projected over (free x.formula) g steps) g ≡ b
          → IsBuilt over head rules fits down ruled steps (Some g) (cond b (x.rule over (Some (projected over (free x.formula) g steps)) (project over (free x.formula) g steps)) (join g [] over.structure (x.rule over (Some (projected over (free x.formula) g steps)) (project over (free x.formula) g steps))))
          (λ ws ks. Names over.structure.relations (formula_at steps g) ws ks × Names over.structure.relations x.formula ws ks)
      by_whole b e =
          let u : List Variable = unwanted (free x.formula) steps g in
          let mid : Steps = drop_each over u g steps in
          let n : ℕ = last_drop u g mid in
          let d : Drops over head rules fits down ruled steps steps (Some g) g u room = drops over head rules fits down ruled steps steps (Some g) g u room (guard_leads over.structure head rules fits steps g h.0 h.1) roomy h.2 in
          let narrow : AllByRecursion (Contains (free x.formula)) (free (formula_at mid n)) =
          ((d.names over.structure.relations (free x.formula) (marks (formula_at steps g) over.structure.relations)).1 (all_by (Contains (u ++ free x.formula)) (free (formula_at steps g)) (λ v c. wanted_or over head rules fits down ruled (free x.formula) steps g v c), all_self (marks (formula_at steps g) over.structure.relations))).0 in
          let after : Steps = x.rule over (Some n) mid in
          let s : IsBuilt over head rules fits down ruled mid (Some n) after (λ ws ks. Names over.structure.relations (formula_at mid n) ws ks × Names over.structure.relations x.formula ws ks) = sound mid (Some n) (d.led.first, d.led.there, narrow) in
          let led : Leads over.structure head rules fits steps (Some g) after (length after) = chain_leads over.structure head rules fits steps mid after (Some g) n (length after) d.led s.led in
          let says : (ws : List Variable) (ks : List Mark) → Names over.structure.relations (formula_at steps g) ws ks → Names over.structure.relations (formula_at after (length after)) ws ks ↔ Names over.structure.relations x.formula ws ks =
          λ ws ks r.
          let m : Names over.structure.relations (formula_at mid n) ws ks = (d.names over.structure.relations ws ks).1 (all_map (Contains ws) (Contains (u ++ ws)) (free (formula_at steps g)) (λ v c. in_right u ws v c) r.0, r.1) in
          ((λ y. ((s.names ws ks).0 y).1), λ y. (s.names ws ks).1 (m, y)) in
          let within : AllByRecursion (Contains room) (free (formula_at after (length after))) = built_within over head rules fits down ruled mid after (Some n) x.formula room (d.led.first, d.led.there, narrow) inside s in
          let back : n ≡ g → (ws : List Variable) (ks : List Mark) → Names over.structure.relations (formula_at after (length after)) ws ks → Names over.structure.relations (formula_at steps g) ws ks =
          λ q ws ks y. subst (λ f. Names over.structure.relations f ws ks) (ap (formula_at mid) q ∙ kept_formula over.structure head rules fits steps mid (Some g) n g d.led h.1) ((s.names ws ks).0 y).0 in
          chosen_built steps g x.formula after room roomy h led says within n back b e

  -- a member under a guard
  member_built : (x : Part) (room : List Variable) → fits room → AllByRecursion (Contains room) (free x.formula) → IsSoundPart over head rules fits down ruled x → (steps : Steps) (guard : Option ℕ) → IsGuard over head rules fits down ruled steps guard room
      → IsBuilt over head rules fits down ruled steps guard (member x over guard steps) (λ ws ks. GuardNames over head rules fits down ruled steps guard ws ks × Names over.structure.relations x.formula ws ks)
  member_built x room roomy inside sound steps None h = sound steps None tt
  member_built x room roomy inside sound steps (Some g) h = by_guarded (is_guarded_by (free (formula_at steps g)) x.formula)
    where
      by_guarded : (b : Bool) → IsBuilt over head rules fits down ruled steps (Some g) (cond b (member_under x over g steps) (join g [] over.structure (x.rule over None steps))) (λ ws ks. Names over.structure.relations (formula_at steps g) ws ks × Names over.structure.relations x.formula ws ks)
      by_guarded true = under_built x room steps g roomy inside sound h
      by_guarded false =
          let s = sound steps None tt in
          guard_joined steps (x.rule over None steps) g None x.formula room roomy h s.led (λ ws ks n. ((λ y. ((s.names ws ks).0 y).1), λ y. (s.names ws ks).1 (tt, y))) (built_within over head rules fits down ruled steps (x.rule over None steps) None x.formula room tt inside s)

  -- a guard stands where more steps follow
  guard_later : (steps after : Steps) (guard other : Option ℕ) (of : ℕ) (room : List Variable) → Leads over.structure head rules fits steps other after of → IsGuard over head rules fits down ruled steps guard room → IsGuard over head rules fits down ruled after guard room
  guard_later steps after None other of room l h = tt
  guard_later steps after (Some g) other of room l h =
      let n : length steps ≤ length after = no_fewer over.structure head rules fits steps after other of l in
      let low : g ≤ length steps = h.1 in
      (h.0, omega (arith, n), subst (λ f. AllByRecursion (Contains room) (free f)) (sym (kept_formula over.structure head rules fits steps after other of g l h.1)) h.2)

  -- and names the same
  guard_named : (steps after : Steps) (guard other : Option ℕ) (of : ℕ) (room ws : List Variable) (ks : List Mark) → Leads over.structure head rules fits steps other after of → IsGuard over head rules fits down ruled steps guard room → GuardNames over head rules fits down ruled after guard ws ks ↔ GuardNames over head rules fits down ruled steps guard ws ks
  guard_named steps after None other of room ws ks l h = same
  guard_named steps after (Some g) other of room ws ks l h = subst (λ f. Names over.structure.relations f ws ks ↔ Names over.structure.relations (formula_at steps g) ws ks) (sym (kept_formula over.structure head rules fits steps after other of g l h.1)) same

  -- the last step of a member has no variables beyond the room
  member_within : (x : Part) (room : List Variable) (mid steps : Steps) (guard : Option ℕ) → IsGuard over head rules fits down ruled mid guard room → AllByRecursion (Contains room) (free x.formula) → IsBuilt over head rules fits down ruled mid guard steps (λ ws ks. GuardNames over head rules fits down ruled mid guard ws ks × Names over.structure.relations x.formula ws ks)
      → AllByRecursion (Contains room) (free (formula_at steps (length steps)))
  member_within x room mid steps None k inside m = ((m.names room (marks x.formula over.structure.relations)).1 (tt, (inside, all_self (marks x.formula over.structure.relations)))).0
  member_within x room mid steps (Some g) k inside m =
      let ks : List Mark = marks (formula_at mid g) over.structure.relations ++ marks x.formula over.structure.relations in
      let two = (all_append (Contains ks) (marks (formula_at mid g) over.structure.relations) (marks x.formula over.structure.relations)).0 (all_self ks) in
      ((m.names room ks).1 ((k.2, two.0), (inside, two.1))).0

  -- further members of an `or`
  further_built : (xs : List Part) (room : List Variable) (most : List Mark) → fits room → AllByRecursion (λ x. AllByRecursion (Contains room) (free x.formula)) xs → AllByRecursion (IsSoundPart over head rules fits down ruled) xs → (start mid : Steps) (guard : Option ℕ) (p : Saying) → IsGuard over head rules fits down ruled start guard room
      → IsBuilt over head rules fits down ruled start guard mid (λ ws ks. GuardNames over head rules fits down ruled start guard ws ks × p ws ks) → AllByRecursion (Contains room) (free (formula_at mid (length mid)))
      → IsBuilt over head rules fits down ruled start guard (further_members xs over guard mid) (λ ws ks. GuardNames over head rules fits down ruled start guard ws ks × (p ws ks × AllByRecursion (λ x. Names over.structure.relations x.formula ws ks) xs))
  further_built [] room most roomy inside sound start mid guard p h b within = record { led = b.led; names = λ ws ks. then_iff (b.names ws ks) ((λ n. (n.0, (n.1, tt))), λ n. (n.0, n.1.0)) }
  further_built (x ∷ xs) room most roomy inside sound start mid guard p h b within =
      let k = guard_later start mid guard guard (length mid) room b.led h in
      let m = member_built x room roomy inside.0 sound.0 mid guard k in
      let steps : Steps = member x over guard mid in
      let a : Form = formula_at steps (length mid) in
      let c : Form = formula_at steps (length steps) in
      let f : Form = disjunction (form a (form c no_forms)) in
      let ea : a ≡ formula_at mid (length mid) = kept_formula over.structure head rules fits mid steps guard (length steps) (length mid) m.led (omega arith) in
      let last : AllByRecursion (Contains room) (free c) = member_within x room mid steps guard k inside.0 m in
      let wide : AllByRecursion (Contains room) (free f) = (all_append (Contains room) (free a) (free c ++ [])).1 (subst (λ q. AllByRecursion (Contains room) (free q)) (sym ea) within, (all_append (Contains room) (free c) []).1 (last, tt)) in
      let after : Steps = union (length mid) over.structure steps in
      let e : formula_at after (length after) ≡ f = formula_made over.structure (Union (length mid) (length steps)) f steps in
      let both : IsBuilt over head rules fits down ruled start guard after (λ ws ks. GuardNames over head rules fits down ruled start guard ws ks × (p ws ks × Names over.structure.relations x.formula ws ks)) = record {
        led = union_leads over.structure head rules fits start mid steps guard guard (length mid) b.led m.led (down (free f) room wide roomy);
        names = λ ws ks.
            let two = two_named over.structure.relations ws ks a c no_forms in
            let g = guard_named start mid guard guard (length mid) room ws ks b.led h in (
              (λ n. let z = two.0 (subst (λ q. Names over.structure.relations q ws ks) e n) in let y = (b.names ws ks).0 (subst (λ q. Names over.structure.relations q ws ks) ea z.0) in (y.0, (y.1, ((m.names ws ks).0 z.1.0).1))),
              λ n. subst (λ q. Names over.structure.relations q ws ks) (sym e) (two.1 (subst (λ q. Names over.structure.relations q ws ks) (sym ea) ((b.names ws ks).1 (n.0, n.1.0)), ((m.names ws ks).1 (g.1 n.0, n.1.1), (tt, tt)))),
            );
      } in
      let r = further_built xs room most roomy inside.1 sound.1 start after guard (λ ws ks. p ws ks × Names over.structure.relations x.formula ws ks) h both (subst (λ q. AllByRecursion (Contains room) (free q)) (sym e) wide) in
      record { led = r.led; names = λ ws ks. then_iff (r.names ws ks) ((λ n. (n.0, (n.1.0.0, (n.1.0.1, n.1.1)))), λ n. (n.0, ((n.1.0, n.1.1.0), n.1.1.1))) }

  -- ---- the elements of an `and`

  -- the elements of each kind
  abbrev pub elements_of : Forms → Elements
  elements_of fs = record { atoms = atoms_in fs; sorts = sorts_in fs; others = others_in fs; tests = tests_in fs; negations = negations_in fs }

  -- a comparison or an equality, and the others
  test_named : (ws : List Variable) (ks : List Mark) (t : Test) (fs : Forms) → ElementsName over head rules fits down ruled (elements_of fs) ws ks ↔ NamesEach over.structure.relations fs ws ks → ElementsName over head rules fits down ruled (record { atoms = atoms_in fs; sorts = sorts_in fs; others = others_in fs; tests = t ∷ tests_in fs; negations = negations_in fs }) ws ks ↔ NamesEach over.structure.relations (form (test t) fs) ws ks
  test_named ws ks t fs r =
      let c = cons_named over.structure.relations ws ks (test t) fs in
      ((λ h. c.1 (h.1.1.1.0.0, r.0 (h.0, (h.1.0, (h.1.1.0, (h.1.1.1.0.1, h.1.1.1.1)))))), λ h. let x = c.0 h in let y = r.1 x.1 in (y.0, (y.1.0, (y.1.1.0, ((x.0, y.1.1.1.0), y.1.1.1.1)))))

  -- another positive, and the others
  part_named : (ws : List Variable) (ks : List Mark) (f : Form) (fs : Forms) → ElementsName over head rules fits down ruled (elements_of fs) ws ks ↔ NamesEach over.structure.relations fs ws ks → ElementsName over head rules fits down ruled (record { atoms = atoms_in fs; sorts = sorts_in fs; others = record { formula = f; rule = build f [] } ∷ others_in fs; tests = tests_in fs; negations = negations_in fs }) ws ks ↔ NamesEach over.structure.relations (form f fs) ws ks
  part_named ws ks f fs r =
      let c = cons_named over.structure.relations ws ks f fs in
      ((λ h. c.1 (h.1.1.0.0, r.0 (h.0, (h.1.0, (h.1.1.0.1, h.1.1.1))))), λ h. let x = c.0 h in let y = r.1 x.1 in (y.0, (y.1.0, ((x.0, y.1.1.0), y.1.1.1))))

  -- a list names what its elements name
  elements_named : (ws : List Variable) (ks : List Mark) (fs : Forms) → ElementsName over head rules fits down ruled (elements_of fs) ws ks ↔ NamesEach over.structure.relations fs ws ks
  elements_named ws ks no_forms = ((λ h. (tt, tt)), λ h. (tt, (tt, (tt, (tt, tt)))))
  elements_named ws ks (form (atom name terms) fs) =
      let c = cons_named over.structure.relations ws ks (atom name terms) fs in
      let r : ElementsName over head rules fits down ruled (elements_of fs) ws ks ↔ NamesEach over.structure.relations fs ws ks = elements_named ws ks fs in
      ((λ h. c.1 (h.0.0, r.0 (h.0.1, h.1))), λ h. let x = c.0 h in let y = r.1 x.1 in ((x.0, y.0), y.1))
  elements_named ws ks (form (sorted s v) fs) =
      let c = cons_named over.structure.relations ws ks (sorted s v) fs in
      let r : ElementsName over head rules fits down ruled (elements_of fs) ws ks ↔ NamesEach over.structure.relations fs ws ks = elements_named ws ks fs in
      ((λ h. c.1 (h.1.0.0, r.0 (h.0, (h.1.0.1, h.1.1)))), λ h. let x = c.0 h in let y = r.1 x.1 in (y.0, ((x.0, y.1.0), y.1.1)))
  elements_named ws ks (form (test (Compare left op right)) fs) = test_named ws ks (Compare left op right) fs (elements_named ws ks fs)
  elements_named ws ks (form (test (Equal left right)) fs) = test_named ws ks (Equal left right) fs (elements_named ws ks fs)
  elements_named ws ks (form (test (Member term point)) fs) = part_named ws ks (test (Member term point)) fs (elements_named ws ks fs)
  elements_named ws ks (form (negation g) fs) =
      let c = cons_named over.structure.relations ws ks (negation g) fs in
      let r : ElementsName over head rules fits down ruled (elements_of fs) ws ks ↔ NamesEach over.structure.relations fs ws ks = elements_named ws ks fs in
      ((λ h. c.1 (h.1.1.1.1.0, r.0 (h.0, (h.1.0, (h.1.1.0, (h.1.1.1.0, h.1.1.1.1.1)))))), λ h. let x = c.0 h in let y = r.1 x.1 in (y.0, (y.1.0, (y.1.1.0, (y.1.1.1.0, (x.0, y.1.1.1.1))))))
  elements_named ws ks (form (conjunction gs) fs) = part_named ws ks (conjunction gs) fs (elements_named ws ks fs)
  elements_named ws ks (form (disjunction gs) fs) = part_named ws ks (disjunction gs) fs (elements_named ws ks fs)
  elements_named ws ks (form (implication f g) fs) = part_named ws ks (implication f g) fs (elements_named ws ks fs)
  elements_named ws ks (form (exists v s f) fs) = part_named ws ks (exists v s f) fs (elements_named ws ks fs)
  elements_named ws ks (form (forall v s f) fs) = part_named ws ks (forall v s f) fs (elements_named ws ks fs)

  -- there is an element where there is a formula
  elements_some : (fs : Forms) → HasElement fs → 0 < count over head rules fits down ruled (elements_of fs)
  elements_some no_forms h = absurd h
  elements_some (form (atom name terms) fs) h = omega arith
  elements_some (form (test (Compare left op right)) fs) h = omega arith
  elements_some (form (test (Member term point)) fs) h = omega arith
  elements_some (form (test (Equal left right)) fs) h = omega arith
  elements_some (form (sorted s v) fs) h = omega arith
  elements_some (form (negation g) fs) h = omega arith
  elements_some (form (conjunction gs) fs) h = omega arith
  elements_some (form (disjunction gs) fs) h = omega arith
  elements_some (form (implication f g) fs) h = omega arith
  elements_some (form (exists v s f) fs) h = omega arith
  elements_some (form (forall v s f) fs) h = omega arith

  -- a positive that is no atom, sort element, comparison or equality, whose rule builds what it should
  part_sound : (f : Form) (rule : GuardedRule) → IsRule over head rules fits down ruled f rule → AllByRecursion (IsSoundPart over head rules fits down ruled) (as_part f rule)
  part_sound (atom name terms) rule h = tt
  part_sound (sorted s v) rule h = tt
  part_sound (test (Compare left op right)) rule h = tt
  part_sound (test (Member term point)) rule h = (h, tt)
  part_sound (test (Equal left right)) rule h = tt
  part_sound (negation f) rule h = tt
  part_sound (conjunction fs) rule h = (h, tt)
  part_sound (disjunction fs) rule h = (h, tt)
  part_sound (implication f g) rule h = (h, tt)
  part_sound (exists v s f) rule h = (h, tt)
  part_sound (forall v s f) rule h = (h, tt)

  -- the members of an `or` name what the list names
  members_named : (ws : List Variable) (ks : List Mark) (fs : Forms) → AllByRecursion (λ x. Names over.structure.relations x.formula ws ks) (members_in fs) ↔ NamesEach over.structure.relations fs ws ks
  members_named ws ks no_forms = ((λ h. (tt, tt)), λ h. tt)
  members_named ws ks (form f fs) =
      let c = cons_named over.structure.relations ws ks f fs in
      let r : AllByRecursion (λ x. Names over.structure.relations x.formula ws ks) (members_in fs) ↔ NamesEach over.structure.relations fs ws ks = members_named ws ks fs in
      ((λ h. c.1 (h.0, r.0 h.1)), λ h. let x = c.0 h in (x.0, r.1 x.1))

  -- and their variables are the list's
  members_within : (fs : Forms) → AllByRecursion (λ x. AllByRecursion (Contains (free_each fs)) (free x.formula)) (members_in fs)
  members_within fs = all_map (λ x. Names over.structure.relations x.formula (free_each fs) (marks_each fs over.structure.relations)) (λ x. AllByRecursion (Contains (free_each fs)) (free x.formula)) (members_in fs) (λ x h. h.0) ((members_named (free_each fs) (marks_each fs over.structure.relations) fs).1 (names_self over.structure.relations (disjunction fs)))

  -- an `or` under a guard
  disjunction_built : (f : Form) (fs : Forms) → fits (free_each (form f fs)) → IsRule over head rules fits down ruled f (build f []) → AllByRecursion (IsSoundPart over head rules fits down ruled) (members_in fs) → IsRule over head rules fits down ruled (disjunction (form f fs)) (disjunction_rule (members_in (form f fs)))
  disjunction_built f fs good first sound steps guard h =
      let room : List Variable = free_each (form f fs) in
      let x : Part = record { formula = f; rule = build f [] } in
      let w = members_within (form f fs) in
      let mid : Steps = member x over guard steps in
      let m = member_built x room good w.0 first steps guard h in
      let r = further_built (members_in fs) room (marks_each (form f fs) over.structure.relations) good w.1 sound steps mid guard (Names over.structure.relations f) h m (member_within x room steps mid guard h w.0 m) in
      record {
        led = r.led;
        names = λ ws ks.
            let c = cons_named over.structure.relations ws ks f fs in
            let n = members_named ws ks fs in
            then_iff (r.names ws ks) ((λ y. (y.0, c.1 (y.1.0, n.0 y.1.1))), λ y. let z = c.0 y.1 in (y.0, (z.0, n.1 z.1)));
      }

  -- a formula without a variable names no more than the formula with it
  without_room : (b : Variable) (s : Sort) (v : Identifier) (f : Form) → bound_by s v ≡ b → AllByRecursion (Contains (b ∷ free f)) (free (exists v s f))
  without_room b s v f e = all_by (Contains (b ∷ free f)) (free (exists v s f)) (λ w c. contains_later b w (free f) ((without_member (bound_by s v) (free f) w).0 c).0)

  -- the free variables of the whole formula fit
  pub whole : (f : Form) → EachScope fits f → fits (free f)
  whole (atom name terms) good = good
  whole (test t) good = good
  whole (sorted s v) good = good
  whole (negation f) good = whole f good
  whole (conjunction fs) good = good.0
  whole (disjunction fs) good = good.0
  whole (implication f g) good = good.0
  whole (exists v s f) good = down (free (exists v s f)) (bound_by s v ∷ free f) (without_room (bound_by s v) s v f refl) good.0
  whole (forall v s f) good = down (free (forall v s f)) (bound_by s v ∷ free f) (without_room (bound_by s v) s v f refl) good.0

  -- a guard of a quantifier is one of its formula within the larger block
  guard_inside : (steps : Steps) (guard : Option ℕ) (v : Identifier) (s : Sort) (f : Form) (block : List Variable) → IsGuardIn over head rules fits down ruled steps guard (free (exists v s f)) block → IsGuardIn over head rules fits down ruled steps guard (free f) (block ++ bound_by s v ∷ [])
  guard_inside steps None v s f block h = tt
  guard_inside steps (Some g) v s f block h = (
    h.0,
    h.1,
    all_map (Contains (free (exists v s f))) (Contains (free f)) (free (formula_at steps g)) (λ w c. ((without_member (bound_by s v) (free f) w).0 c).0) h.2,
    λ w c d. ⊎_elim (λ x. h.3 w c x)
        (λ x. let other : w ≢ bound_by s v = ((without_member (bound_by s v) (free f) w).0 (all_of (Contains (free (exists v s f))) (free (formula_at steps g)) w h.2 c)).1 in ⊎_elim (λ q. other (sym q)) (λ n. contains_none w n) (cons_cases (bound_by s v) w [] x))
        (in_one block (bound_by s v ∷ []) w d),
  )

  -- a quantifier names what its formula names within the larger block
  larger_block : (v : Identifier) (s : Sort) (f : Form) (block ws : List Variable) (ks : List Mark) → Names over.structure.relations f ((block ++ bound_by s v ∷ []) ++ ws) ks ↔ Names over.structure.relations (exists v s f) (block ++ ws) ks
  larger_block v s f block ws ks =
      let b : Variable = bound_by s v in
      let e = exists_named over.structure.relations (block ++ ws) ks v s f in
      let on : (w : Variable) → Contains ((block ++ b ∷ []) ++ ws) w → Contains (b ∷ (block ++ ws)) w =
      λ w c. ⊎_elim
      (λ x. ⊎_elim (λ y. contains_later b w (block ++ ws) (in_left block ws w y)) (λ y. ⊎_elim (λ q. subst (Contains (b ∷ (block ++ ws))) q (contains_first b (block ++ ws))) (λ n. absurd (contains_none w n)) (cons_cases b w [] y)) (in_one block (b ∷ []) w x))
      (λ x. contains_later b w (block ++ ws) (in_right block ws w x)) (in_one (block ++ b ∷ []) ws w c) in
      let back : (w : Variable) → Contains (b ∷ (block ++ ws)) w → Contains ((block ++ b ∷ []) ++ ws) w =
      λ w c. ⊎_elim (λ q. in_left (block ++ b ∷ []) ws w (in_right block (b ∷ []) w (subst (Contains (b ∷ [])) q (contains_first b []))))
      (λ x. ⊎_elim (λ y. in_left (block ++ b ∷ []) ws w (in_left block (b ∷ []) w y)) (λ y. in_right (block ++ b ∷ []) ws w y) (in_one block ws w x)) (cons_cases b w (block ++ ws) c) in (
        (λ h. e.1 (all_map (Contains ((block ++ b ∷ []) ++ ws)) (Contains (b ∷ (block ++ ws))) (free f) on h.0, h.1)),
        λ h. let x = e.0 h in (all_map (Contains (b ∷ (block ++ ws))) (Contains ((block ++ b ∷ []) ++ ws)) (free f) back x.0, x.1),
      )

  mutual
    -- each core form builds what it names
    pub built : (f : Form) → IsCore f → EachScope fits f → (block : List Variable) → IsRuleIn over head rules fits down ruled block (free f) (Names over.structure.relations f) (build f block)
    built (atom name terms) c good block =
        ending_rule block (atom name terms) (leaf_under (scan_of name terms)) good
        (leaf_rule (atom name terms) (scan_of name terms) good (λ steps. first_built (Scan name terms) (atom name terms) steps (record { operands = tt; formula = refl; drop = tt; variables = tt }) good))
    built (test t) c good block =
        ending_rule block (test t) (test_under t) good (test_rule t good (λ steps. first_built (Leaf t) (test t) steps (record { operands = tt; formula = refl; drop = tt; variables = tt }) good))
    built (sorted s v) c good block =
        ending_rule block (sorted s v) (leaf_under (sort_texts s v)) good
        (leaf_rule (sorted s v) (sort_texts s v) good (λ steps. first_built (SortStep v s (over.structure.domain s)) (sorted s v) steps (record { operands = tt; formula = (refl, refl); drop = tt; variables = tt }) good))
    built (negation f) c good block =
        let es : Elements = record { atoms = []; sorts = []; others = []; tests = []; negations = record { formula = f; rule = build f [] } ∷ [] } in
        ending_rule block (negation f) (conjunction_rule es []) (whole f good)
        (rule_of (negation f) (conjunction_rule es [])
        (conjunction_built over head rules fits down ruled es [] (free f) (marks f over.structure.relations) (Names over.structure.relations f) (whole f good) (names_self over.structure.relations f) (λ ws ks. ((λ h. h.1.1.1.1.0), λ h. (tt, (tt, (tt, (tt, (h, tt))))))) tt (rule_of f (build f []) (built f c good []), tt) (omega arith)))
    built (conjunction fs) c good block =
        conjunction_built over head rules fits down ruled (elements_of fs) block (free_each fs) (marks_each fs over.structure.relations) (Names over.structure.relations (conjunction fs)) good.0 (names_self over.structure.relations (conjunction fs)) (λ ws ks. elements_named ws ks fs)
        (others_sound fs c.1 good.1) (negations_sound fs c.1 good.1) (elements_some fs c.0)
    built (disjunction no_forms) c good block = absurd c.0
    built (disjunction (form f fs)) c good block =
        ending_rule block (disjunction (form f fs)) (disjunction_rule (members_in (form f fs))) good.0 (disjunction_built f fs good.0 (rule_of f (build f []) (built f c.1.0 good.1.0 [])) (members_sound fs c.1.1 good.1.1))
    built (implication f g) c good block = absurd c
    built (exists v s f) c good block = λ steps guard h.
        let b = built f c good.1 (block ++ bound_by s v ∷ []) steps guard (guard_inside steps guard v s f block h) in
        record {
          led = b.led;
          names = λ ws ks. let l = larger_block v s f block ws ks in then_iff (b.names ws ks) ((λ n. (n.0, l.0 n.1)), λ n. (n.0, l.1 n.1));
        }
    built (forall v s f) c good block = absurd c

    -- so do the parts of a list
    others_sound : (fs : Forms) → AreCore fs → EachOfScope fits fs → AllByRecursion (IsSoundPart over head rules fits down ruled) (others_in fs)
    others_sound no_forms c good = tt
    others_sound (form f fs) c good = (all_append (IsSoundPart over head rules fits down ruled) (as_part f (build f [])) (others_in fs)).1 (part_sound f (build f []) (rule_of f (build f []) (built f c.0 good.0 [])), others_sound fs c.1 good.1)

    -- its negations
    negations_sound : (fs : Forms) → AreCore fs → EachOfScope fits fs → AllByRecursion (IsSoundPart over head rules fits down ruled) (negations_in fs)
    negations_sound no_forms c good = tt
    negations_sound (form (negation g) fs) c good = (rule_of g (build g []) (built g c.0 good.0 []), negations_sound fs c.1 good.1)
    negations_sound (form f fs) c good = negations_sound fs c.1 good.1

    -- and its members
    members_sound : (fs : Forms) → AreCore fs → EachOfScope fits fs → AllByRecursion (IsSoundPart over head rules fits down ruled) (members_in fs)
    members_sound no_forms c good = tt
    members_sound (form f fs) c good = (rule_of f (build f []) (built f c.0 good.0 []), members_sound fs c.1 good.1)
