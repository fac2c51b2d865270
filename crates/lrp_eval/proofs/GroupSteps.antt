-- The next step of a group, by its kind: what its operation asks, and that it makes the step's parts.
use Rattle.std.proofs.Common.{◌≡◌, ◌≤◌, ◌<◌, ◌+◌, ℕ, suc, List, [], ◌∷◌, ◌++◌, length, Some, replicate, sym, subst, ◌∙◌, arith, Contains, Result, to_z, of_z, w64, refl}
use Rattle.std.specs.Prelude.{ℤ, nat_abs}
use Rattle.lrp_model.specs.Texts.{Ascends, Identifier, Text, without}
use Rattle.lrp_model.specs.Formulas.{Question}
use Rattle.lrp_model.specs.Domains.{constants}
use Rattle.lrp_model.specs.Rows.{relation_named}
use Rattle.lrp_model.specs.Kept.{IsKept}
use Rattle.lrp_model.specs.Steps.{Steps}
use Rattle.lrp_model.specs.declared.relations.Relation.{Relation}
use Rattle.lrp_model.specs.declared.relations.Sort.{Sort}
use Rattle.lrp_model.specs.declared.formulas.Term.{Term}
use Rattle.lrp_model.specs.declared.formulas.Test.{Test}
use Rattle.lrp_model.specs.declared.plans.Step.{Step}
use Rattle.lrp_model.specs.declared.plans.StepKind.{StepKind}
use Rattle.lrp_model.specs.declared.plans.StepKind.TheVariants.{Complement, DropData, DropTime, Extend, Join, Leaf, Minus, Scan, Select, Sort as SortStep, Union}
use Rattle.lrp_model.proofs.Decided.{contains_first}
use Rattle.lrp_store.specs.Stores.{HasReach}
use Rattle.lrp_store.specs.Tables.{AreNumbered}
use Rattle.lrp_steps.proofs.Steps.{farther}
use Rattle.lrp_tables.specs.declared.table.Table.{Table}
use Rattle.lrp_tables.specs.declared.table.StepFault.{StepFault}
use Rattle.lrp_tables.specs.Columns.{joint, scan_times, scan_texts}
use Rattle.lrp_tables.specs.Steps.{CanTest, IsLeafResult}
use Rattle.lrp_tables.specs.Tables.{HasAssignment, IsScanned}
use Rattle.lrp_dropping.specs.Without.{IsTimeCompleted}
use Rattle.lrp_periods.specs.Bounding.{TableHasFewCells}
use Rattle.lrp_periods.specs.Operations.{AreOperand, CanCombineInParts, CanJoinInParts, CanMinusInParts, CanScanInParts, CanSelectInParts}
use Rattle.lrp_periods.specs.Parts.{AreParts, ArePartsOf, HasSome, part_texts, part_times}
use Rattle.lrp_periods.specs.Sieves.{IsSifted}
use Rattle.lrp_periods.proofs.Summing.{more_of}
use Rattle.lrp_periods.proofs.TakenApart.{one_part}
use Rattle.lrp_periods.specs.Sets.{IsComplementOf, IsDifferenceOf, IsJoinOf, IsSelectionOf, IsTextCompleted, IsUnionOf}
use Rattle.lrp_plan_laws.specs.Made.{IsEarlier, operands}
use Rattle.lrp_eval.specs.Grouped.{AreFewParts, AreHeld, ArePartsAt, CanBeWhole, CanRunGroup, HaveFew, IsLastDropped, IsNextFew, IsPartAlone, IsGroupRun, IsGroupHeld, IsNextStep, IsStepInParts, IsWholeTable, next_step_number}
use Rattle.lrp_eval.specs.Planned.{IsPlanOf}
use Rattle.lrp_eval.specs.Running.{AreRun, IsNext, IsRunResult, IsSomeSort, IsSortResult, IsStepTable}
use Rattle.lrp_eval.specs.Together.{ArePassed, AreRunTogether}
use Rattle.lrp_eval.specs.declared.groups.Group.{Group}
use Rattle.lrp_eval.proofs.GroupLaws.{after_blanks, blank, can_scan_parts, ended_run, next_held, of_next, ok_value, one_is, one_whole, parts_few, parts_held, period_word, pushed_held, run_held, scan_held}
use Rattle.lrp_eval.proofs.GroupDrops.{dropped_few}
use Rattle.lrp_eval.proofs.Named.{all_of}
use Rattle.lrp_eval.proofs.PartLaws.{can_complement_parts, can_drop_data_parts, can_drop_time_parts, can_join_parts, can_minus_parts, can_select_parts, can_unite_parts, complement_held, drop_data_held, drop_time_held, join_held, minus_held, select_held, union_held}
use Rattle.lrp_eval.proofs.PartSteps.{IsOfPlan, ascends, earlier, of_plan_as, own_period, worded}
use Rattle.lrp_eval.proofs.SelectLaws.{can_test, leaf_ran}
use Rattle.lrp_plan_laws.proofs.Elements.{within}

module _ {cap : ℕ} {domain : List Text} {g : Group} {made : List (List Table)} {step : Step} (can : CanRunGroup cap domain g) (all : AreHeld cap g made) (next : IsNextStep g made step) where
  abbrev period : ℤ
  period = to_z w64 (of_z w64 step.period)

  pub domain_is : (planned : Steps) (q : Question) → IsPlanOf planned g.database.now q g.plan.now → domain ≡ constants g.database.now q
  domain_is planned q h = can.domain_is ∙ h.is.domain

  -- the step, by its kind
  pub as_step : (planned : Steps) (q : Question) → IsPlanOf planned g.database.now q g.plan.now → (kind : StepKind) → step.kind ≡ kind → IsOfPlan planned g.database.now q (next_step_number g made) kind period
  as_step planned q h kind e = worded (of_plan_as kind (of_next cap g planned q h made step next) e)

  -- parts that it reads
  pub operand_at : (planned : Steps) (q : Question) (h : IsPlanOf planned g.database.now q g.plan.now) → AreRun planned g.database.now q cap g.tables.now → (kind : StepKind) → step.kind ≡ kind → (l : ℕ) → Contains (operands kind) l → (parts : List Table) → ArePartsAt g made l parts → IsStepInParts planned g.database.now q l parts
  operand_at planned q h run kind e l reads parts at =
      let n = as_step planned q h kind e in
      parts_held cap g planned q h made run (all planned q h run) n l reads (all_of (IsEarlier (next_step_number g made)) (operands kind) l (earlier n) reads) parts at

  early : (kind : StepKind) → step.kind ≡ kind → (l : ℕ) → Contains (operands kind) l → IsEarlier (next_step_number g made) l
  early kind e l reads = all_of (IsEarlier (next_step_number g made)) (operands kind) l (earlier (as_step can.run.0 can.run.1 can.run.2 kind e)) reads

  pub operand_low : (kind : StepKind) → step.kind ≡ kind → (l : ℕ) → Contains (operands kind) l → 0 < l
  operand_low kind e l reads = (early kind e l reads).0

  pub operand_high : (kind : StepKind) → step.kind ≡ kind → (l : ℕ) → Contains (operands kind) l → l ≤ length g.tables.now + length made
  operand_high kind e l reads = let b : l < suc (length g.tables.now + length made) = (early kind e l reads).1 in omega arith

  -- ---- steps that read no other

  pub scan_asks : (name : Identifier) (terms : List Term) → step.kind ≡ Scan name terms → (relation : Relation) → relation_named g.database.now name ≡ Some relation → IsKept relation → CanScanInParts domain period relation terms
  scan_asks name terms e relation named kept = subst (λ d. CanScanInParts d period relation terms) (sym (domain_is can.run.0 can.run.1 can.run.2)) (can_scan_parts cap (as_step can.run.0 can.run.1 can.run.2 (Scan name terms) e) named kept)

  pub scan_makes : (name : Identifier) (terms : List Term) → step.kind ≡ Scan name terms → (relation : Relation) → relation_named g.database.now name ≡ Some relation → IsKept relation → (parts : List Table) → ArePartsOf domain (scan_times terms) (scan_texts terms) period (IsScanned domain relation terms) parts
      → IsGroupHeld cap g (next_step_number g made) parts
  scan_makes name terms e relation named kept parts are planned q h run =
      scan_held cap (as_step planned q h (Scan name terms) e) named kept parts (subst (λ d. ArePartsOf d (scan_times terms) (scan_texts terms) period (IsScanned d relation terms) parts) (domain_is planned q h) are)

  pub leaf_asks : (t : Test) → step.kind ≡ Leaf t → CanTest t
  leaf_asks t e = can_test (after_blanks cap (as_step can.run.0 can.run.1 can.run.2 (Leaf t) e) refl)

  -- the table that a call made is the step's
  alone_makes : (kind : StepKind) (e : step.kind ≡ kind) → ((of : ℕ) → kind ≡ Extend of → ⊥) → (result : Result Table StepFault) (parts : List Table) → IsPartAlone result parts
      → ((planned : Steps) (q : Question) (h : IsPlanOf planned g.database.now q g.plan.now) → IsRunResult planned g.database.now q cap (suc (length (replicate (length g.tables.now + length made) blank))) result) → IsGroupHeld cap g (next_step_number g made) parts
  alone_makes kind e other result parts one ran planned q h run =
      run_held cap (as_step planned q h kind e) other one.table parts (ok_value (IsStepTable planned g.database.now q cap (suc (length (replicate (length g.tables.now + length made) blank)))) result one.table one.is (ran planned q h).table) one.one.alone one.one.valid one.one.reach

  pub leaf_makes : (t : Test) → step.kind ≡ Leaf t → (result : Result Table StepFault) → IsLeafResult cap domain t result → (parts : List Table) → IsPartAlone result parts → IsGroupHeld cap g (next_step_number g made) parts
  leaf_makes t e result is parts one =
      alone_makes (Leaf t) e (λ of f. (let x : Leaf t ≡ Extend of = f in cc)) result parts one
      (λ planned q h. leaf_ran (after_blanks cap (as_step planned q h (Leaf t) e) refl) result (subst (λ d. IsLeafResult cap d t result) (domain_is planned q h) is))

  pub sort_asks : (name : Identifier) (s : Sort) (texts : List Text) → step.kind ≡ SortStep name s texts → IsSomeSort cap domain name texts
  sort_asks name s texts e = record {
    planned = can.run.0;
    database = g.database.now;
    query = can.run.1;
    tables = replicate (length g.tables.now + length made) blank;
    sort = s;
    period = period;
    is = subst (λ d. IsNext can.run.0 g.database.now can.run.1 cap d (replicate (length g.tables.now + length made) blank) (SortStep name s texts) period) (sym (domain_is can.run.0 can.run.1 can.run.2))
        (after_blanks cap (as_step can.run.0 can.run.1 can.run.2 (SortStep name s texts) e) refl);
  }

  pub sort_makes : (name : Identifier) (s : Sort) (texts : List Text) → step.kind ≡ SortStep name s texts → (result : Result Table StepFault) → IsSortResult cap domain name texts result → (parts : List Table) → IsPartAlone result parts → IsGroupHeld cap g (next_step_number g made) parts
  sort_makes name s texts e result is parts one =
      alone_makes (SortStep name s texts) e (λ of f. (let x : SortStep name s texts ≡ Extend of = f in cc)) result parts one
      (λ planned q h. is planned g.database.now q (replicate (length g.tables.now + length made) blank) s period
      (subst (λ d. IsNext planned g.database.now q cap d (replicate (length g.tables.now + length made) blank) (SortStep name s texts) period) (sym (domain_is planned q h)) (after_blanks cap (as_step planned q h (SortStep name s texts) e) refl)))

  -- ---- steps that read one

  first_of : (l : ℕ) (ls : List ℕ) → Contains (l ∷ ls) l
  first_of l ls = (0, omega arith, refl)

  second_of : (l r : ℕ) (ls : List ℕ) → Contains (l ∷ r ∷ ls) r
  second_of l r ls = (1, omega arith, refl)

  module _ {l : ℕ} {of : List Table} (at : ArePartsAt g made l of) where
    pub select_asks : (t : Test) → step.kind ≡ Select l t → CanSelectInParts domain period of t
    select_asks t e = subst (λ d. CanSelectInParts d period of t) (sym (domain_is can.run.0 can.run.1 can.run.2))
        (can_select_parts (as_step can.run.0 can.run.1 can.run.2 (Select l t) e) (operand_at can.run.0 can.run.1 can.run.2 can.run.3 (Select l t) e l (first_of l []) of at))

    pub select_makes : (t : Test) → step.kind ≡ Select l t → (parts : List Table) → ArePartsOf domain (part_times of) (part_texts of) period (IsSelectionOf (HasSome domain of) t) parts → IsGroupHeld cap g (next_step_number g made) parts
    select_makes t e parts are planned q h run =
        select_held (as_step planned q h (Select l t) e) (operand_at planned q h run (Select l t) e l (first_of l []) of at) parts
        (subst (λ d. ArePartsOf d (part_times of) (part_texts of) period (IsSelectionOf (HasSome d of) t) parts) (domain_is planned q h) are)

    pub complement_asks : step.kind ≡ Complement l → AreOperand domain period of
    complement_asks e = subst (λ d. AreOperand d period of) (sym (domain_is can.run.0 can.run.1 can.run.2))
        (can_complement_parts (as_step can.run.0 can.run.1 can.run.2 (Complement l) e) (operand_at can.run.0 can.run.1 can.run.2 can.run.3 (Complement l) e l (first_of l []) of at))

    pub complement_makes : step.kind ≡ Complement l → (parts : List Table) → ArePartsOf domain (part_times of) (part_texts of) period (IsComplementOf domain (part_texts of) (HasSome domain of)) parts → IsGroupHeld cap g (next_step_number g made) parts
    complement_makes e parts are planned q h run =
        complement_held (as_step planned q h (Complement l) e) (operand_at planned q h run (Complement l) e l (first_of l []) of at) parts
        (subst (λ d. ArePartsOf d (part_times of) (part_texts of) period (IsComplementOf d (part_texts of) (HasSome d of)) parts) (domain_is planned q h) are)

    pub drop_time_asks : (name : Identifier) → step.kind ≡ DropTime l name → AreOperand domain period of
    drop_time_asks name e = subst (λ d. AreOperand d period of) (sym (domain_is can.run.0 can.run.1 can.run.2))
        (can_drop_time_parts (as_step can.run.0 can.run.1 can.run.2 (DropTime l name) e) (operand_at can.run.0 can.run.1 can.run.2 can.run.3 (DropTime l name) e l (first_of l []) of at))

    pub drop_time_makes : (name : Identifier) → step.kind ≡ DropTime l name → (parts : List Table) → ArePartsOf domain (without name (part_times of)) (part_texts of) period (IsTimeCompleted name (HasSome domain of)) parts → IsGroupHeld cap g (next_step_number g made) parts
    drop_time_makes name e parts are planned q h run =
        drop_time_held (as_step planned q h (DropTime l name) e) (operand_at planned q h run (DropTime l name) e l (first_of l []) of at) parts
        (subst (λ d. ArePartsOf d (without name (part_times of)) (part_texts of) period (IsTimeCompleted name (HasSome d of)) parts) (domain_is planned q h) are)

    pub drop_data_asks : (name : Identifier) → step.kind ≡ DropData l name → AreOperand domain period of
    drop_data_asks name e = subst (λ d. AreOperand d period of) (sym (domain_is can.run.0 can.run.1 can.run.2))
        (can_drop_data_parts (as_step can.run.0 can.run.1 can.run.2 (DropData l name) e) (operand_at can.run.0 can.run.1 can.run.2 can.run.3 (DropData l name) e l (first_of l []) of at))

    pub drop_data_makes : (name : Identifier) → step.kind ≡ DropData l name → (parts : List Table) → ArePartsOf domain (part_times of) (without name (part_texts of)) period (IsTextCompleted domain name (HasSome domain of)) parts → IsGroupHeld cap g (next_step_number g made) parts
    drop_data_makes name e parts are planned q h run =
        drop_data_held (as_step planned q h (DropData l name) e) (operand_at planned q h run (DropData l name) e l (first_of l []) of at) parts
        (subst (λ d. ArePartsOf d (part_times of) (without name (part_texts of)) period (IsTextCompleted d name (HasSome d of)) parts) (domain_is planned q h) are)

  -- ---- steps that read two

  module _ {l r : ℕ} {lefts rights : List Table} (la : ArePartsAt g made l lefts) (ra : ArePartsAt g made r rights) where
    pub join_asks : (tests : List Test) → step.kind ≡ Join l r tests → CanJoinInParts domain period lefts rights tests
    join_asks tests e = subst (λ d. CanJoinInParts d period lefts rights tests) (sym (domain_is can.run.0 can.run.1 can.run.2))
        (can_join_parts (as_step can.run.0 can.run.1 can.run.2 (Join l r tests) e) (operand_at can.run.0 can.run.1 can.run.2 can.run.3 (Join l r tests) e l (first_of l (r ∷ [])) lefts la) (operand_at can.run.0 can.run.1 can.run.2 can.run.3 (Join l r tests) e r (second_of l r []) rights ra))

    pub join_makes : (tests : List Test) → step.kind ≡ Join l r tests → (parts : List Table) → ArePartsOf domain (joint (part_times lefts) (part_times rights)) (joint (part_texts lefts) (part_texts rights)) period (IsJoinOf (HasSome domain lefts) (HasSome domain rights) tests) parts
        → IsGroupHeld cap g (next_step_number g made) parts
    join_makes tests e parts are planned q h run =
        join_held (as_step planned q h (Join l r tests) e) (operand_at planned q h run (Join l r tests) e l (first_of l (r ∷ [])) lefts la) (operand_at planned q h run (Join l r tests) e r (second_of l r []) rights ra) parts
        (subst (λ d. ArePartsOf d (joint (part_times lefts) (part_times rights)) (joint (part_texts lefts) (part_texts rights)) period (IsJoinOf (HasSome d lefts) (HasSome d rights) tests) parts) (domain_is planned q h) are)

    pub union_asks : step.kind ≡ Union l r → CanCombineInParts domain period lefts rights
    union_asks e = subst (λ d. CanCombineInParts d period lefts rights) (sym (domain_is can.run.0 can.run.1 can.run.2))
        (can_unite_parts (as_step can.run.0 can.run.1 can.run.2 (Union l r) e) (operand_at can.run.0 can.run.1 can.run.2 can.run.3 (Union l r) e l (first_of l (r ∷ [])) lefts la) (operand_at can.run.0 can.run.1 can.run.2 can.run.3 (Union l r) e r (second_of l r []) rights ra))

    pub union_makes : step.kind ≡ Union l r → (parts : List Table) → ArePartsOf domain (joint (part_times lefts) (part_times rights)) (joint (part_texts lefts) (part_texts rights)) period (IsUnionOf domain (joint (part_texts lefts) (part_texts rights)) (HasSome domain lefts) (HasSome domain rights)) parts
        → IsGroupHeld cap g (next_step_number g made) parts
    union_makes e parts are planned q h run =
        union_held (as_step planned q h (Union l r) e) (operand_at planned q h run (Union l r) e l (first_of l (r ∷ [])) lefts la) (operand_at planned q h run (Union l r) e r (second_of l r []) rights ra) parts
        (subst (λ d. ArePartsOf d (joint (part_times lefts) (part_times rights)) (joint (part_texts lefts) (part_texts rights)) period (IsUnionOf d (joint (part_texts lefts) (part_texts rights)) (HasSome d lefts) (HasSome d rights)) parts) (domain_is planned q h) are)

    pub minus_asks : step.kind ≡ Minus l r → CanMinusInParts domain period lefts rights
    minus_asks e = subst (λ d. CanMinusInParts d period lefts rights) (sym (domain_is can.run.0 can.run.1 can.run.2))
        (can_minus_parts (as_step can.run.0 can.run.1 can.run.2 (Minus l r) e) (operand_at can.run.0 can.run.1 can.run.2 can.run.3 (Minus l r) e l (first_of l (r ∷ [])) lefts la) (operand_at can.run.0 can.run.1 can.run.2 can.run.3 (Minus l r) e r (second_of l r []) rights ra))

    pub minus_makes : step.kind ≡ Minus l r → (parts : List Table) → ArePartsOf domain (part_times lefts) (part_texts lefts) period (IsDifferenceOf (HasSome domain lefts) (HasSome domain rights)) parts → IsGroupHeld cap g (next_step_number g made) parts
    minus_makes e parts are planned q h run =
        minus_held (as_step planned q h (Minus l r) e) (operand_at planned q h run (Minus l r) e l (first_of l (r ∷ [])) lefts la) (operand_at planned q h run (Minus l r) e r (second_of l r []) rights ra) parts
        (subst (λ d. ArePartsOf d (part_times lefts) (part_texts lefts) period (IsDifferenceOf (HasSome d lefts) (HasSome d rights)) parts) (domain_is planned q h) are)

  -- ---- the step's own parts

  pub held_whole : (parts : List Table) → IsGroupHeld cap g (next_step_number g made) parts → CanBeWhole domain step.period parts
  held_whole parts held =
      let n = of_next cap g can.run.0 can.run.1 can.run.2 made step next in
      let x : IsStepInParts can.run.0 g.database.now can.run.1 (next_step_number g made) parts = held can.run.0 can.run.1 can.run.2 can.run.3 in
      subst (λ d. CanBeWhole d step.period parts) (sym (domain_is can.run.0 can.run.1 can.run.2))
      (record { ascends = ascends n; operand = record { period_is = next.small; parts_are = subst (λ k. AreParts (constants g.database.now can.run.1) k parts) (sym (own_period n)) x.parts_are } })

  -- parts within the cap are those of one step more
  pub next_makes : (old parts : List Table) → IsGroupHeld cap g (next_step_number g made) old → AreFewParts cap domain step.period old parts → AreHeld cap g (made ++ parts ∷ [])
  next_makes old parts held few planned q h run =
      next_held cap g planned q h made step old parts next (all planned q h run) (held planned q h run) (subst (λ d. AreFewParts cap d step.period old parts) (domain_is planned q h) few)

  -- parts within the cap show that their step has few cells
  pub parts_show : (parts : List Table) → IsGroupHeld cap g (next_step_number g made) parts → HaveFew cap domain step.period parts → IsNextFew cap g made
  parts_show parts held few planned q h run = parts_few cap g planned q h made step parts next (held planned q h run) (subst (λ d. HaveFew cap d step.period parts) (domain_is planned q h) few)

  -- and so it is with a step that drops a time of the last one
  pub drop_shows : IsLastDropped g made step → IsNextFew cap g made
  drop_shows drop planned q h run = dropped_few cap g planned q h made step next (all planned q h run) drop

  -- one step more, which has few cells
  pub few_makes : (parts : List Table) → IsGroupHeld cap g (next_step_number g made) parts → IsNextFew cap g made → AreHeld cap g (made ++ parts ∷ [])
  few_makes parts held few planned q h run = pushed_held cap g planned q h made parts (all planned q h run) (held planned q h run) (few planned q h run)

  -- the whole table is that of the last step
  pub ended_makes : (parts : List Table) (table : Table) (between : ℕ) → IsGroupHeld cap g (next_step_number g made) parts → IsWholeTable cap domain step.period parts table → (far : ℕ) → far ≡ nat_abs (to_z w64 (of_z w64 step.reach)) → HasReach table.store far → between ≡ length made → ArePassed g.readers.now (length g.tables.now) (length made)
      → IsGroupRun cap g (record { between = between; table = table })
  ended_makes parts table between held whole far word reach count passed = record {
    run = λ planned q h run.
        subst (λ b. AreRunTogether planned g.database.now q cap g.readers.now g.tables.now b table) (sym count)
        (ended_run cap g planned q h made step parts table next (all planned q h run) (held planned q h run)
        (subst (λ d. IsWholeTable cap d step.period parts table) (domain_is planned q h) whole) (subst (λ r. HasReach table.store r) word reach) passed);
    inside = (let b : length g.tables.now + length made < length g.plan.now.steps = within g.plan.now.steps (length g.tables.now + length made) step next.at in omega (arith, b, count));
  }

  -- ---- a complement by a sieve

  -- few cells of a table are those of its one part
  lone_few : (table : Table) → Ascends domain → AreNumbered domain table.store → TableHasFewCells cap (nat_abs step.period) table → HaveFew cap domain step.period (table ∷ [])
  lone_few table asc numbered few m = few domain asc numbered
      (more_of cap domain (nat_abs step.period) table.vars.times table.vars.texts (HasSome domain (table ∷ [])) (HasAssignment table domain) (λ env h. subst (λ p. HasAssignment p domain env) (sym (one_is table h.part h.listed)) h.has) m)

  pub sieve_ends : {l : ℕ} {of : List Table} (at : ArePartsAt g made l of) → step.kind ≡ Complement l → (table : Table) (between : ℕ) → IsSifted domain period of table → TableHasFewCells cap (nat_abs period) table → between ≡ length made → ArePassed g.readers.now (length g.tables.now) (length made) → IsGroupRun cap g (record { between = between; table = table })
  sieve_ends {l} {of} at e table between is few count passed =
      let word : period ≡ step.period = period_word step.period next.small in
      let held : IsGroupHeld cap g (next_step_number g made) (table ∷ []) = complement_makes at e (table ∷ []) (one_part refl is.part) in
      let whole : CanBeWhole domain step.period (table ∷ []) = held_whole (table ∷ []) held in
      let numbered : AreNumbered domain table.store = (whole.operand.parts_are.each table (contains_first table [])).numbered in
      let cells : TableHasFewCells cap (nat_abs step.period) table = subst (λ k. TableHasFewCells cap (nat_abs k) table) word few in
      ended_makes (table ∷ []) table between held (one_whole cap domain step.period (table ∷ []) table whole refl (is.period_is ∙ word) (lone_few table whole.ascends numbered cells))
      (nat_abs (to_z w64 (of_z w64 step.reach))) refl (farther table.store 0 (nat_abs (to_z w64 (of_z w64 step.reach))) (omega arith) is.free) count passed
