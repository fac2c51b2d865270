-- The number beside a relation is raised, or put back: the keeper's rows and what is derived stay.
use Rattle.std.proofs.Common.{◌≡◌, ◌<◌, ◌≤◌, ◌^◌, ℕ, max, Vec, Global, Bool, true, false, List, [], ◌∷◌, length, map, Contains, Option, Some, inl, inr, refl, sym, ap, subst, ◌∙◌, bytes_eq, arith, pos}
use Rattle.std.specs.Prelude.{if◌then◌else◌, slice_get}
use Rattle.std.specs.List.{AllByRecursion, list_any}
use Rattle.slab.specs.Slab.{get}
use Rattle.lrp_model.specs.Domains.{constants}
use Rattle.lrp_model.specs.Formulas.{question_of}
use Rattle.lrp_theory.specs.Divides.{IsMultiple}
use Rattle.lrp_theory.proofs.Modulo.{Divides-self}
use Rattle.lrp_theory.proofs.Multiples.{Divides-trans}
use Rattle.lrp_model.specs.Periods.{lcm, lcm_all, row_periods}
use Rattle.lrp_model.specs.Texts.{AreDistinct, Identifier}
use Rattle.lrp_model.specs.declared.relations.Column.{Column}
use Rattle.lrp_model.specs.declared.relations.Relation.{Relation}
use Rattle.lrp_model.specs.declared.relations.Row.{Row}
use Rattle.lrp_plan_laws.proofs.CoreLaws.{own_name}
use Rattle.lrp_plan_laws.proofs.HeadLaws.{other_name}
use Rattle.lrp_plan_laws.proofs.Members.{all_by, all_of}
use Rattle.lrp_plan_laws.proofs.PeriodLaws.{lcm_all_is, lcm_common, lcm_positive}
use Rattle.lrp_zone.proofs.Cases.{eq_or}
use Rattle.lrp_kept.specs.Disjuncts.{AreDisjunctsOf}
use Rattle.lrp_kept.specs.Held.{AreLowRows, greatest_bounds, names_of, held_relation, relations_of}
use Rattle.lrp_kept.specs.Limits.{raised_period, row_bound}
use Rattle.lrp_kept.specs.SortedForms.{HaveColumnsOf}
use Rattle.lrp_kept.specs.Sizes.{is_reader}
use Rattle.lrp_kept.specs.declared.rows.HeldRelation.{HeldRelation}
use Rattle.lrp_kept.specs.declared.rows.HeldRows.{HeldRows}
use Rattle.lrp_kept.specs.declared.rows.HeldRow.{HeldRow}
use Rattle.lrp_limits.specs.declared.periods.Period.{Period}
use Rattle.lrp_parts.specs.Derivations.{CanDerive}
use Rattle.lrp_parts.specs.declared.derivation.Derived.{Derived}
use Rattle.lrp_keep.specs.Keeps.{CanBeHeld, raised_at, scaled_reach_of, with_added, with_row, IsPastLimit}
use Rattle.lrp_keep.specs.States.{CanBeAddedAt, CanBeHeldIn, IsAddedAt, IsAddingCause, IsHeldAt, IsHoldingCause, IsKeeper, IsKeeping, IsRelationMarked, IsStillState, ground_at, levels_of, period_with, keeper_view, with_held}
use Rattle.lrp_keep.specs.Unions.{AreDerived}
use Rattle.lrp_keep.specs.declared.faults.KeepFault.{KeepFault}
use Rattle.lrp_keep.specs.declared.faults.KeepFault.TheVariants.{PeriodLimit}
use Rattle.lrp_keep.specs.declared.kept_query.KeptQuery.{KeptQuery}
use Rattle.lrp_keep.specs.declared.states.State.{State}
use Rattle.lrp_keep.proofs.Alike.{AreAlike, AreAsHeld, as_held_then, marked_alike, marked_as_held, same_alike, same_as_held}
use Rattle.lrp_keep.proofs.Carried.{same_can, same_derived, same_held_rows}
use Rattle.lrp_keep.proofs.Cored.{reads}
use Rattle.lrp_keep.proofs.Lists.{at_mapped, one_place, same_images}
use Rattle.lrp_keep.proofs.Views.{rows_same, rows_under}
use Rattle.lrp_holdings.proofs.Chained.{some_is}
use Rattle.lrp_plan_laws.proofs.Elements.{found, within}
use Rattle.lrp_steps.proofs.Steps.{mapped_get}

-- the same relation, with another number maybe
pub record IsSameBut (old new : HeldRelation) : Type 0 where
  pub name : new.name ≡ old.name
  pub columns : new.columns ≡ old.columns
  pub keys : new.keys.items ≡ old.keys.items

abbrev relation_as : Identifier → List Column → List Row → Relation
relation_as name columns rows = record { name = name; columns = columns; rows = rows }

as_relation : (a b : Identifier) (c d : List Column) (k l : List Row) → a ≡ b → c ≡ d → k ≡ l → relation_as a c k ≡ relation_as b d l
as_relation a b c d k l e f g = ap (λ x. relation_as x c k) e ∙ ap (λ x. relation_as b x k) f ∙ ap (λ x. relation_as b d x) g

module _ (old new : HeldRows) (held : AreAsHeld old new) (alike : AreAlike IsSameBut old.relations.items new.relations.items) where
  pub same_relations : relations_of (get new.sources) new.relations.items ≡ relations_of (get old.sources) old.relations.items
  same_relations = same_images (held_relation (get old.sources)) (held_relation (get new.sources)) old.relations.items new.relations.items alike.count (λ i h s x y.
      let a = alike.each i h s x y in
      as_relation s.name h.name s.columns h.columns (rows_under (get new.sources) s.keys.items) (rows_under (get old.sources) h.keys.items) a.name a.columns
      (ap (rows_under (get new.sources)) a.keys ∙ rows_same (get new.sources) (get old.sources) h.keys.items (λ k c. held.sources k)))

  pub same_names : names_of new ≡ names_of old
  same_names = same_images (λ (h : HeldRelation). h.name) (λ (h : HeldRelation). h.name) old.relations.items new.relations.items alike.count (λ i h s x y. (alike.each i h s x y).name)

  -- the rows are low, where no number has become less than its rows' bounds
  pub low_still : AreLowRows old → ((i : ℕ) (h s : HeldRelation) → slice_get old.relations.items i ≡ Some h → slice_get new.relations.items i ≡ Some s → h.most ≤ s.most) → AreLowRows new
  low_still low more i key s source at c e =
      let l : i < length new.relations.items = within new.relations.items i s at in
      let n : length new.relations.items ≡ length old.relations.items = alike.count in
      let h = found old.relations.items i (omega (arith, l, n)) in
      let a = alike.each i h.0 s h.1 at in
      let x : row_bound source.row ≤ h.0.most = low i key h.0 source h.1 (subst (λ l. Contains l key) a.keys c) (sym (held.sources key) ∙ e) in
      let y : h.0.most ≤ s.most = more i h.0 s h.1 at in
      omega (arith, x, y)

-- a keeper's state with the same rows
module _ (of : KeptQuery) (old new : State) (is : IsKeeping of old) (held : AreAsHeld old.rows new.rows) (alike : AreAlike IsSameBut old.rows.relations.items new.rows.relations.items) (period_is : new.period ≡ old.period) (low : AreLowRows new.rows) (derived : AreDerived (ground_at of new.rows new.period.number) of.disjuncts.items (levels_of new)) where
  names_are : names_of new.rows ≡ names_of old.rows
  names_are = same_names old.rows new.rows held alike

  relations_are : (keeper_view of new).relations ≡ (keeper_view of old).relations
  relations_are = same_relations old.rows new.rows held alike

  pub keeping_same : IsKeeping of new
  keeping_same = record {
    state = record {
      rows = same_held_rows old.rows new.rows held is.state.rows;
      disjuncts = subst (λ l. AreDisjunctsOf l (question_of of.query.now) of.disjuncts.items) (sym names_are) is.state.disjuncts;
      can = λ i d at. subst (λ (p : Period). CanDerive (ground_at of new.rows p.number) d) (sym period_is) (same_can (ground_at of old.rows old.period.number) new.rows d held (is.state.can i d at));
      derived = derived;
    };
    query = record { db = is.query.db; query = is.query.query; columns = subst (λ rs. HaveColumnsOf is.query.db rs) (sym relations_are) is.query.columns };
    kept = is.kept;
    distinct = subst AreDistinct (sym names_are) is.distinct;
    ascends = is.ascends;
    known = subst (λ rs. AllByRecursion (Contains of.domain) (constants rs (question_of of.query.now))) (sym relations_are) is.known;
    rows = subst (λ rs. AllByRecursion (λ (r : Relation). AllByRecursion (CanBeHeld of.domain r.columns) r.rows) rs) (sym relations_are) is.rows;
    low = low;
  }

-- ---- the number is raised

swapped : (a b : ℕ) → max a b ≡ max b a
swapped a b = omega arith

-- beside the relation of the name
raised_in : (sources : ℕ → Option HeldRow) (name : Identifier) (most : ℕ) (rs : List HeldRelation) → raised_at name most (relations_of sources rs) (greatest_bounds rs) ≡ map (λ (h : HeldRelation). if bytes_eq h.name name then max h.most most else h.most) rs
raised_in sources name most [] = refl
raised_in sources name most (h ∷ rs) = ap (λ ns. (if bytes_eq h.name name then max h.most most else h.most) ∷ ns) (raised_in sources name most rs)

-- the period with the row is above the limit
pub period_cause : (of : KeptQuery) (old : State) (relation : ℕ) (row : Row) → IsKeeper of old → 2 ^ 62 < period_with of old relation row → IsAddingCause of old relation row PeriodLimit
period_cause of old relation row keeper l = record {
  cause = λ name e.
      subst (λ b. 2 ^ 62 < (if b then raised_period old.period.number row else old.period.number)) (sym (reads (names_of old.rows) (question_of of.query.now) of.disjuncts.items keeper.keeping.state.disjuncts keeper.keeping.distinct relation name e)) l;
}

module _ (of : KeptQuery) (old : State) (keeper : IsKeeper of old) (relation : ℕ) (row : Row) (fits : CanBeAddedAt of old relation row) (new : State) (most : ℕ) (most_is : most ≡ max (row_bound row) fits.held.most) (marked : IsRelationMarked relation most old.rows new.rows) (period_is : new.period ≡ old.period) (derived_is : new.derived ≡ old.derived) where
  held : AreAsHeld old.rows new.rows
  held = marked_as_held relation most old.rows new.rows marked

  alike : AreAlike IsSameBut old.rows.relations.items new.rows.relations.items
  alike = marked_alike IsSameBut relation most old.rows new.rows marked (λ h. record { name = refl; columns = refl; keys = refl }) (λ h at. record { name = refl; columns = refl; keys = refl })

  -- the old number is no greater
  risen : AreAlike (λ h s. h.most ≤ s.most) old.rows.relations.items new.rows.relations.items
  risen = marked_alike (λ h s. h.most ≤ s.most) relation most old.rows new.rows marked (λ h. omega arith) (λ h at.
      let e : h ≡ fits.held = some_is h fits.held (sym at ∙ fits.at) in
      let m : h.most ≡ fits.held.most = ap (λ (x : HeldRelation). x.most) e in
      let n : most ≡ max (row_bound row) fits.held.most = most_is in
      omega (arith, m, n))

  levels_are : levels_of new ≡ levels_of old
  levels_are = ap (λ (ds : Vec Derived Global). map (λ d. d.levels.items) ds.items) derived_is

  derived_new : AreDerived (ground_at of new.rows new.period.number) of.disjuncts.items (levels_of new)
  derived_new =
      let was = keeper.keeping.state.derived in
      subst (λ all. AreDerived (ground_at of new.rows new.period.number) of.disjuncts.items all) (sym levels_are)
      (subst (λ (p : Period). AreDerived (ground_at of new.rows p.number) of.disjuncts.items (levels_of old)) (sym period_is)
      (record { count = was.count; each = λ i d levels at there. same_derived (ground_at of old.rows old.period.number) new.rows d levels held (was.each i d levels at there) }))

  pub keeping_raised : IsKeeping of new
  keeping_raised = keeping_same of old new keeper.keeping held alike period_is (low_still old.rows new.rows held alike keeper.keeping.low risen.each) derived_new

  names_new : names_of new.rows ≡ names_of old.rows
  names_new = same_names old.rows new.rows held alike

  named : (name : Identifier) → slice_get (names_of old.rows) relation ≡ Some name → fits.held.name ≡ name
  named name e = let m = at_mapped (λ (r : HeldRelation). r.name) old.rows.relations.items relation name e in ap (λ (r : HeldRelation). r.name) (some_is fits.held m.0 (sym fits.at ∙ m.1)) ∙ m.2

  bounds_raised : (name : Identifier) → slice_get (names_of old.rows) relation ≡ Some name → greatest_bounds new.rows.relations.items ≡ raised_at name (row_bound row) (keeper_view of old).relations (greatest_bounds old.rows.relations.items)
  bounds_raised name e =
      same_images (λ (h : HeldRelation). if bytes_eq h.name name then max h.most (row_bound row) else h.most) (λ (h : HeldRelation). h.most) old.rows.relations.items new.rows.relations.items marked.count one
      ∙ sym (raised_in (get old.rows.sources) name (row_bound row) old.rows.relations.items)
    where
      one : (i : ℕ) (h s : HeldRelation) → slice_get old.rows.relations.items i ≡ Some h → slice_get new.rows.relations.items i ≡ Some s → s.most ≡ (if bytes_eq h.name name then max h.most (row_bound row) else h.most)
      one i h s x y = elim (eq_or i relation) [
        | inl same ↦
            let here : h ≡ fits.held = some_is h fits.held (sym x ∙ ap (slice_get old.rows.relations.items) same ∙ fits.at) in
            let there : s ≡ record fits.held { most = most } = some_is s (record fits.held { most = most }) (sym y ∙ ap (slice_get new.rows.relations.items) same ∙ marked.at fits.held fits.at) in
            by (bytes_eq h.name name) (ap (λ (r : HeldRelation). bytes_eq r.name name) here ∙ ap (λ n. bytes_eq n name) (named name e) ∙ own_name name) (ap (λ (r : HeldRelation). r.most) there ∙ most_is ∙ swapped (row_bound row) fits.held.most ∙ ap (λ (r : HeldRelation). max r.most (row_bound row)) (sym here))
        | inr other ↦
            let there : s ≡ h = some_is s h (sym y ∙ marked.rest i other ∙ x) in
            not_by (bytes_eq h.name name) (other_name h.name name (λ same. other (one_place (names_of old.rows) i relation name keeper.keeping.distinct (mapped_get (λ (r : HeldRelation). r.name) old.rows.relations.items i h x ∙ ap (λ n. Some n) (sym same)) e))) (ap (λ (r : HeldRelation). r.most) there)
      ]
        where
          by : (b : Bool) → b ≡ true → s.most ≡ max h.most (row_bound row) → s.most ≡ (if b then max h.most (row_bound row) else h.most)
          by true t m = m
          by false t m = cc

          not_by : (b : Bool) → b ≡ false → s.most ≡ h.most → s.most ≡ (if b then max h.most (row_bound row) else h.most)
          not_by true t m = cc
          not_by false t m = m

  period_named : (name : Identifier) → slice_get (names_of old.rows) relation ≡ Some name → period_with of old relation row ≡ (with_added (keeper_view of old) name row).period
  period_named name e = ap (λ b. if b then raised_period old.period.number row else old.period.number) (sym (reads (names_of old.rows) (question_of of.query.now) of.disjuncts.items keeper.keeping.state.disjuncts keeper.keeping.distinct relation name e))

  module _ (period : ℕ) (raised : period ≡ period_with of old relation row) (low_row : AllByRecursion (λ k. 1 ≤ k) (row_periods row)) where
    pub as_added : (name : Identifier) → slice_get (names_of old.rows) relation ≡ Some name → with_held (keeper_view of new) name row period ≡ with_added (keeper_view of old) name row
    as_added name e =
        ap (λ rs. record { query = of.query.now; domain = of.domain; cap = of.cap; relations = with_row rs name row; period = period; bounds = greatest_bounds new.rows.relations.items }) (same_relations old.rows new.rows held alike)
        ∙ ap (λ p. record { query = of.query.now; domain = of.domain; cap = of.cap; relations = with_row (keeper_view of old).relations name row; period = p; bounds = greatest_bounds new.rows.relations.items }) (raised ∙ period_named name e)
        ∙ ap (λ bs. record { query = of.query.now; domain = of.domain; cap = of.cap; relations = with_row (keeper_view of old).relations name row; period = (with_added (keeper_view of old) name row).period; bounds = bs }) (bounds_raised name e)

    own : (name : Identifier) → slice_get (names_of old.rows) relation ≡ Some name → slice_get (names_of new.rows) relation ≡ Some name
    own name e = ap (λ l. slice_get l relation) names_new ∙ e

    pub added_cause : (fault : KeepFault) → IsHoldingCause of new relation row period fault → IsAddingCause of old relation row fault
    added_cause fault h = record { cause = λ name e. subst (λ k. IsPastLimit k fault) (as_added name e) (h.cause name (own name e)) }

    pub added_view : (after : State) → IsHeldAt of relation row period new after → IsAddedAt of relation row old after
    added_view after h = record { is = λ name e. h.is name (own name e) ∙ as_added name e }

    -- the period is a multiple of the kept one and of those of the row
    grown : (b : Bool) → period ≡ (if b then raised_period old.period.number row else old.period.number) → IsMultiple old.period.number period × (b ≡ true → AllByRecursion (λ k. IsMultiple k period) (row_periods row))
    grown true e =
        let all : ℕ = lcm_all (row_periods row) in
        let both = lcm_common all old.period.number (lcm_positive (row_periods row) low_row) in (
          subst (λ n. IsMultiple old.period.number n) (sym e) both.1,
          λ t. all_by (λ k. IsMultiple k period) (row_periods row) (λ k c. subst (λ n. IsMultiple k n) (sym e) (Divides-trans (pos k) (pos all) (pos (lcm all old.period.number)) (all_of (λ k. IsMultiple k all) (row_periods row) k (lcm_all_is (row_periods row) low_row).common c) both.0)),
        )
    grown false e = (subst (λ n. IsMultiple old.period.number n) (sym e) (Divides-self (pos old.period.number)), λ t. cc)

    pub can_be_held : CanBeHeldIn of new relation row period
    can_be_held =
        let g = grown (list_any (is_reader relation) of.disjuncts.items) raised in
        record {
          held = record fits.held { most = most };
          at = marked.at fits.held fits.at;
          row_fits = fits.row_fits;
          low = let e : most ≡ max (row_bound row) fits.held.most = most_is in omega (arith, e);
          grown = subst (λ (p : Period). IsMultiple p.number period) (sym period_is) g.0;
          periods = g.1;
        }

    -- ---- and put back

    module _ (still : State) (back : State) (same : IsStillState of new still) (unmarked : IsRelationMarked relation fits.held.most still.rows back.rows) (same_period : back.period ≡ still.period) (same_derived_too : back.derived ≡ still.derived) where
      held_back : AreAsHeld old.rows back.rows
      held_back = as_held_then old.rows new.rows back.rows held (as_held_then new.rows still.rows back.rows (same_as_held new.rows still.rows same.rows) (marked_as_held relation fits.held.most still.rows back.rows unmarked))

      -- each relation is as it was
      abbrev IsAsBefore : HeldRelation → HeldRelation → Type 0
      IsAsBefore h s = IsSameBut h s × (s.most ≡ h.most)

      alike_back : AreAlike IsAsBefore old.rows.relations.items back.rows.relations.items
      alike_back = record {
        count = unmarked.count ∙ same.rows.listed.count ∙ marked.count;
        each = λ i h s x y.
            let l : i < length old.rows.relations.items = within old.rows.relations.items i h x in
            let m : length new.rows.relations.items ≡ length old.rows.relations.items = marked.count in
            let n : length still.rows.relations.items ≡ length new.rows.relations.items = same.rows.listed.count in
            let b = found new.rows.relations.items i (omega (arith, l, m)) in
            let c = found still.rows.relations.items i (omega (arith, l, m, n)) in
            let up = alike.each i h b.0 x b.1 in
            let flat = (same_alike (λ h s. IsSameBut h s × (s.most ≡ h.most)) new.rows still.rows same.rows (λ h s p q r t. (record { name = p; columns = q; keys = t }, r))).each i b.0 c.0 b.1 c.1 in
            elim (eq_or i relation) [
              | inl e ↦
                  let there : s ≡ record c.0 { most = fits.held.most } = some_is s (record c.0 { most = fits.held.most }) (sym y ∙ ap (slice_get back.rows.relations.items) e ∙ unmarked.at c.0 (ap (slice_get still.rows.relations.items) (sym e) ∙ c.1)) in
                  let here : h ≡ fits.held = some_is h fits.held (sym x ∙ ap (slice_get old.rows.relations.items) e ∙ fits.at) in (
                    record {
                      name = ap (λ (r : HeldRelation). r.name) there ∙ flat.0.name ∙ up.name;
                      columns = ap (λ (r : HeldRelation). r.columns) there ∙ flat.0.columns ∙ up.columns;
                      keys = ap (λ (r : HeldRelation). r.keys.items) there ∙ flat.0.keys ∙ up.keys;
                    },
                    ap (λ (r : HeldRelation). r.most) there ∙ ap (λ (r : HeldRelation). r.most) (sym here),
                  )
              | inr d ↦
                  let there : s ≡ c.0 = some_is s c.0 (sym y ∙ unmarked.rest i d ∙ c.1) in
                  let here : b.0 ≡ h = some_is b.0 h (sym b.1 ∙ marked.rest i d ∙ x) in (
                    record {
                      name = ap (λ (r : HeldRelation). r.name) there ∙ flat.0.name ∙ up.name;
                      columns = ap (λ (r : HeldRelation). r.columns) there ∙ flat.0.columns ∙ up.columns;
                      keys = ap (λ (r : HeldRelation). r.keys.items) there ∙ flat.0.keys ∙ up.keys;
                    },
                    ap (λ (r : HeldRelation). r.most) there ∙ flat.1 ∙ ap (λ (r : HeldRelation). r.most) here,
                  )
            ];
      }

      same_but : AreAlike IsSameBut old.rows.relations.items back.rows.relations.items
      same_but = record { count = alike_back.count; each = λ i h s x y. (alike_back.each i h s x y).0 }

      period_back : back.period ≡ old.period
      period_back = same_period ∙ same.period ∙ period_is

      bounds_back : greatest_bounds back.rows.relations.items ≡ greatest_bounds old.rows.relations.items
      bounds_back = same_images (λ (h : HeldRelation). h.most) (λ (h : HeldRelation). h.most) old.rows.relations.items back.rows.relations.items alike_back.count (λ i h s x y. (alike_back.each i h s x y).1)

      derived_back : AreDerived (ground_at of back.rows back.period.number) of.disjuncts.items (levels_of back)
      derived_back =
          subst (λ (ds : Vec Derived Global). AreDerived (ground_at of back.rows back.period.number) of.disjuncts.items (map (λ d. d.levels.items) ds.items)) (sym same_derived_too)
          (subst (λ (p : Period). AreDerived (ground_at of back.rows p.number) of.disjuncts.items (levels_of still)) (sym same_period)
          (record { count = same.derived.count; each = λ i d levels at there. same_derived (ground_at of still.rows still.period.number) back.rows d levels (marked_as_held relation fits.held.most still.rows back.rows unmarked) (same.derived.each i d levels at there) }))

      pub view_back : keeper_view of back ≡ keeper_view of old
      view_back =
          ap (λ rs. record { query = of.query.now; domain = of.domain; cap = of.cap; relations = rs; period = back.period.number; bounds = greatest_bounds back.rows.relations.items }) (same_relations old.rows back.rows held_back same_but)
          ∙ ap (λ (p : Period). record { query = of.query.now; domain = of.domain; cap = of.cap; relations = (keeper_view of old).relations; period = p.number; bounds = greatest_bounds back.rows.relations.items }) period_back
          ∙ ap (λ bs. record { query = of.query.now; domain = of.domain; cap = of.cap; relations = (keeper_view of old).relations; period = old.period.number; bounds = bs }) bounds_back

      pub keeper_back : IsKeeper of back
      keeper_back = record {
        keeping = keeping_same of old back keeper.keeping held_back same_but period_back
            (low_still old.rows back.rows held_back same_but keeper.keeping.low (λ i h s x y. let e : s.most ≡ h.most = (alike_back.each i h s x y).1 in omega (arith, e))) derived_back;
        reach = subst (λ k. scaled_reach_of k ≤ 2 ^ 62) (sym view_back) keeper.reach;
      }
