-- A database whose rows are held: the period, the limits, and what can be derived.
use Rattle.std.proofs.Common.{◌≡◌, ◌<◌, ◌≤◌, ◌^◌, ℕ, true, false, Bool, List, [], ◌∷◌, ◌++◌, length, map, flat_map, Contains, Option, Some, None, refl, sym, ap, subst, ◌∙◌, bytes_eq, map-id, arith}
use Rattle.std.specs.Prelude.{◌==◌, ℤ, pos, ◌≤ℤ◌, nat_abs, reverse, slice_get, slice_index_or, if◌then◌else◌}
use Rattle.std.specs.List.{AllByRecursion, list_any}
use Rattle.std.proofs.lemmas.Int.{ints}
use Rattle.slab.specs.Slab.{get}
use Rattle.lrp_theory.specs.Divides.{Divides, IsMultiple, IsCommon}
use Rattle.lrp_theory.proofs.Modulo.{Divides-self}
use Rattle.lrp_steps.proofs.Compared.{one_divides}
use Rattle.lrp_model.specs.Checked.{plain_question}
use Rattle.lrp_model.specs.DatabaseMeaning.{column_of}
use Rattle.lrp_model.specs.Formulas.{Form, Question, question_of}
use Rattle.lrp_model.specs.Periods.{period as period_of, periods, test_periods, row_periods}
use Rattle.lrp_model.specs.Rows.{relation_named}
use Rattle.lrp_model.specs.TestPoints.{points}
use Rattle.lrp_model.specs.Texts.{AreDistinct, Identifier, Text}
use Rattle.lrp_model.specs.Domains.{constants}
use Rattle.lrp_model.specs.Satisfaction.{HaveDistinctNames}
use Rattle.lrp_model.specs.Variables.{free_each, head_variables}
use Rattle.lrp_model.specs.declared.formulas.Test.{Test}
use Rattle.lrp_model.specs.declared.formulas.Test.TheVariants.{Compare, Member, Equal}
use Rattle.lrp_model.specs.declared.relations.Column.{Column}
use Rattle.lrp_model.specs.declared.relations.Relation.{Relation}
use Rattle.lrp_model.specs.declared.relations.Row.{Row}
use Rattle.lrp_model.proofs.Decided.{contains_first}
use Rattle.lrp_model.proofs.Logic.{all_append}
use Rattle.lrp_plan_laws.specs.Rising.{database_periods}
use Rattle.lrp_plan_laws.specs.Scopes.{IsNarrow}
use Rattle.lrp_plan_laws.proofs.Members.{all_by, all_of, in_left, in_right}
use Rattle.lrp_plan_laws.proofs.SourcePeriods.{named_from}
use Rattle.lrp_limits.specs.Multiples.{IsLeastWithinLimit, IsPeriodOf}
use Rattle.lrp_limits.proofs.Keeping.{least_is}
use Rattle.lrp_limits.proofs.Raised.{above, period_from}
use Rattle.lrp_tables.specs.Calls.{test_period}
use Rattle.lrp_tables.specs.Columns.{head_texts, head_times}
use Rattle.lrp_kept.specs.Choices.{HasLargeChoicePart as HasLargeChoice, listed_disjuncts}
use Rattle.lrp_kept.specs.Disjuncts.{AreDisjunctsOf, IsDisjunctOf}
use Rattle.lrp_kept.specs.Held.{AreLowRows, greatest_bounds, names_of, held_relation, relations_of}
use Rattle.lrp_kept.specs.Keyed.{AreHeldRows, HaveOwnKeys}
use Rattle.lrp_kept.specs.KeptForm.{kept_elements, is_neither, some_passes}
use Rattle.lrp_kept.specs.Keys.{keys_in, keys_of}
use Rattle.lrp_kept.specs.Limits.{relation_bound, row_bound, scaled_kept_reach}
use Rattle.lrp_kept.specs.SortedForms.{HaveColumnsOf, IsSortedForm}
use Rattle.lrp_kept.specs.Sizes.{is_reader, joined_reach, scaled_over, tested_periods}
use Rattle.lrp_kept.specs.declared.disjuncts.Disjunct.{Disjunct}
use Rattle.lrp_kept.specs.declared.disjuncts.JoinedAtom.{JoinedAtom}
use Rattle.lrp_kept.specs.declared.rows.HeldRelation.{HeldRelation}
use Rattle.lrp_kept.specs.declared.rows.HeldRows.{HeldRows}
use Rattle.lrp_kept.specs.declared.rows.HeldRow.{HeldRow}
use Rattle.lrp_kept.proofs.Room.{at_most, atom_room, below_greatest}
use Rattle.lrp_kept.proofs.SortedDisjuncts.{disjunct_in_head, disjunct_narrow, few_head_texts, few_head_times, head_named}
use Rattle.lrp_kept.proofs.SortedForms.{disjuncts_sorted}
use Rattle.lrp_kept.proofs.SortedHeads.{in_turned, same_form}
use Rattle.lrp_parts.specs.Derivations.{CanDerive}
use Rattle.lrp_parts.proofs.KeyedRows.{row_of_key}
use Rattle.lrp_parts.proofs.Narrow.{can_be_joined, fits_elements}
use Rattle.lrp_keep.specs.Keeps.{CanBeHeld, opened, scaled_reach_of, IsPastLimit, StaysWithinLimits}
use Rattle.lrp_keep.specs.States.{AreAllHeld, AreMarkedBy, CanBeOpened, CanDeriveEach, HasSomeLargePart, HasRowsFilled, IsKeeper, ground_at, levels_of, periods_at, read_periods, keeper_view}
use Rattle.lrp_kept.specs.Sketches.{CanBeSketched}
use Rattle.lrp_keep.specs.Unions.{AreDerived}
use Rattle.lrp_keep.specs.declared.faults.KeepFault.TheVariants.{BoundLimit, TooManyCells}
use Rattle.lrp_keep.specs.declared.kept_query.KeptQuery.{KeptQuery}
use Rattle.lrp_keep.specs.declared.states.State.{State}
use Rattle.lrp_keep.proofs.Adding.{names_in, scaled_is}
use Rattle.lrp_keep.proofs.Cored.{periods_from, periods_to, read_in, tested_point}
use Rattle.lrp_keep.proofs.Counted.{joined_count}
use Rattle.lrp_keep.proofs.Deriving.{IsReadable, can_derive}
use Rattle.lrp_keep.proofs.HeadNames.{other_names}
use Rattle.lrp_keep.proofs.KeptParts.{conjunctive_of, head_occurs, literal_of, scaled_named}
use Rattle.lrp_keep.proofs.LargeChoices.{large_choice, no_large_choice}
use Rattle.lrp_keep.proofs.Lists.{any_at, equal_self, same_images, zip_of}
use Rattle.lrp_keep.proofs.LowRows.{most_at}
use Rattle.lrp_keep.proofs.Readable.{can_be_read, low_periods, readable}
use Rattle.lrp_keep.proofs.Views.{rows_under}
use Rattle.lrp_keep.proofs.WholeAtoms.{some_joined}
use Rattle.lrp_holdings.proofs.Chained.{some_is}
use Rattle.lrp_plan_laws.proofs.Elements.{found, within}
use Rattle.lrp_store.proofs.Held.{Contains-from_get}
use Rattle.lrp_tables.proofs.Joining.{place_in}
use Rattle.lrp_theory.proofs.Members.{in_flat}
use Rattle.lrp_model.proofs.Everywhere.{map_count}
use Rattle.lrp_steps.proofs.Steps.{abs_is, mapped_get}

-- ---- names and columns

module _ (sources : ℕ → Option HeldRow) where
  found_too : (db : List Relation) (rs : List HeldRelation) (name : Identifier) (r : Relation) → map (λ (h : HeldRelation). h.name) rs ≡ map (λ (r : Relation). r.name) db → map (λ (h : HeldRelation). h.columns) rs ≡ map (λ (r : Relation). r.columns) db
      → relation_named db name ≡ Some r → (s : Relation) × (relation_named (relations_of sources rs) name ≡ Some s) × (s.columns ≡ r.columns)
  found_too [] rs name r n c e = cc
  found_too (x ∷ db) [] name r n c e = cc
  found_too (x ∷ db) (h ∷ rs) name r n c e =
      let same : h.name ≡ x.name = cc in
      let columns : h.columns ≡ x.columns = cc in
      let names : map (λ (h : HeldRelation). h.name) rs ≡ map (λ (r : Relation). r.name) db = cc in
      let all : map (λ (h : HeldRelation). h.columns) rs ≡ map (λ (r : Relation). r.columns) db = cc in
      subst (λ m. (s : Relation) × ((if bytes_eq m name then Some (held_relation sources h) else relation_named (relations_of sources rs) name) ≡ Some s) × (s.columns ≡ r.columns)) (sym same)
      (by (bytes_eq x.name name) e (λ f. found_too db rs name r names all f) columns)
    where
      by : (b : Bool) → (if b then Some x else relation_named db name) ≡ Some r → (relation_named db name ≡ Some r → (s : Relation) × (relation_named (relations_of sources rs) name ≡ Some s) × (s.columns ≡ r.columns)) → h.columns ≡ x.columns
          → (s : Relation) × ((if b then Some (held_relation sources h) else relation_named (relations_of sources rs) name) ≡ Some s) × (s.columns ≡ r.columns)
      by true f rest k = (held_relation sources h, refl, k ∙ ap (λ (y : Relation). y.columns) (some_is x r f))
      by false f rest k = rest f

  have_columns : (db : List Relation) (rs : List HeldRelation) → map (λ (h : HeldRelation). h.name) rs ≡ map (λ (r : Relation). r.name) db → map (λ (h : HeldRelation). h.columns) rs ≡ map (λ (r : Relation). r.columns) db → HaveColumnsOf db (relations_of sources rs)
  have_columns db rs n c = record { each = λ name r e. found_too db rs name r n c e }

-- ---- tests

module _ (of : KeptQuery) (db : List Relation) (start : HeldRows) (can : CanBeOpened of db start) where
  abbrev ds : List Disjunct
  ds = of.disjuncts.items

  abbrev q : Question
  q = question_of of.query.now

  abbrev names : List Identifier
  names = names_of start

  abbrev all_periods : List ℕ
  all_periods = flat_map tested_periods ds ++ read_periods ds db (length db)

  abbrev bs : List Column
  bs = map column_of (reverse can.can.query.raw.head)

  sorted_in : (f : Form) → Contains (listed_disjuncts q) f → IsSortedForm f db bs
  sorted_in f c = disjuncts_sorted db can.can.query.raw can.can.query.sorted f (subst (λ p. Contains (listed_disjuncts p) f) can.can.query.is c)

  literal : (f : Form) → Contains (listed_disjuncts q) f → some_passes is_neither (kept_elements f) ≡ false
  literal = literal_of q can.can.kept

  to_all : (k : ℕ) → Contains (periods q.body db) k → Contains all_periods k
  to_all = periods_to names q ds can.disjuncts can.distinct db (sym can.empty.names) literal

  from_all : (k : ℕ) → Contains all_periods k → Contains (periods q.body db) k
  from_all = periods_from names q ds can.disjuncts can.distinct db (sym can.empty.names) literal

  -- each period is at least 1
  low_rows_periods : (domain : List Text) (cs : List Column) (rows : List Row) → AllByRecursion (CanBeHeld domain cs) rows → AllByRecursion (λ k. 1 ≤ k) (flat_map row_periods rows)
  low_rows_periods domain cs [] h = tt
  low_rows_periods domain cs (row ∷ rows) h = (all_append (λ k. 1 ≤ k) (row_periods row) (flat_map row_periods rows)).1 (low_periods domain cs row.values h.0.values, low_rows_periods domain cs rows h.1)

  low_database : (rs : List Relation) → AllByRecursion (λ (r : Relation). AllByRecursion (CanBeHeld of.domain r.columns) r.rows) rs → AllByRecursion (λ k. 1 ≤ k) (database_periods rs)
  low_database [] h = tt
  low_database (r ∷ rs) h = (all_append (λ k. 1 ≤ k) (flat_map row_periods r.rows) (database_periods rs)).1 (low_rows_periods of.domain r.columns r.rows h.0, low_database rs h.1)

  low_points : AllByRecursion (λ at. 1 ≤ nat_abs at.period) (points q.body)
  low_points = all_by (λ at. 1 ≤ nat_abs at.period) (points q.body) (λ p c. low p.period (all_of (λ at. pos 1 ≤ℤ at.period) (points q.body) p can.can.points c))
    where
      low : (z : ℤ) → pos 1 ≤ℤ z → 1 ≤ nat_abs z
      low z l = omega (arith, ints)

  low_all : AllByRecursion (λ k. 1 ≤ k) (periods q.body db)
  low_all = named_from (λ k. 1 ≤ k) q.body db (low_database db can.can.rows) low_points

  body_period : (o : Option ℕ) → IsPeriodOf all_periods o → IsPeriodOf (periods q.body db) o
  body_period o h = period_from all_periods (periods q.body db) o (all_by (Contains all_periods) (periods q.body db) to_all) (all_by (Contains (periods q.body db)) all_periods from_all) h

  -- ---- the period

  pub period_is : (p : ℕ) → IsPeriodOf all_periods (Some p) → p ≡ period_of db q.body
  period_is p h = least_is (periods q.body db) p (body_period (Some p) h)

  pub period_above : IsPeriodOf all_periods None → 2 ^ 62 < period_of db q.body
  period_above h = above (periods q.body db) low_all (body_period None h)

  module _ (p : ℕ) (least : IsLeastWithinLimit all_periods p) where
    positive : 1 ≤ p
    positive = least.period.low

    high : p ≤ 2 ^ 62
    high = least.period.high

    common : IsCommon all_periods p
    common = (least.multiples p).0 (Divides-self (pos p))

    multiple : (k : ℕ) → Contains all_periods k → IsMultiple k p
    multiple k c = all_of (λ k. IsMultiple k p) all_periods k common c

    test_fits : (d : Disjunct) (t : Test) → Contains ds d → Contains d.tests t → (pos 1 ≤ℤ test_period t) × Divides (test_period t) (pos p)
    test_fits d (Compare l o r) listed c = ((omega (arith, ints)), one_divides (pos p))
    test_fits d (Equal l r) listed c = ((omega (arith, ints)), one_divides (pos p))
    test_fits d (Member term point) listed c =
        let z = zip_of (IsDisjunctOf names) (listed_disjuncts q) ds d can.disjuncts.each listed in
        let low : pos 1 ≤ℤ point.period = all_of (λ at. pos 1 ≤ℤ at.period) (points q.body) point can.can.points (tested_point q z.0 (Member term point) point z.1 (subst (λ l. Contains l (Member term point)) z.2.tests_are c) (contains_first point [])) in
        let m : IsMultiple (nat_abs point.period) p = multiple (nat_abs point.period) (in_left (flat_map tested_periods ds) (read_periods ds db (length db)) (nat_abs point.period) (in_flat tested_periods ds d (nat_abs point.period) listed (in_flat test_periods d.tests (Member term point) (nat_abs point.period) c (contains_first (nat_abs point.period) [])))) in
        (low, subst (λ z. Divides z (pos p)) (abs_is point.period low) m)

    -- the periods of the rows of a relation that is read
    row_multiples : (i : ℕ) (r : Relation) (row : Row) → slice_get db i ≡ Some r → Contains r.rows row → list_any (is_reader i) ds ≡ true → AllByRecursion (λ k. IsMultiple k p) (row_periods row)
    row_multiples i r row at c read = all_by (λ k. IsMultiple k p) (row_periods row) (λ k d. multiple k (in_right (flat_map tested_periods ds) (read_periods ds db (length db)) k
        (read_in ds db (length db) i k (within db i r at) (subst (λ o. Contains (periods_at ds i o) k) (sym at) (subst (λ b. Contains (if b then flat_map row_periods r.rows else []) k) (sym read) (in_flat row_periods r.rows row k c d))))))

    -- ---- the greatest bounds

    module _ (marked : HeldRows) (marks : AreMarkedBy db (length db) start marked) where
      counts : length start.relations.items ≡ length db
      counts = sym (map_count (λ (r : HeldRelation). r.name) start.relations.items) ∙ ap length can.empty.names ∙ map_count (λ (r : Relation). r.name) db

      -- the relation at a place
      pub marked_at : (i : ℕ) (h : HeldRelation) → slice_get marked.relations.items i ≡ Some h → (s : HeldRelation) × (r : Relation) × (slice_get start.relations.items i ≡ Some s) × (slice_get db i ≡ Some r) × (h ≡ record s { most = relation_bound r })
      marked_at i h e =
          let l : i < length marked.relations.items = within marked.relations.items i h e in
          let n : length marked.relations.items ≡ length start.relations.items = marks.count in
          let m = counts in
          let s = found start.relations.items i (omega (arith, l, n)) in
          let r = found db i (omega (arith, l, n, m)) in
          (s.0, r.0, s.1, r.1, some_is h (record s.0 { most = relation_bound r.0 }) (sym e ∙ marks.at i s.0 r.0 (omega (arith, l, n, m)) s.1 r.1))

      named_at : (i : ℕ) (s : HeldRelation) (r : Relation) → slice_get start.relations.items i ≡ Some s → slice_get db i ≡ Some r → (s.name ≡ r.name) × (s.columns ≡ r.columns)
      named_at i s r e f = (
        some_is s.name r.name (sym (mapped_get (λ (h : HeldRelation). h.name) start.relations.items i s e) ∙ ap (λ l. slice_get l i) can.empty.names ∙ mapped_get (λ (r : Relation). r.name) db i r f),
        some_is s.columns r.columns (sym (mapped_get (λ (h : HeldRelation). h.columns) start.relations.items i s e) ∙ ap (λ l. slice_get l i) can.empty.columns ∙ mapped_get (λ (r : Relation). r.columns) db i r f),
      )

      images : {X : Type 0} (f : HeldRelation → X) (g : Relation → X) → ((s : HeldRelation) (r : Relation) → s.name ≡ r.name → s.columns ≡ r.columns → f (record s { most = relation_bound r }) ≡ g r) → map f marked.relations.items ≡ map g db
      images f g go = same_images g f db marked.relations.items (marks.count ∙ counts) (λ i r h e m.
          let x = marked_at i h m in
          let same : x.1 ≡ r = some_is x.1 r (sym x.3 ∙ e) in
          let n = named_at i x.0 x.1 x.2 x.3 in
          ap f x.4 ∙ go x.0 x.1 n.0 n.1 ∙ ap g same)

      pub bounds_are : greatest_bounds marked.relations.items ≡ map relation_bound db
      bounds_are = images (λ (h : HeldRelation). h.most) relation_bound (λ s r a b. refl)

      names_are : names_of marked ≡ map (λ (r : Relation). r.name) db
      names_are = images (λ (h : HeldRelation). h.name) (λ (r : Relation). r.name) (λ s r a b. a)

      columns_are : map (λ (h : HeldRelation). h.columns) marked.relations.items ≡ map (λ (r : Relation). r.columns) db
      columns_are = images (λ (h : HeldRelation). h.columns) (λ (r : Relation). r.columns) (λ s r a b. b)

      same_names : names_of marked ≡ names
      same_names = names_are ∙ sym can.empty.names

      disjuncts_marked : AreDisjunctsOf (names_of marked) q ds
      disjuncts_marked = subst (λ l. AreDisjunctsOf l q ds) (sym same_names) can.disjuncts

      distinct_marked : AreDistinct (names_of marked)
      distinct_marked = subst AreDistinct (sym same_names) can.distinct

      -- none is held
      pub none_marked : (i : ℕ) → keys_of marked i ≡ []
      none_marked i = by (slice_get marked.relations.items i) refl
        where
          by : (o : Option HeldRelation) → slice_get marked.relations.items i ≡ o → keys_of marked i ≡ []
          by None e = ap keys_in e
          by (Some h) e = let x = marked_at i h e in ap keys_in e ∙ ap (λ (r : HeldRelation). r.keys.items) x.4 ∙ (can.empty.none i x.0 x.2).0

      pub held_marked : AreHeldRows marked
      held_marked = record {
        there = λ i k c. absurd (let d : Contains [] k = subst (λ l. Contains l k) (none_marked i) c in let l : d.0 < 0 = d.1 in omega (arith, l));
        once = λ i. subst (λ l. HaveOwnKeys l) (sym (none_marked i)) tt;
      }

      pub size_marked : length marked.relations.items ≡ length db
      size_marked = marks.count ∙ counts

      reach_is : scaled_reach_of (opened of.query.now db of.domain of.cap) ≡ scaled_kept_reach db (map relation_bound db) (period_of db q.body) q
      reach_is = refl

      scaled_marked : scaled_kept_reach db (map relation_bound db) p q ≡ scaled_over (greatest_bounds marked.relations.items) p q.head ds
      scaled_marked =
          ap (λ bs. scaled_kept_reach db bs p q) (sym bounds_are)
          ∙ scaled_named (relations_of (get marked.sources) marked.relations.items) db (greatest_bounds marked.relations.items) p q (sym names_are ∙ sym (names_in (get marked.sources) marked.relations.items))
          ∙ scaled_is marked p q ds distinct_marked disjuncts_marked

      pub above_cause : 2 ^ 62 < scaled_over (greatest_bounds marked.relations.items) p of.query.now.head.columns ds → IsPastLimit (opened of.query.now db of.domain of.cap) BoundLimit
      above_cause l = (subst (λ n. n ≤ 2 ^ 62) (period_is p least) high, subst (λ n. 2 ^ 62 < scaled_kept_reach db (map relation_bound db) n q) (period_is p least) (subst (λ n. 2 ^ 62 < n) (sym scaled_marked) l))

      module _ (reach : scaled_over (greatest_bounds marked.relations.items) p of.query.now.head.columns ds ≤ 2 ^ 62) where
        some_atoms : (d : Disjunct) → Contains ds d → 0 < length d.atoms.items
        some_atoms d listed = let z = zip_of (IsDisjunctOf names) (listed_disjuncts q) ds d can.disjuncts.each listed in some_joined names z.0 d z.2 (conjunctive_of q can.can.kept z.0 z.1)

        room : (d : Disjunct) (a : JoinedAtom) → Contains ds d → Contains d.atoms.items a → joined_reach (greatest_bounds marked.relations.items) p a ≤ 2 ^ 62
        room d a listed own =
            let some = some_atoms d listed in
            at_most (greatest_bounds marked.relations.items) p of.query.now.head.columns ds reach d listed some (joined_reach (greatest_bounds marked.relations.items) p a) (atom_room (greatest_bounds marked.relations.items) p of.query.now.head.columns ds reach d listed some a own)

        count : (d : Disjunct) (a : JoinedAtom) (h : HeldRelation) → Contains ds d → Contains d.atoms.items a → slice_get marked.relations.items a.relation ≡ Some h → length a.terms ≡ length h.columns
        count d a h listed own at = joined_count marked q ds bs disjuncts_marked distinct_marked
            (λ f c. same_form db (relations_of (get marked.sources) marked.relations.items) (have_columns (get marked.sources) db marked.relations.items names_are columns_are) f bs (sorted_in f c)) literal d a h listed own at

        narrow : (f : Form) → Contains (listed_disjuncts q) f → IsNarrow (free_each (kept_elements f))
        narrow f c = fits_elements IsNarrow f (disjunct_narrow db can.can.query.raw can.can.query.sorted f (subst (λ p. Contains (listed_disjuncts p) f) can.can.query.is c)) (literal f c)

        reads_own : (d : Disjunct) (a : JoinedAtom) → Contains ds d → Contains d.atoms.items a → list_any (is_reader a.relation) ds ≡ true
        reads_own d a listed own = any_at (is_reader a.relation) ds d listed (any_at (λ (j : JoinedAtom). j.relation == a.relation) d.atoms.items a own (equal_self a.relation))

        fits_at : (i : ℕ) (r : Relation) → slice_get db i ≡ Some r → AllByRecursion (CanBeHeld of.domain r.columns) r.rows
        fits_at i r at = all_of (λ (r : Relation). AllByRecursion (CanBeHeld of.domain r.columns) r.rows) db r can.can.rows (Contains-from_get db i r at)

        -- each row can be sketched
        pub can_sketch_all : (i : ℕ) (r : Relation) → slice_get db i ≡ Some r → AllByRecursion (CanBeSketched ds i) r.rows
        can_sketch_all i r at = all_by (CanBeSketched ds i) r.rows (λ row c d a listed own e.
            let z = zip_of (IsDisjunctOf names) (listed_disjuncts q) ds d can.disjuncts.each listed in
            let place = place_in d.atoms.items a own in
            let j = can_be_joined names z.0 d z.2 (literal z.0 z.1) place.0 a place.1 (ground_at of marked p) (narrow z.0 z.1) (λ t k. test_fits d t listed k) in
            let h = found marked.relations.items i (let l : i < length db = within db i r at in let n = size_marked in omega (arith, l, n)) in
            let x = marked_at i h.0 h.1 in
            let same : x.1 ≡ r = some_is x.1 r (sym x.3 ∙ at) in
            let n = named_at i x.0 x.1 x.2 x.3 in
            let columns : h.0.columns ≡ r.columns = ap (λ (y : HeldRelation). y.columns) x.4 ∙ n.1 ∙ ap (λ (y : Relation). y.columns) same in
            let most : h.0.most ≡ relation_bound r = ap (λ (y : HeldRelation). y.most) x.4 ∙ ap relation_bound same in
            let l : row_bound row ≤ relation_bound r = below_greatest row_bound r.rows row c in
            let m : slice_index_or (greatest_bounds marked.relations.items) a.relation 0 ≡ h.0.most = ap (λ n. slice_index_or (greatest_bounds marked.relations.items) n 0) e ∙ most_at marked.relations.items i h.0 h.1 in
            let k : joined_reach (greatest_bounds marked.relations.items) p a ≤ 2 ^ 62 = room d a listed own in
            record {
              few_times = j.few_times;
              few_texts = j.few_texts;
              times = j.times_known;
              texts = j.texts_known;
              read = can_be_read of.domain r.columns row a.terms p (all_of (CanBeHeld of.domain r.columns) r.rows row (fits_at i r at) c) (count d a h.0 listed own (ap (slice_get marked.relations.items) e ∙ h.1) ∙ ap length columns) positive high
                  (row_multiples i r row at c (subst (λ n. list_any (is_reader n) ds ≡ true) e (reads_own d a listed own))) (omega (arith, l, m, k, most));
            })

        -- ---- all rows are held

        module _ (filled : HeldRows) (all : AreAllHeld of db (length db) marked filled) where
          filled_at : (i : ℕ) (s : HeldRelation) → slice_get filled.relations.items i ≡ Some s → (h : HeldRelation) × (r : Relation) × (slice_get marked.relations.items i ≡ Some h) × (slice_get db i ≡ Some r) × HasRowsFilled (get filled.sources) r.rows h s
          filled_at i s e =
              let l : i < length filled.relations.items = within filled.relations.items i s e in
              let n : length filled.relations.items ≡ length marked.relations.items = all.count in
              let m : length marked.relations.items ≡ length db = size_marked in
              let h = found marked.relations.items i (omega (arith, l, n)) in
              let r = found db i (omega (arith, l, n, m)) in
              let x = all.at i h.0 r.0 (omega (arith, l, n, m)) h.1 r.1 in
              (h.0, r.0, h.1, r.1, subst (λ t. HasRowsFilled (get filled.sources) r.0.rows h.0 t) (some_is x.0 s (sym x.1 ∙ e)) x.2)

          abbrev relation_as : Identifier → List Column → List Row → Relation
          relation_as name columns rows = record { name = name; columns = columns; rows = rows }

          as_relation : (a b : Identifier) (c d : List Column) (k l : List Row) → a ≡ b → c ≡ d → k ≡ l → relation_as a c k ≡ relation_as b d l
          as_relation a b c d k l e f g = ap (λ x. relation_as x c k) e ∙ ap (λ x. relation_as b x k) f ∙ ap (λ x. relation_as b d x) g

          pub relations_are : relations_of (get filled.sources) filled.relations.items ≡ db
          relations_are = same_images (λ (r : Relation). r) (held_relation (get filled.sources)) db filled.relations.items (all.count ∙ size_marked) (λ i r s e f.
              let x = filled_at i s f in
              let y = marked_at i x.0 x.2 in
              let n = named_at i y.0 y.1 y.2 y.3 in
              let same : x.1 ≡ r = some_is x.1 r (sym x.3 ∙ e) in
              let again : y.1 ≡ r = some_is y.1 r (sym y.3 ∙ e) in
              as_relation s.name r.name s.columns r.columns (rows_under (get filled.sources) s.keys.items) r.rows
              (x.4.name ∙ ap (λ (t : HeldRelation). t.name) y.4 ∙ n.0 ∙ ap (λ (t : Relation). t.name) again)
              (x.4.columns ∙ ap (λ (t : HeldRelation). t.columns) y.4 ∙ n.1 ∙ ap (λ (t : Relation). t.columns) again)
              (x.4.under ∙ ap (λ (t : Relation). t.rows) same)) ∙ map-id db

          pub bounds_filled : greatest_bounds filled.relations.items ≡ greatest_bounds marked.relations.items
          bounds_filled = same_images (λ (h : HeldRelation). h.most) (λ (h : HeldRelation). h.most) marked.relations.items filled.relations.items all.count (λ i h s e f. let x = filled_at i s f in x.4.most ∙ ap (λ (t : HeldRelation). t.most) (some_is x.0 h (sym x.2 ∙ e)))

          names_filled : names_of filled ≡ names
          names_filled = same_images (λ (h : HeldRelation). h.name) (λ (h : HeldRelation). h.name) marked.relations.items filled.relations.items all.count (λ i h s e f. let x = filled_at i s f in x.4.name ∙ ap (λ (t : HeldRelation). t.name) (some_is x.0 h (sym x.2 ∙ e))) ∙ same_names

          disjuncts_filled : AreDisjunctsOf (names_of filled) q ds
          disjuncts_filled = subst (λ l. AreDisjunctsOf l q ds) (sym names_filled) can.disjuncts

          distinct_filled : AreDistinct (names_of filled)
          distinct_filled = subst AreDistinct (sym names_filled) can.distinct

          -- a row under a key is one of the database
          row_in : (i key : ℕ) (s : HeldRelation) (source : HeldRow) → slice_get filled.relations.items i ≡ Some s → Contains s.keys.items key → get filled.sources key ≡ Some source → (r : Relation) × (slice_get db i ≡ Some r) × Contains r.rows source.row × (s.most ≡ relation_bound r) × (s.columns ≡ r.columns)
          row_in i key s source e c held =
              let x = filled_at i s e in
              let y = marked_at i x.0 x.2 in
              let same : y.1 ≡ x.1 = some_is y.1 x.1 (sym y.3 ∙ x.3) in
              let n = named_at i y.0 y.1 y.2 y.3 in
              (x.1, x.3, subst (λ l. Contains l source.row) x.4.under (row_of_key (get filled.sources) s.keys.items key source c held), x.4.most ∙ ap (λ (t : HeldRelation). t.most) y.4 ∙ ap relation_bound same, x.4.columns ∙ ap (λ (t : HeldRelation). t.columns) y.4 ∙ n.1 ∙ ap (λ (t : Relation). t.columns) same)

          low_filled : AreLowRows filled
          low_filled i key s source e c held = let x = row_in i key s source e c held in subst (λ n. row_bound source.row ≤ n) (sym x.3) (below_greatest row_bound x.0.rows source.row x.2)

          high_filled : scaled_over (greatest_bounds filled.relations.items) p of.query.now.head.columns ds ≤ 2 ^ 62
          high_filled = subst (λ bs. scaled_over bs p of.query.now.head.columns ds ≤ 2 ^ 62) (sym bounds_filled) reach

          pub can_opened : CanDeriveEach (ground_at of filled p) ds
          can_opened i d at =
              let listed : Contains ds d = Contains-from_get ds i d at in
              let z = zip_of (IsDisjunctOf (names_of filled)) (listed_disjuncts q) ds d disjuncts_filled.each listed in
              let inside : Contains (listed_disjuncts (plain_question can.can.query.raw)) z.0 = subst (λ p. Contains (listed_disjuncts p) z.0) can.can.query.is z.1 in
              can_derive (names_of filled) z.0 d z.2 (conjunctive_of q can.can.kept z.0 z.1) (literal z.0 z.1) (ground_at of filled p) (greatest_bounds filled.relations.items) ds listed high_filled
              (omega (arith, positive)) (let n : length (names_of filled) ≡ length filled.relations.items = map_count (λ (h : HeldRelation). h.name) filled.relations.items in omega (arith, n)) (narrow z.0 z.1) (λ t k. test_fits d t listed k)
              (record {
                own = subst (λ (p : Question). HaveDistinctNames p.head) (sym can.can.query.is) (head_named db can.can.query.raw can.can.query.sorted);
                few_times = subst (λ (p : Question). length (head_times p.head) ≤ 8) (sym can.can.query.is) (few_head_times db can.can.query.raw can.can.query.sorted);
                few_texts = subst (λ (p : Question). length (head_texts p.head) ≤ 8) (sym can.can.query.is) (few_head_texts db can.can.query.raw can.can.query.sorted);
                known = λ w k. subst (λ (p : Question). Contains (head_variables p.head) w) (sym can.can.query.is) (disjunct_in_head db can.can.query.raw can.can.query.sorted z.0 inside w k);
                occur = head_occurs q can.can.kept z.0 z.1;
                apart = λ c b k l. other_names z.0 db bs (sorted_in z.0 z.1) c b (in_turned can.can.query.raw.head c (subst (λ (p : Question). Contains p.head c) can.can.query.is k)) l;
              })
              (λ j a key e c. readable_in d listed j a key e c)
            where
              readable_in : (d : Disjunct) → Contains ds d → (j : ℕ) (a : JoinedAtom) (key : ℕ) → slice_get d.atoms.items j ≡ Some a → Contains (keys_of filled a.relation) key → IsReadable (ground_at of filled p) (greatest_bounds filled.relations.items) d j a key
              readable_in d listed j a key e c =
                  let own : Contains d.atoms.items a = Contains-from_get d.atoms.items j a e in
                  let x = all.sketched a.relation key c in
                  by (slice_get filled.relations.items a.relation) refl
                where
                  by : (o : Option HeldRelation) → slice_get filled.relations.items a.relation ≡ o → IsReadable (ground_at of filled p) (greatest_bounds filled.relations.items) d j a key
                  by None none = absurd (let d : Contains [] key = subst (λ o. Contains (keys_in o) key) none c in let l : d.0 < 0 = d.1 in omega (arith, l))
                  by (Some s) at =
                      let own : Contains d.atoms.items a = Contains-from_get d.atoms.items j a e in
                      let x = all.sketched a.relation key c in
                      let r = row_in a.relation key s x.source at (subst (λ o. Contains (keys_in o) key) at c) x.is in
                      let f = filled_at a.relation s at in
                      let terms : length a.terms ≡ length r.0.columns = count d a f.0 listed own f.2 ∙ ap length (sym f.4.columns ∙ r.4) in
                      readable (ground_at of filled p) ds can.disjuncts.numbered low_filled positive high d listed j a key x.source r.0.columns e c x.is
                      (all_of (CanBeHeld of.domain r.0.columns) r.0.rows x.source.row (fits_at a.relation r.0 r.1) r.2) terms
                      (row_multiples a.relation r.0 x.source.row r.1 r.2 (reads_own d a listed own))
                      (subst (λ bs. joined_reach bs p a ≤ 2 ^ 62) (sym bounds_filled) (room d a listed own)) x.sketches

          period_high : period_of db q.body ≤ 2 ^ 62
          period_high = subst (λ n. n ≤ 2 ^ 62) (period_is p least) high

          reach_opened : scaled_reach_of (opened of.query.now db of.domain of.cap) ≤ 2 ^ 62
          reach_opened = subst (λ n. scaled_kept_reach db (map relation_bound db) n q ≤ 2 ^ 62) (period_is p least) (subst (λ n. n ≤ 2 ^ 62) (sym scaled_marked) reach)

          pub large_cause : HasSomeLargePart (ground_at of filled p) ds → IsPastLimit (opened of.query.now db of.domain of.cap) TooManyCells
          large_cause h = (
            period_high,
            reach_opened,
            subst (λ n. HasLargeChoice db q of.domain n of.cap) (period_is p least) (subst (λ rs. HasLargeChoice rs q of.domain p of.cap) relations_are (large_choice (ground_at of filled p) q ds disjuncts_filled distinct_filled all.held h)),
          )

          module _ (s : State) (rows_are : s.rows ≡ filled) (number_is : s.period.number ≡ p) (derived : AreDerived (ground_at of filled p) ds (levels_of s)) where
            pub view_opened : keeper_view of s ≡ opened of.query.now db of.domain of.cap
            view_opened =
                ap (λ rs. record { query = of.query.now; domain = of.domain; cap = of.cap; relations = rs; period = s.period.number; bounds = greatest_bounds s.rows.relations.items }) (ap (λ (r : HeldRows). relations_of (get r.sources) r.relations.items) rows_are ∙ relations_are)
                ∙ ap (λ n. record { query = of.query.now; domain = of.domain; cap = of.cap; relations = db; period = n; bounds = greatest_bounds s.rows.relations.items }) (number_is ∙ period_is p least)
                ∙ ap (λ bs. record { query = of.query.now; domain = of.domain; cap = of.cap; relations = db; period = period_of db q.body; bounds = bs }) (ap (λ (r : HeldRows). greatest_bounds r.relations.items) rows_are ∙ bounds_filled ∙ bounds_are)

            pub limits_opened : StaysWithinLimits (opened of.query.now db of.domain of.cap)
            limits_opened = record {
              period = period_high;
              reach = reach_opened;
              cells = λ large. no_large_choice (ground_at of filled p) q ds disjuncts_filled distinct_filled all.held (levels_of s) derived
                  (subst (λ rs. HasLargeChoice rs q of.domain p of.cap) (sym relations_are) (subst (λ n. HasLargeChoice db q of.domain n of.cap) (sym (period_is p least)) large));
            }

            relations_now : (keeper_view of s).relations ≡ db
            relations_now = ap (λ (r : HeldRows). relations_of (get r.sources) r.relations.items) rows_are ∙ relations_are

            pub keeper_opened : IsKeeper of s
            keeper_opened = record {
              keeping = record {
                state = record {
                  rows = subst AreHeldRows (sym rows_are) all.held;
                  disjuncts = subst (λ (r : HeldRows). AreDisjunctsOf (names_of r) q ds) (sym rows_are) disjuncts_filled;
                  can = λ i d at. subst (λ (r : HeldRows). CanDerive (ground_at of r s.period.number) d) (sym rows_are) (subst (λ n. CanDerive (ground_at of filled n) d) (sym number_is) (can_opened i d at));
                  derived = subst (λ (r : HeldRows). AreDerived (ground_at of r s.period.number) ds (levels_of s)) (sym rows_are) (subst (λ n. AreDerived (ground_at of filled n) ds (levels_of s)) (sym number_is) derived);
                };
                query = record { db = db; query = can.can.query; columns = subst (λ rs. HaveColumnsOf db rs) (sym relations_now) (record { each = λ name r e. (r, e, refl) }) };
                kept = can.can.kept;
                distinct = subst (λ (r : HeldRows). AreDistinct (names_of r)) (sym rows_are) distinct_filled;
                ascends = can.ascends;
                known = subst (λ rs. AllByRecursion (Contains of.domain) (constants rs q)) (sym relations_now) can.can.known;
                rows = subst (λ rs. AllByRecursion (λ (r : Relation). AllByRecursion (CanBeHeld of.domain r.columns) r.rows) rs) (sym relations_now) can.can.rows;
                low = subst AreLowRows (sym rows_are) low_filled;
              };
              reach = subst (λ k. scaled_reach_of k ≤ 2 ^ 62) (sym view_opened) reach_opened;
            }
