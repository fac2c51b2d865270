-- A row more: what can be derived with it, what the keeper then stands for, and what a refusal leaves.
use Rattle.std.proofs.Common.{◌≡◌, ◌≢◌, ◌<◌, ◌≤◌, ◌+◌, ◌*◌, ◌^◌, ◌-◌, ℕ, suc, true, List, [], ◌∷◌, ◌++◌, length, map, Contains, Option, Some, inl, inr, refl, sym, ap, ap₂, subst, ◌∙◌, append-nil, length-append, get_or, arith}
use Rattle.std.specs.Prelude.{◌==◌, reverse, slice_get, slice_index_or}
use Rattle.std.specs.List.{AllByRecursion, list_any}
use Rattle.slab.specs.Slab.{get}
use Rattle.lrp_model.specs.DatabaseMeaning.{column_of}
use Rattle.lrp_model.specs.Domains.{constants}
use Rattle.lrp_model.specs.Formulas.{Question, question_of}
use Rattle.lrp_theory.specs.Divides.{IsMultiple}
use Rattle.lrp_model.specs.Periods.{row_periods}
use Rattle.lrp_model.specs.Sorts.{time_count}
use Rattle.lrp_model.specs.Rows.{relation_named, rows_in, rows_of}
use Rattle.lrp_model.specs.Texts.{AreDistinct, Identifier}
use Rattle.lrp_model.specs.declared.relations.Relation.{Relation}
use Rattle.lrp_model.specs.declared.relations.Row.{Row}
use Rattle.lrp_model.proofs.Decided.{cons_cases}
use Rattle.lrp_plan_laws.proofs.Members.{all_by, all_of, in_one}
use Rattle.lrp_zone.proofs.Cases.{eq_or}
use Rattle.lrp_tables.specs.Calls.{tests_reach}
use Rattle.lrp_kept.specs.Choices.{HasLargeChoicePart as HasLargeChoice}
use Rattle.lrp_kept.specs.Disjuncts.{AreDisjunctsOf}
use Rattle.lrp_kept.specs.Held.{AreLowRows, greatest_bounds, names_of, held_relation, relations_of, held_row}
use Rattle.lrp_kept.specs.Keyed.{AreHeldRows, AreRelisted, IsHeldAfter, IsLetGoAt}
use Rattle.lrp_kept.specs.Keys.{keys_of}
use Rattle.lrp_kept.specs.Limits.{row_bound, scaled_kept_reach}
use Rattle.lrp_kept.specs.SortedForms.{HaveColumnsOf}
use Rattle.lrp_kept.specs.Sizes.{is_reader, joined_reach, scaled_over}
use Rattle.lrp_kept.specs.declared.disjuncts.Disjunct.{Disjunct}
use Rattle.lrp_kept.specs.declared.disjuncts.JoinedAtom.{JoinedAtom}
use Rattle.lrp_kept.specs.declared.rows.HeldRelation.{HeldRelation}
use Rattle.lrp_kept.specs.declared.rows.HeldRows.{HeldRows}
use Rattle.lrp_kept.specs.declared.rows.HeldRow.{HeldRow}
use Rattle.lrp_limits.specs.declared.periods.Period.{Period}
use Rattle.lrp_kept.proofs.Room.{at_most, atom_room, tests_room}
use Rattle.lrp_kept.proofs.SameReach.{kept_reach_is}
use Rattle.lrp_parts.specs.Derivations.{AreReleased, CanBeReadBy, CanDerive, Ground, IsDerivedFrom, IsLastKey, IsWithoutKey}
use Rattle.lrp_parts.proofs.KeyedRows.{found_at}
use Rattle.lrp_parts.proofs.Rekeyed.{held_last, held_rows, held_without, keys_here, let_go_rows, let_go_without}
use Rattle.lrp_parts.proofs.Without.{derived_after, derived_before}
use Rattle.lrp_keep.specs.Keeps.{CanBeHeld, scaled_reach_of, with_row, StaysWithinLimits}
use Rattle.lrp_keep.specs.States.{CanBeHeldIn, CanDeriveEach, HasSomeLargePart, IsHoldingCause, IsKeeper, IsKeeping, IsLetGoFrom, IsStillState, ground_at, levels_of, keeper_view, with_held}
use Rattle.lrp_kept.specs.Sketches.{AreSketchesOf, CanBeSketched}
use Rattle.lrp_keep.specs.Unions.{AreDerived, AreDerivedBut, RemainWithout}
use Rattle.lrp_keep.specs.Replaced.{replaced}
use Rattle.lrp_keep.specs.declared.faults.KeepFault.TheVariants.{BoundLimit, TooManyCells}
use Rattle.lrp_keep.specs.declared.kept_query.KeptQuery.{KeptQuery}
use Rattle.lrp_keep.specs.declared.states.State.{State}
use Rattle.lrp_keep.proofs.Alike.{keys_at, relisted_alike, relisted_twice}
use Rattle.lrp_keep.proofs.Counted.{joined_count}
use Rattle.lrp_keep.proofs.HeadRoom.{near_tests}
use Rattle.lrp_keep.proofs.Deriving.{IsReadable, read_by}
use Rattle.lrp_keep.proofs.Exchanged.{all_fit, columns_stay, have_still, keeps_name, known_still}
use Rattle.lrp_keep.proofs.KeeperAnswers.{rests}
use Rattle.lrp_keep.proofs.KeptParts.{literal_of, scaled_named}
use Rattle.lrp_keep.proofs.LargeChoices.{large_choice, no_large_choice}
use Rattle.lrp_keep.proofs.Lists.{any_at, at_mapped, equal_self, read_at, same_images}
use Rattle.lrp_keep.proofs.LowRows.{low_rows, most_at}
use Rattle.lrp_keep.proofs.Readable.{can_be_read, carried_further, divides_further, readable}
use Rattle.lrp_keep.proofs.Views.{names_stay, relations_now, rows_both, rows_same, rows_under}
use Rattle.lrp_holdings.proofs.Chained.{none_some, some_is}
use Rattle.lrp_plan_laws.proofs.Elements.{found as some_at, within}
use Rattle.lrp_store.proofs.Held.{Contains-from_get}
use Rattle.lrp_tables.proofs.Joining.{place_in}
use Rattle.lrp_model.proofs.Everywhere.{map_count}
use Rattle.lrp_steps.proofs.Steps.{mapped_get}

-- the names of the relations are those of the view
pub names_in : (sources : ℕ → Option HeldRow) (rs : List HeldRelation) → map (λ (r : Relation). r.name) (relations_of sources rs) ≡ map (λ (r : HeldRelation). r.name) rs
names_in sources [] = refl
names_in sources (r ∷ rs) = ap (λ ns. r.name ∷ ns) (names_in sources rs)

-- a relation with other rows has its name
pub names_replaced : (db : List Relation) (name : Identifier) (rows : List Row) → map (λ (r : Relation). r.name) (replaced db name rows) ≡ map (λ (r : Relation). r.name) db
names_replaced [] name rows = refl
names_replaced (r ∷ db) name rows = ap₂ (λ n ns. n ∷ ns) (keeps_name rows name r) (names_replaced db name rows)

-- the reach by the rows that are held
pub scaled_is : (rows : HeldRows) (period : ℕ) (q : Question) (ds : List Disjunct) → AreDistinct (names_of rows) → AreDisjunctsOf (names_of rows) q ds → scaled_kept_reach (relations_of (get rows.sources) rows.relations.items) (greatest_bounds rows.relations.items) period q ≡ scaled_over (greatest_bounds rows.relations.items) period q.head ds
scaled_is rows period q ds distinct are = ap (λ n. 2 ^ (time_count q.head + 1) * n) (kept_reach_is (get rows.sources) rows.relations.items distinct period q ds are)

-- a list with one element more, split at its end
ends : (xs front back : List ℕ) (x y : ℕ) → xs ++ x ∷ [] ≡ front ++ y ∷ back → length front ≡ length xs → (front ≡ xs) × (y ≡ x) × (back ≡ [])
ends [] [] back x y e l = (refl, (let s : y ≡ x = cc in s), (let s : back ≡ [] = cc in s))
ends [] (f ∷ front) back x y e l = absurd (let k : suc (length front) ≡ 0 = l in omega (arith, k))
ends (z ∷ xs) [] back x y e l = absurd (let k : 0 ≡ suc (length xs) = l in omega (arith, k))
ends (z ∷ xs) (f ∷ front) back x y e l =
    let head : f ≡ z = cc in
    let tail : xs ++ x ∷ [] ≡ front ++ y ∷ back = cc in
    let r = ends xs front back x y tail (let k : suc (length front) ≡ suc (length xs) = l in omega (arith, k)) in
    (ap₂ (λ a b. a ∷ b) head r.0, r.1, r.2)

module _ (of : KeptQuery) (old : State) (is : IsKeeping of old) (relation : ℕ) (row : Row) (period : ℕ) (fits : CanBeHeldIn of old relation row period) (positive : 1 ≤ period) (high : period ≤ 2 ^ 62) where
  abbrev ds : List Disjunct
  ds = of.disjuncts.items

  abbrev q : Question
  q = question_of of.query.now

  abbrev bounds : List ℕ
  bounds = greatest_bounds old.rows.relations.items

  abbrev db : List Relation
  db = relations_of (get old.rows.sources) old.rows.relations.items

  low : relation < length old.rows.relations.items
  low = within old.rows.relations.items relation fits.held fits.at

  named : (name : Identifier) → slice_get (names_of old.rows) relation ≡ Some name → fits.held.name ≡ name
  named name e = let m = at_mapped (λ (r : HeldRelation). r.name) old.rows.relations.items relation name e in ap (λ (r : HeldRelation). r.name) (some_is fits.held m.0 (sym fits.at ∙ m.1)) ∙ m.2

  read : (d : Disjunct) (a : JoinedAtom) → Contains ds d → Contains d.atoms.items a → a.relation ≡ relation → list_any (is_reader relation) ds ≡ true
  read d a listed own e = any_at (is_reader relation) ds d listed (any_at (λ (j : JoinedAtom). j.relation == relation) d.atoms.items a own (subst (λ n. (n == relation) ≡ true) (sym e) (equal_self relation)))

  count : (d : Disjunct) (a : JoinedAtom) → Contains ds d → Contains d.atoms.items a → a.relation ≡ relation → length a.terms ≡ length fits.held.columns
  count d a listed own e = joined_count old.rows q ds (map column_of (reverse is.query.query.raw.head)) is.state.disjuncts is.distinct (rests of old is).sorted (literal_of q is.kept) d a fits.held listed own (ap (slice_get old.rows.relations.items) e ∙ fits.at)

  -- the reach of what the relation's rows and tests make is passed
  pub above_cause : 2 ^ 62 < scaled_over bounds period of.query.now.head.columns ds → IsHoldingCause of old relation row period BoundLimit
  above_cause l = record {
    cause = λ name e.
        (high, subst (λ n. 2 ^ 62 < n) (sym (scaled_named db (with_row db name row) bounds period q (names_replaced db name (rows_of db name ++ row ∷ [])) ∙ scaled_is old.rows period q ds is.distinct is.state.disjuncts)) l);
  }

  module _ (reach : scaled_over bounds period of.query.now.head.columns ds ≤ 2 ^ 62) where
    can_of : (d : Disjunct) → Contains ds d → CanDerive (ground_at of old.rows old.period.number) d
    can_of d listed = let p = place_in ds d listed in is.state.can p.0 d p.1

    room : (d : Disjunct) (a : JoinedAtom) → Contains ds d → Contains d.atoms.items a → joined_reach bounds period a ≤ 2 ^ 62
    room d a listed own =
        let some = (can_of d listed).some in
        at_most bounds period of.query.now.head.columns ds reach d listed some (joined_reach bounds period a) (atom_room bounds period of.query.now.head.columns ds reach d listed some a own)

    -- each atom of the relation can read the row
    pub can_sketch : CanBeSketched ds relation row
    can_sketch d a listed own e =
        let p = place_in d.atoms.items a own in
        let j = (can_of d listed).joined p.0 a p.1 in
        let l : row_bound row ≤ fits.held.most = fits.low in
        let m : slice_index_or bounds a.relation 0 ≡ fits.held.most = ap (λ n. slice_index_or bounds n 0) e ∙ most_at old.rows.relations.items relation fits.held fits.at in
        let r : joined_reach bounds period a ≤ 2 ^ 62 = room d a listed own in
        record {
          few_times = j.few_times;
          few_texts = j.few_texts;
          times = j.times_known;
          texts = j.texts_known;
          read = can_be_read of.domain fits.held.columns row a.terms period fits.row_fits (count d a listed own e) positive high (fits.periods (read d a listed own e)) (omega (arith, l, m, r));
        }

    module _ (new : HeldRows) (key : ℕ) (source : HeldRow) (relation_is : source.relation ≡ relation) (row_is : source.row ≡ row) (sketches : AreSketchesOf of.domain ds relation row source.sketches.items) (w : IsHeldAfter source key old.rows new) where
      own_low : source.relation < length old.rows.relations.items
      own_low = subst (λ n. n < length old.rows.relations.items) (sym relation_is) low

      without : IsWithoutKey new old.rows key
      without = held_without source key old.rows new own_low is.state.rows w

      listed_now : AreRelisted relation (keys_of old.rows relation ++ key ∷ []) old.rows.relations.items new.relations.items
      listed_now = subst (λ n. AreRelisted n (keys_of old.rows n ++ key ∷ []) old.rows.relations.items new.relations.items) relation_is w.listed

      pub held_new : AreHeldRows new
      held_new = held_rows source key old.rows new own_low is.state.rows w

      pub last_now : (p : ℕ) → IsLastKey (ground_at of new p) relation key
      last_now p = subst (λ n. IsLastKey (ground_at of new p) n key) relation_is (held_last source key old.rows new own_low is.state.rows w (ground_at of old.rows p))

      pub derived_without : AreDerivedBut (ground_at of new old.period.number) ds key (levels_of old)
      derived_without = record {
        count = is.state.derived.count;
        each = λ i d levels at there. (derived_before (ground_at of new old.period.number) old.rows key without d levels (is.state.derived.each i d levels at there)).0;
        none = λ i levels there.
            let d = some_at ds i (let l : i < length (levels_of old) = within (levels_of old) i levels there in let n : length (levels_of old) ≡ length ds = is.state.derived.count in omega (arith, l, n)) in
            (derived_before (ground_at of new old.period.number) old.rows key without d.0 levels (is.state.derived.each i d.0 levels d.1 there)).1;
      }

      pub low_new : relation < length new.relations.items
      low_new = let n : length new.relations.items ≡ length old.rows.relations.items = listed_now.count in omega (arith, low, n)

      keys_now : keys_of new relation ≡ keys_of old.rows relation ++ key ∷ []
      keys_now = keys_here relation (keys_of old.rows relation ++ key ∷ []) old.rows new listed_now low

      -- the key stands last
      pub keys_count : length (keys_of new relation) ≡ length (keys_of old.rows relation) + 1
      keys_count = ap length keys_now ∙ length-append (keys_of old.rows relation) (key ∷ [])

      -- so the relation that is read there has one key at least, and the last place is that of the key
      pub last_place : (rows : HeldRows) → rows ≡ new → (h : HeldRelation) → h ≡ get_or rows.relations.items relation h → (n : ℕ) → n ≡ length h.keys.items → (1 ≤ n) × (n - 1 < length (keys_of rows relation)) × (n - 1 ≡ length (keys_of new relation) - 1)
      last_place rows e h is n count =
          let l : relation < length new.relations.items = low_new in
          let m : length rows.relations.items ≡ length new.relations.items = ap (λ (r : HeldRows). length r.relations.items) e in
          let at = read_at rows.relations.items relation h (omega (arith, l, m)) is in
          let own : length (keys_of rows relation) ≡ length h.keys.items = ap length (keys_at rows relation h at) in
          let same : length (keys_of rows relation) ≡ length (keys_of new relation) = ap (λ r. length (keys_of r relation)) e in
          let size : length (keys_of new relation) ≡ length (keys_of old.rows relation) + 1 = keys_count in
          (omega (arith, count, own, same, size), omega (arith, count, own, same, size), omega (arith, count, own, same, size))

      names_now : names_of new ≡ names_of old.rows
      names_now = names_stay old.rows new relation (keys_of old.rows relation ++ key ∷ []) listed_now

      bounds_now : greatest_bounds new.relations.items ≡ bounds
      bounds_now =
          let a = relisted_alike (λ h s. s.most ≡ h.most) relation (keys_of old.rows relation ++ key ∷ []) old.rows.relations.items new.relations.items listed_now (λ h. refl) (λ h s at x. x.most) in
          same_images (λ (h : HeldRelation). h.most) (λ (h : HeldRelation). h.most) old.rows.relations.items new.relations.items a.count a.each

      -- no row has a bound above its relation's number
      pub low_now : AreLowRows new
      low_now i k r s at c e =
          let h = some_at old.rows.relations.items i (let l : i < length new.relations.items = within new.relations.items i r at in let n : length new.relations.items ≡ length old.rows.relations.items = listed_now.count in omega (arith, l, n)) in
          let a = relisted_alike (λ h s. s.most ≡ h.most) relation (keys_of old.rows relation ++ key ∷ []) old.rows.relations.items new.relations.items listed_now (λ h. refl) (λ h s at x. x.most) in
          let same : r.most ≡ h.0.most = a.each i h.0 r h.1 at in
          let here : Contains (keys_of new i) k = subst (λ l. Contains l k) (sym (keys_at new i r at)) c in
          subst (λ n. row_bound s.row ≤ n) (sym same) (elim (eq_or k key) [
            | inl same_key ↦
                let place : i ≡ relation = (last_now 0).alone i (subst (λ x. Contains (keys_of new i) x) same_key here) in
                let held : h.0 ≡ fits.held = some_is h.0 fits.held (sym h.1 ∙ ap (slice_get old.rows.relations.items) place ∙ fits.at) in
                let own : s ≡ source = some_is s source (sym e ∙ ap (get new.sources) same_key ∙ w.there) in
                subst (λ (x : HeldRelation). row_bound s.row ≤ x.most) (sym held) (subst (λ r. row_bound r ≤ fits.held.most) (sym (ap (λ (x : HeldRow). x.row) own ∙ row_is)) fits.low)
            | inr other ↦
                let was : Contains (keys_of old.rows i) k = without.from i k here other in
                is.low i k h.0 s h.1 (subst (λ l. Contains l k) (keys_at old.rows i h.0 h.1) was) (without.sources k other ∙ e)
          ])

      -- each disjunct can be derived in cells of the new period
      pub can_now : CanDeriveEach (ground_at of new period) ds
      can_now i d at =
          let can = is.state.can i d at in
          let listed : Contains ds d = Contains-from_get ds i d at in
          let g : Ground = ground_at of new period in
          let high_now : scaled_over (greatest_bounds new.relations.items) period of.query.now.head.columns ds ≤ 2 ^ 62 = subst (λ bs. scaled_over bs period of.query.now.head.columns ds ≤ 2 ^ 62) (sym bounds_now) reach in
          let tests_high = tests_room bounds period of.query.now.head.columns ds reach d listed can.some in
          record {
            low = omega (arith, positive);
            high = high;
            some = can.some;
            relations = λ j a p. subst (λ n. a.relation < n) (sym listed_now.count) (can.relations j a p);
            joined = λ j a p. let c = can.joined j a p in record { differ = c.differ; few_times = c.few_times; few_texts = c.few_texts; times_known = c.times_known; texts_known = c.texts_known; tests = carried_further a.vars.times a.vars.texts old.period.number period a.tests fits.grown c.tests };
            rise = can.rise;
            tests = can.tests;
            tests_room = at_most bounds period of.query.now.head.columns ds reach d listed can.some (tests_reach d.tests + period) tests_high;
            room = near_tests bounds period of.query.now.head.columns ds reach d listed can.some;
            rows = λ j a k p c. read_by g (greatest_bounds new.relations.items) ds d listed can.some high_now j a k p (readable_now i d at j a k p c);
            head = λ a p. let c = can.head a p in record { names = c.names };
          }
        where
          readable_now : (i : ℕ) (d : Disjunct) → slice_get ds i ≡ Some d → (j : ℕ) (a : JoinedAtom) (k : ℕ) → slice_get d.atoms.items j ≡ Some a → Contains (keys_of new a.relation) k → IsReadable (ground_at of new period) (greatest_bounds new.relations.items) d j a k
          readable_now i d at j a k p c =
              let can = is.state.can i d at in
              let listed : Contains ds d = Contains-from_get ds i d at in
              let own : Contains d.atoms.items a = Contains-from_get d.atoms.items j a p in
              elim (eq_or k key) [
                | inl same_key ↦
                    let place : a.relation ≡ relation = (last_now 0).alone a.relation (subst (λ x. Contains (keys_of new a.relation) x) same_key c) in
                    readable (ground_at of new period) ds is.state.disjuncts.numbered low_now positive high d listed j a k source fits.held.columns p c (ap (get new.sources) same_key ∙ w.there)
                    (subst (λ r. CanBeHeld of.domain fits.held.columns r) (sym row_is) fits.row_fits) (count d a listed own place)
                    (subst (λ r. AllByRecursion (λ k. IsMultiple k period) (row_periods r)) (sym row_is) (fits.periods (read d a listed own place)))
                    (subst (λ bs. joined_reach bs period a ≤ 2 ^ 62) (sym bounds_now) (room d a listed own))
                    (subst (λ n. AreSketchesOf of.domain ds n source.row source.sketches.items) (sym place) (subst (λ r. AreSketchesOf of.domain ds relation r source.sketches.items) (sym row_is) sketches))
                | inr other ↦
                    let was : Contains (keys_of old.rows a.relation) k = without.from a.relation k c other in
                    let x : CanBeReadBy (ground_at of old.rows old.period.number) d j a k = can.rows j a k p was in
                    record {
                      source = x.source;
                      held = sym (without.sources k other) ∙ x.held;
                      read = x.read;
                      periods = divides_further old.period.number period x.source.row.values fits.grown x.periods;
                      low = low_rows (ground_at of new period) d.atoms.items low_now a k x.source own c (sym (without.sources k other) ∙ x.held);
                      sketched = x.sketched;
                    }
              ]

      -- ---- what it then stands for

      others_stay : (i k : ℕ) → i ≢ relation → Contains (keys_of old.rows i) k → get new.sources k ≡ get old.rows.sources k
      others_stay i k n c = w.others k (λ e. let s = is.state.rows.there i key (subst (λ x. Contains (keys_of old.rows i) x) e c) in none_some s.source (sym w.free ∙ s.held))

      was_other : (k : ℕ) → Contains (keys_of old.rows relation) k → get new.sources k ≡ get old.rows.sources k
      was_other k c = w.others k (λ e. let s = is.state.rows.there relation key (subst (λ x. Contains (keys_of old.rows relation) x) e c) in none_some s.source (sym w.free ∙ s.held))

      rows_now : rows_under (get new.sources) (keys_of old.rows relation ++ key ∷ []) ≡ rows_of db fits.held.name ++ row ∷ []
      rows_now =
          let front : rows_under (get new.sources) (keys_of old.rows relation) ≡ rows_under (get old.rows.sources) (keys_of old.rows relation) = rows_same (get new.sources) (get old.rows.sources) (keys_of old.rows relation) was_other in
          let back : rows_under (get new.sources) (key ∷ []) ≡ row ∷ [] = append-nil (held_row (get new.sources key)) ∙ ap held_row w.there ∙ ap (λ r. r ∷ []) row_is in
          let own : rows_of db fits.held.name ≡ rows_under (get old.rows.sources) (keys_of old.rows relation) = ap rows_in (found_at (get old.rows.sources) old.rows.relations.items relation fits.held is.distinct fits.at) ∙ ap (rows_under (get old.rows.sources)) (sym (keys_at old.rows relation fits.held fits.at)) in
          rows_both (get new.sources) (keys_of old.rows relation) (key ∷ []) ∙ ap₂ (λ a b. a ++ b) (front ∙ sym own) back

      pub relations_with : (name : Identifier) → slice_get (names_of old.rows) relation ≡ Some name → relations_of (get new.sources) new.relations.items ≡ with_row db name row
      relations_with name e =
          relations_now old.rows new relation (keys_of old.rows relation ++ key ∷ []) listed_now fits.held fits.at is.distinct others_stay
          ∙ ap₂ (λ n rows. replaced db n rows) (named name e) (rows_now ∙ ap (λ n. rows_of db n ++ row ∷ []) (named name e))

      disjuncts_now : AreDisjunctsOf (names_of new) q ds
      disjuncts_now = subst (λ l. AreDisjunctsOf l q ds) (sym names_now) is.state.disjuncts

      distinct_now : AreDistinct (names_of new)
      distinct_now = subst AreDistinct (sym names_now) is.distinct

      reach_now : scaled_kept_reach (relations_of (get new.sources) new.relations.items) (greatest_bounds new.relations.items) period q ≤ 2 ^ 62
      reach_now = subst (λ n. n ≤ 2 ^ 62) (sym (scaled_is new period q ds distinct_now disjuncts_now)) (subst (λ bs. scaled_over bs period of.query.now.head.columns ds ≤ 2 ^ 62) (sym bounds_now) reach)

      -- some part has too many cells
      pub large_cause : HasSomeLargePart (ground_at of new period) ds → IsHoldingCause of old relation row period TooManyCells
      large_cause h = record {
        cause = λ name e.
            let r = relations_with name e in (
              high,
              subst (λ n. n ≤ 2 ^ 62) (ap₂ (λ rs bs. scaled_kept_reach rs bs period q) r bounds_now) reach_now,
              subst (λ rs. HasLargeChoice rs q of.domain period of.cap) r (large_choice (ground_at of new period) q ds disjuncts_now distinct_now held_new h),
            );
      }

      module _ (name : Identifier) (name_is : slice_get (names_of old.rows) relation ≡ Some name) where
        rows_fit : AllByRecursion (λ (r : Relation). AllByRecursion (CanBeHeld of.domain r.columns) r.rows) (with_row db name row)
        rows_fit = all_fit (rows_of db name ++ row ∷ []) name of.domain db is.rows (λ r c e.
            let found = found_at (get old.rows.sources) old.rows.relations.items relation fits.held is.distinct fits.at in
            let here : r ≡ held_relation (get old.rows.sources) fits.held = one_named r c (e ∙ sym (named name name_is)) in
            let own : rows_of db name ≡ (held_relation (get old.rows.sources) fits.held).rows = ap (λ n. rows_in (relation_named db n)) (sym (named name name_is)) ∙ ap rows_in found in
            subst (λ (x : Relation). AllByRecursion (CanBeHeld of.domain x.columns) (rows_of db name ++ row ∷ [])) (sym here)
            (all_by (CanBeHeld of.domain fits.held.columns) (rows_of db name ++ row ∷ []) (λ x i. elim (in_one (rows_of db name) (row ∷ []) x i) [
              | inl j ↦ all_of (CanBeHeld of.domain fits.held.columns) (held_relation (get old.rows.sources) fits.held).rows x (all_of (λ (r : Relation). AllByRecursion (CanBeHeld of.domain r.columns) r.rows) db (held_relation (get old.rows.sources) fits.held) is.rows (Contains-from_get db relation (held_relation (get old.rows.sources) fits.held) (mapped_get (held_relation (get old.rows.sources)) old.rows.relations.items relation fits.held fits.at))) (subst (λ l. Contains l x) own j)
              | inr j ↦ elim (cons_cases row x [] j) [ inl s ↦ subst (CanBeHeld of.domain fits.held.columns) s fits.row_fits | inr none ↦ absurd (let l : none.0 < 0 = none.1 in omega (arith, l)) ]
            ])))
          where
            one_named : (r : Relation) → Contains db r → r.name ≡ fits.held.name → r ≡ held_relation (get old.rows.sources) fits.held
            one_named r c e =
                let p = place_in db r c in
                let m = at_mapped (held_relation (get old.rows.sources)) old.rows.relations.items p.0 r p.1 in
                let found = found_at (get old.rows.sources) old.rows.relations.items p.0 m.0 is.distinct m.1 in
                let own = found_at (get old.rows.sources) old.rows.relations.items relation fits.held is.distinct fits.at in
                let same : m.0.name ≡ fits.held.name = ap (λ (x : Relation). x.name) m.2 ∙ e in
                sym m.2 ∙ some_is (held_relation (get old.rows.sources) m.0) (held_relation (get old.rows.sources) fits.held) (sym found ∙ ap (relation_named db) same ∙ own)

        -- the new state
        module _ (after : State) (rows_are : after.rows ≡ new) (period_is : after.period.number ≡ period) (derived : AreDerived (ground_at of new period) ds (levels_of after)) where
          relations_are : (keeper_view of after).relations ≡ with_row db name row
          relations_are = ap (λ (r : HeldRows). relations_of (get r.sources) r.relations.items) rows_are ∙ relations_with name name_is

          keeping_after : IsKeeping of after
          keeping_after = record {
            state = record {
              rows = subst AreHeldRows (sym rows_are) held_new;
              disjuncts = subst (λ (r : HeldRows). AreDisjunctsOf (names_of r) q ds) (sym rows_are) disjuncts_now;
              can = λ i d at. subst (λ (r : HeldRows). CanDerive (ground_at of r after.period.number) d) (sym rows_are) (subst (λ n. CanDerive (ground_at of new n) d) (sym period_is) (can_now i d at));
              derived = subst (λ (r : HeldRows). AreDerived (ground_at of r after.period.number) ds (levels_of after)) (sym rows_are) (subst (λ n. AreDerived (ground_at of new n) ds (levels_of after)) (sym period_is) derived);
            };
            query = record { db = is.query.db; query = is.query.query; columns = subst (λ rs. HaveColumnsOf is.query.db rs) (sym relations_are) (have_still (rows_of db name ++ row ∷ []) name is.query.db db is.query.columns) };
            kept = is.kept;
            distinct = subst (λ (r : HeldRows). AreDistinct (names_of r)) (sym rows_are) distinct_now;
            ascends = is.ascends;
            known = subst (λ rs. AllByRecursion (Contains of.domain) (constants rs q)) (sym relations_are) (known_still db (with_row db name row) (columns_stay (rows_of db name ++ row ∷ []) name db) q of.domain rows_fit is.known);
            rows = subst (λ rs. AllByRecursion (λ (r : Relation). AllByRecursion (CanBeHeld of.domain r.columns) r.rows) rs) (sym relations_are) rows_fit;
            low = subst AreLowRows (sym rows_are) low_now;
          }

          reach_after : scaled_reach_of (keeper_view of after) ≤ 2 ^ 62
          reach_after = subst (λ (r : HeldRows). scaled_kept_reach (relations_of (get r.sources) r.relations.items) (greatest_bounds r.relations.items) after.period.number q ≤ 2 ^ 62) (sym rows_are) (subst (λ n. scaled_kept_reach (relations_of (get new.sources) new.relations.items) (greatest_bounds new.relations.items) n q ≤ 2 ^ 62) (sym period_is) reach_now)

          pub keeper_after : IsKeeper of after
          keeper_after = record { keeping = keeping_after; reach = reach_after }

          pub limits_after : StaysWithinLimits (keeper_view of after)
          limits_after = record {
            period = subst (λ n. n ≤ 2 ^ 62) (sym period_is) high;
            reach = reach_after;
            cells = λ large. no_large_choice (ground_at of new period) q ds disjuncts_now distinct_now held_new (levels_of after) derived
                (subst (λ n. HasLargeChoice (relations_of (get new.sources) new.relations.items) q of.domain n of.cap) period_is
                (subst (λ (r : HeldRows). HasLargeChoice (relations_of (get r.sources) r.relations.items) q of.domain after.period.number of.cap) rows_are large));
          }

          pub view_after : keeper_view of after ≡ with_held (keeper_view of old) name row period
          view_after =
              ap (λ rs. record { query = of.query.now; domain = of.domain; cap = of.cap; relations = rs; period = after.period.number; bounds = greatest_bounds after.rows.relations.items }) relations_are
              ∙ ap (λ n. record { query = of.query.now; domain = of.domain; cap = of.cap; relations = with_row db name row; period = n; bounds = greatest_bounds after.rows.relations.items }) period_is
              ∙ ap (λ bs. record { query = of.query.now; domain = of.domain; cap = of.cap; relations = with_row db name row; period = period; bounds = bs }) (ap (λ (r : HeldRows). greatest_bounds r.relations.items) rows_are ∙ bounds_now)

      -- ---- what a refusal leaves

      module _ (mid last : State) (rows_are : mid.rows ≡ new) (period_is : mid.period ≡ old.period) (still : RemainWithout (ground_at of new old.period.number) ds key (levels_of mid)) (place : ℕ) (place_is : place ≡ length (keys_of new relation) - 1) (gone : IsLetGoFrom relation place mid last) where
        gone_now : IsLetGoAt relation place gone.key new last.rows
        gone_now = subst (λ (r : HeldRows). IsLetGoAt relation place gone.key r last.rows) rows_are gone.rows

        sizes : length gone_now.front ≡ length (keys_of old.rows relation)
        sizes =
            let a : length gone_now.front ≡ place = gone_now.size in
            let b : place ≡ length (keys_of new relation) - 1 = place_is in
            let c : length (keys_of new relation) ≡ length (keys_of old.rows relation ++ key ∷ []) = ap length keys_now in
            let d : length (keys_of old.rows relation ++ key ∷ []) ≡ length (keys_of old.rows relation) + 1 = length-append (keys_of old.rows relation) (key ∷ []) in
            omega (arith, a, b, c, d)

        key_is : gone.key ≡ key
        key_is = (ends (keys_of old.rows relation) gone_now.front gone_now.back key gone.key (sym keys_now ∙ gone_now.were) sizes).1

        fronts : gone_now.front ≡ keys_of old.rows relation
        fronts = (ends (keys_of old.rows relation) gone_now.front gone_now.back key gone.key (sym keys_now ∙ gone_now.were) sizes).0

        backs : gone_now.back ≡ []
        backs = (ends (keys_of old.rows relation) gone_now.front gone_now.back key gone.key (sym keys_now ∙ gone_now.were) sizes).2

        same_listed : AreRelisted relation (keys_of old.rows relation) old.rows.relations.items last.rows.relations.items
        same_listed = subst (λ l. AreRelisted relation l old.rows.relations.items last.rows.relations.items) (ap₂ (λ a b. a ++ b) fronts backs ∙ append-nil (keys_of old.rows relation))
            (relisted_twice relation (keys_of old.rows relation ++ key ∷ []) (gone_now.front ++ gone_now.back) old.rows.relations.items new.relations.items last.rows.relations.items listed_now gone_now.listed)

        pub still_state : IsStillState of old last
        still_state = record {
          rows = record {
            sources = λ k. elim (eq_or k key) [
              | inl e ↦ ap (get last.rows.sources) (e ∙ sym key_is) ∙ gone_now.gone ∙ sym (ap (get old.rows.sources) e ∙ w.free)
              | inr n ↦ gone_now.others k (λ e. n (e ∙ key_is)) ∙ w.others k n
            ];
            relation = relation;
            listed = same_listed;
          };
          period = gone.period ∙ period_is;
          held = let_go_rows relation place gone.key new last.rows low_new held_new gone_now;
          derived = record {
            count = counts ∙ still.count;
            each = λ i d levels at there.
                let b = some_at (levels_of mid) i (let l : i < length (levels_of last) = within (levels_of last) i levels there in let n : length (levels_of last) ≡ length (levels_of mid) = counts in omega (arith, l, n)) in
                subst (λ (p : Period). IsDerivedFrom (ground_at of last.rows p.number) d levels) (sym (gone.period ∙ period_is))
                (derived_after (ground_at of new old.period.number) last.rows key (subst (λ k. IsWithoutKey new last.rows k) key_is (let_go_without relation place gone.key new last.rows low_new held_new gone_now)) d b.0 levels
                (subst (λ k. AreReleased k b.0 levels) key_is (gone.released i b.0 levels b.1 there)) (still.each i d b.0 at b.1));
          };
        }
          where
            counts : length (levels_of last) ≡ length (levels_of mid)
            counts = map_count (λ d. d.levels.items) last.derived.items ∙ gone.count ∙ sym (map_count (λ d. d.levels.items) mid.derived.items)
