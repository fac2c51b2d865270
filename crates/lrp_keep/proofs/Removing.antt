-- A row less: what the keeper then stands for.
use Rattle.std.proofs.Common.{◌≡◌, ◌≢◌, ◌<◌, ◌≤◌, ◌^◌, ℕ, zero, suc, Bool, true, false, List, [], ◌∷◌, ◌++◌, length, map, Contains, Some, refl, sym, ap, ap₂, subst, ◌∙◌, bytes_eq, arith}
use Rattle.std.specs.Prelude.{if◌then◌else◌, slice_get}
use Rattle.std.specs.List.{AllByRecursion}
use Rattle.std.proofs.lemmas.List.Elements.{All-from_recursion}
use Rattle.slab.specs.Slab.{get}
use Rattle.lrp_model.specs.Domains.{constants}
use Rattle.lrp_model.specs.Formulas.{question_of}
use Rattle.lrp_model.specs.Rows.{relation_named, rows_in, rows_of}
use Rattle.lrp_model.specs.Texts.{AreDistinct, Identifier}
use Rattle.lrp_model.specs.declared.relations.Relation.{Relation}
use Rattle.lrp_model.specs.declared.relations.Row.{Row}
use Rattle.lrp_model.proofs.Decided.{contains_first, contains_later}
use Rattle.lrp_model.proofs.Logic.{all_append}
use Rattle.lrp_plan_laws.proofs.HeadLaws.{other_name}
use Rattle.lrp_plan_laws.proofs.Members.{all_by, all_of, in_right}
use Rattle.lrp_kept.specs.EqualRows.{AreEqualRows}
use Rattle.lrp_kept.specs.Held.{AreLowRows, greatest_bounds, names_of, held_relation, relations_of, held_row}
use Rattle.lrp_kept.specs.Keyed.{HasNoEqualRow, IsLetGoAt}
use Rattle.lrp_kept.specs.Keys.{keys_of}
use Rattle.lrp_kept.specs.Limits.{row_bound}
use Rattle.lrp_kept.specs.SortedForms.{HaveColumnsOf}
use Rattle.lrp_kept.specs.declared.rows.HeldRelation.{HeldRelation}
use Rattle.lrp_kept.specs.declared.rows.HeldRows.{HeldRows}
use Rattle.lrp_kept.specs.declared.rows.HeldRow.{HeldRow}
use Rattle.lrp_limits.specs.declared.periods.Period.{Period}
use Rattle.lrp_parts.specs.Derivations.{IsWithoutKey}
use Rattle.lrp_parts.proofs.KeyedRows.{found_at, key_of_row}
use Rattle.lrp_parts.proofs.Rekeyed.{keys_here, let_go_without}
use Rattle.lrp_keep.specs.Keeps.{CanBeHeld, HasNoEqual, IsTakenOut, IsWithout, scaled_reach_of}
use Rattle.lrp_keep.specs.Replaced.{replaced}
use Rattle.lrp_keep.specs.States.{IsKeeper, IsKeeping, IsRemoved, keeper_view}
use Rattle.lrp_keep.specs.declared.kept_query.KeptQuery.{KeptQuery}
use Rattle.lrp_keep.specs.declared.states.State.{State}
use Rattle.lrp_keep.proofs.Adding.{names_in, names_replaced}
use Rattle.lrp_keep.proofs.Alike.{keys_at, relisted_alike}
use Rattle.lrp_keep.proofs.Exchanged.{all_fit, columns_stay, have_still, known_still}
use Rattle.lrp_keep.proofs.KeptParts.{scaled_named}
use Rattle.lrp_keep.proofs.Lists.{at_mapped, same_images}
use Rattle.lrp_keep.proofs.StateLaws.{state_after}
use Rattle.lrp_keep.proofs.Views.{names_stay, relations_now, rows_both, rows_same, rows_under}
use Rattle.lrp_holdings.proofs.Chained.{none_some, some_is}
use Rattle.lrp_plan_laws.proofs.Elements.{found as some_at, within}
use Rattle.lrp_tables.proofs.Joining.{place_in}

-- ---- lists

at_end : (front back : List ℕ) (k : ℕ) → slice_get (front ++ k ∷ back) (length front) ≡ Some k
at_end [] back k = refl
at_end (f ∷ front) back k = at_end front back k

before_end : (front back : List ℕ) (i k : ℕ) → slice_get front i ≡ Some k → slice_get (front ++ back) i ≡ Some k
before_end [] back i k e = absurd (none_some k e)
before_end (f ∷ front) back zero k e = e
before_end (f ∷ front) back (suc i) k e = before_end front back i k e

-- the rows of the relation of a number
own_rows : (rows : HeldRows) (relation : ℕ) (held : HeldRelation) → AreDistinct (names_of rows) → slice_get rows.relations.items relation ≡ Some held → rows_of (relations_of (get rows.sources) rows.relations.items) held.name ≡ rows_under (get rows.sources) (keys_of rows relation)
own_rows rows relation held distinct at = ap rows_in (found_at (get rows.sources) rows.relations.items relation held distinct at) ∙ ap (rows_under (get rows.sources)) (sym (keys_at rows relation held at))

-- ---- no equal row

pub none_equal : (rows : HeldRows) (relation : ℕ) (held : HeldRelation) (name : Identifier) (row : Row) → AreDistinct (names_of rows) → slice_get rows.relations.items relation ≡ Some held → held.name ≡ name → HasNoEqualRow rows relation row → HasNoEqual row (rows_of (relations_of (get rows.sources) rows.relations.items) name)
none_equal rows relation held name row distinct at named none =
    let own = ap (rows_of (relations_of (get rows.sources) rows.relations.items)) (sym named) ∙ own_rows rows relation held distinct at in
    subst (λ all. HasNoEqual row all) (sym own) (All-from_recursion (λ other. AreEqualRows other row → ⊥) (rows_under (get rows.sources) (keys_of rows relation))
    (all_by (λ other. AreEqualRows other row → ⊥) (rows_under (get rows.sources) (keys_of rows relation)) (λ other c equal.
    let k = key_of_row (get rows.sources) (keys_of rows relation) other c in
    none.none k.0 k.1 k.2 k.3 (subst (λ r. AreEqualRows r row) (sym k.4) equal))))

not_listed : (rs : List Relation) (name : Identifier) → (Contains (map (λ (r : Relation). r.name) rs) name → ⊥) → rows_of rs name ≡ []
not_listed [] name none = refl
not_listed (r ∷ rs) name none = by (bytes_eq r.name name) (other_name r.name name (λ e. none (subst (λ n. Contains (r.name ∷ map (λ (r : Relation). r.name) rs) n) (sym e) (contains_first r.name (map (λ (r : Relation). r.name) rs))))) (not_listed rs name (λ c. none (contains_later r.name name (map (λ (r : Relation). r.name) rs) c)))
  where
    by : (b : Bool) → b ≡ false → rows_of rs name ≡ [] → rows_in (if b then Some r else relation_named rs name) ≡ []
    by true t rest = cc
    by false t rest = rest

-- and none of a name that no relation has
pub none_named : (rows : HeldRows) (name : Identifier) (row : Row) → (Contains (names_of rows) name → ⊥) → HasNoEqual row (rows_of (relations_of (get rows.sources) rows.relations.items) name)
none_named rows name row none =
    subst (λ all. HasNoEqual row all) (sym (not_listed (relations_of (get rows.sources) rows.relations.items) name (λ c. none (subst (λ ns. Contains ns name) (names_in (get rows.sources) rows.relations.items) c))))
    (All-from_recursion (λ other. AreEqualRows other row → ⊥) [] tt)

-- ---- a row that is removed

module _ (of : KeptQuery) (old new : State) (keeper : IsKeeper of old) (relation : ℕ) (held : HeldRelation) (at : slice_get old.rows.relations.items relation ≡ Some held) (name : Identifier) (named : held.name ≡ name) (row : Row) (r : IsRemoved relation row old new) where
  abbrev key : ℕ
  key = r.gone.key

  abbrev gone : IsLetGoAt relation r.place r.gone.key old.rows new.rows
  gone = r.gone.rows

  abbrev db : List Relation
  db = relations_of (get old.rows.sources) old.rows.relations.items

  is : IsKeeping of old
  is = keeper.keeping

  low : relation < length old.rows.relations.items
  low = within old.rows.relations.items relation held at

  without : IsWithoutKey old.rows new.rows key
  without = let_go_without relation r.place key old.rows new.rows low is.state.rows gone

  was_listed : Contains (keys_of old.rows relation) key
  was_listed = subst (λ l. Contains l key) (sym gone.were) (in_right gone.front (key ∷ gone.back) key (contains_first key gone.back))

  -- no other relation has the key
  alone : (i : ℕ) → Contains (keys_of old.rows i) key → i ≡ relation
  alone i c =
      let s = is.state.rows.there i key c in
      let t = is.state.rows.there relation key was_listed in
      sym s.relation_is ∙ ap (λ (x : HeldRow). x.relation) (some_is s.source t.source (sym s.held ∙ t.held)) ∙ t.relation_is

  others_stay : (i k : ℕ) → i ≢ relation → Contains (keys_of old.rows i) k → get new.rows.sources k ≡ get old.rows.sources k
  others_stay i k n c = gone.others k (λ e. n (alone i (subst (λ x. Contains (keys_of old.rows i) x) e c)))

  -- the row that goes
  place_is : r.first.key ≡ key
  place_is = some_is r.first.key key (sym r.first.at ∙ ap (λ l. slice_get l r.place) gone.were ∙ ap (slice_get (gone.front ++ key ∷ gone.back)) (sym gone.size) ∙ at_end gone.front gone.back key)

  abbrev front_rows : List Row
  front_rows = rows_under (get old.rows.sources) gone.front

  abbrev back_rows : List Row
  back_rows = rows_under (get old.rows.sources) gone.back

  rows_were : rows_of db name ≡ front_rows ++ r.first.source.row ∷ back_rows
  rows_were =
      ap (rows_of db) (sym named) ∙ own_rows old.rows relation held is.distinct at ∙ ap (rows_under (get old.rows.sources)) gone.were
      ∙ rows_both (get old.rows.sources) gone.front (key ∷ gone.back)
      ∙ ap (λ l. front_rows ++ (l ++ back_rows)) (ap held_row (ap (get old.rows.sources) (sym place_is) ∙ r.first.held))

  -- the keys that stay are others
  fewer : (k : ℕ) → Contains (gone.front ++ gone.back) k → k ≢ key
  fewer k c = (without.to relation k (subst (λ l. Contains l k) (sym (keys_here relation (gone.front ++ gone.back) old.rows new.rows gone.listed low)) c)).1

  rows_are : rows_under (get new.rows.sources) (gone.front ++ gone.back) ≡ front_rows ++ back_rows
  rows_are = rows_same (get new.rows.sources) (get old.rows.sources) (gone.front ++ gone.back) (λ k c. gone.others k (fewer k c)) ∙ rows_both (get old.rows.sources) gone.front gone.back

  pub taken : IsTakenOut row (rows_of db name) (front_rows ++ back_rows)
  taken = record {
    front = front_rows;
    held = r.first.source.row;
    back = back_rows;
    were = rows_were;
    are = refl;
    equal = r.first.equal;
    first = All-from_recursion (λ other. AreEqualRows other row → ⊥) front_rows (all_by (λ other. AreEqualRows other row → ⊥) front_rows (λ other c equal.
        let k = key_of_row (get old.rows.sources) gone.front other c in
        let p = place_in gone.front k.0 k.2 in
        let l : p.0 < length gone.front = within gone.front p.0 k.0 p.1 in
        let size : length gone.front ≡ r.place = gone.size in
        r.first.before p.0 k.0 k.1 (omega (arith, l, size)) (ap (λ l. slice_get l p.0) gone.were ∙ before_end gone.front (key ∷ gone.back) p.0 k.0 p.1) k.3 (subst (λ x. AreEqualRows x row) (sym k.4) equal)));
  }

  relations_are : (keeper_view of new).relations ≡ replaced db name (front_rows ++ back_rows)
  relations_are =
      relations_now old.rows new.rows relation (gone.front ++ gone.back) gone.listed held at is.distinct others_stay
      ∙ ap₂ (λ n rows. replaced db n rows) named rows_are

  bounds_are : greatest_bounds new.rows.relations.items ≡ greatest_bounds old.rows.relations.items
  bounds_are =
      let a = relisted_alike (λ h s. s.most ≡ h.most) relation (gone.front ++ gone.back) old.rows.relations.items new.rows.relations.items gone.listed (λ h. refl) (λ h s at x. x.most) in
      same_images (λ (h : HeldRelation). h.most) (λ (h : HeldRelation). h.most) old.rows.relations.items new.rows.relations.items a.count a.each

  view_is : keeper_view of new ≡ record { query = of.query.now; domain = of.domain; cap = of.cap; relations = replaced db name (front_rows ++ back_rows); period = old.period.number; bounds = greatest_bounds old.rows.relations.items }
  view_is =
      ap (λ rs. record { query = of.query.now; domain = of.domain; cap = of.cap; relations = rs; period = new.period.number; bounds = greatest_bounds new.rows.relations.items }) relations_are
      ∙ ap (λ (p : Period). record { query = of.query.now; domain = of.domain; cap = of.cap; relations = replaced db name (front_rows ++ back_rows); period = p.number; bounds = greatest_bounds new.rows.relations.items }) r.gone.period
      ∙ ap (λ bs. record { query = of.query.now; domain = of.domain; cap = of.cap; relations = replaced db name (front_rows ++ back_rows); period = old.period.number; bounds = bs }) bounds_are

  pub without_row : IsWithout name row (keeper_view of old) (keeper_view of new)
  without_row = record { rows = front_rows ++ back_rows; taken = taken; is = view_is }

  names_are : names_of new.rows ≡ names_of old.rows
  names_are = names_stay old.rows new.rows relation (gone.front ++ gone.back) gone.listed

  rows_fit : AllByRecursion (λ (r : Relation). AllByRecursion (CanBeHeld of.domain r.columns) r.rows) (replaced db name (front_rows ++ back_rows))
  rows_fit = all_fit (front_rows ++ back_rows) name of.domain db is.rows (λ x c e.
      let p = place_in db x c in
      let m = at_mapped (held_relation (get old.rows.sources)) old.rows.relations.items p.0 x p.1 in
      let found = found_at (get old.rows.sources) old.rows.relations.items p.0 m.0 is.distinct m.1 in
      let same : m.0.name ≡ name = ap (λ (y : Relation). y.name) m.2 ∙ e in
      let own : rows_of db name ≡ x.rows = ap (λ n. rows_in (relation_named db n)) (sym same) ∙ ap rows_in found ∙ ap (λ (y : Relation). y.rows) m.2 in
      let fits : AllByRecursion (CanBeHeld of.domain x.columns) (front_rows ++ r.first.source.row ∷ back_rows) = subst (λ l. AllByRecursion (CanBeHeld of.domain x.columns) l) (sym own ∙ rows_were) (all_of (λ (r : Relation). AllByRecursion (CanBeHeld of.domain r.columns) r.rows) db x is.rows c) in
      let two = (all_append (CanBeHeld of.domain x.columns) front_rows (r.first.source.row ∷ back_rows)).0 fits in
      (all_append (CanBeHeld of.domain x.columns) front_rows back_rows).1 (two.0, two.1.1))

  low_new : AreLowRows new.rows
  low_new i k s source e c f =
      let a = relisted_alike (λ h s. s.most ≡ h.most) relation (gone.front ++ gone.back) old.rows.relations.items new.rows.relations.items gone.listed (λ h. refl) (λ h s at x. x.most) in
      let l : i < length new.rows.relations.items = within new.rows.relations.items i s e in
      let n : length new.rows.relations.items ≡ length old.rows.relations.items = gone.listed.count in
      let h = some_at old.rows.relations.items i (omega (arith, l, n)) in
      let was = without.to i k (subst (λ l. Contains l k) (sym (keys_at new.rows i s e)) c) in
      subst (λ m. row_bound source.row ≤ m) (sym (a.each i h.0 s h.1 e)) (is.low i k h.0 source h.1 (subst (λ l. Contains l k) (keys_at old.rows i h.0 h.1) was.0) (sym (without.sources k was.1) ∙ f))

  pub keeper_removed : IsKeeper of new
  keeper_removed = record {
    keeping = record {
      state = state_after of old new relation r.place key is.state low gone r.gone.period r.gone.count r.gone.released;
      query = record { db = is.query.db; query = is.query.query; columns = subst (λ rs. HaveColumnsOf is.query.db rs) (sym relations_are) (have_still (front_rows ++ back_rows) name is.query.db db is.query.columns) };
      kept = is.kept;
      distinct = subst AreDistinct (sym names_are) is.distinct;
      ascends = is.ascends;
      known = subst (λ rs. AllByRecursion (Contains of.domain) (constants rs (question_of of.query.now))) (sym relations_are) (known_still db (replaced db name (front_rows ++ back_rows)) (columns_stay (front_rows ++ back_rows) name db) (question_of of.query.now) of.domain rows_fit is.known);
      rows = subst (λ rs. AllByRecursion (λ (r : Relation). AllByRecursion (CanBeHeld of.domain r.columns) r.rows) rs) (sym relations_are) rows_fit;
      low = low_new;
    };
    reach = subst (λ k. scaled_reach_of k ≤ 2 ^ 62) (sym view_is)
        (subst (λ n. n ≤ 2 ^ 62) (sym (scaled_named db (replaced db name (front_rows ++ back_rows)) (greatest_bounds old.rows.relations.items) old.period.number (question_of of.query.now) (names_replaced db name (front_rows ++ back_rows)))) keeper.reach);
  }
