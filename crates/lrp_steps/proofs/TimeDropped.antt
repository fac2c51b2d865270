-- The tuples of a zone and of a table without one time column.
use Rattle.std.proofs.Common.{◌≡◌, ℕ, ◌+◌, ◌-◌, ◌*◌, ◌<◌, ◌≤◌, List, ◌++◌, length, take, Some, refl, sym, ap, subst, ◌∙◌, arith, map, Contains, ◌⊎◌, inl, inr}
use Rattle.std.specs.Prelude.{ℤ, pos, All, AllPairs, ◌≢◌, slice_get}
use Rattle.std.specs.List.{insert, remove}
use Rattle.std.proofs.lemmas.List.{length-take-le}
use Rattle.std.proofs.lemmas.List.Edits.{length-remove}
use Rattle.lrp_model.specs.Texts.{Text, Identifier, without}
use Rattle.lrp_model.specs.Rows.{time}
use Rattle.lrp_model.specs.Satisfaction.{Assignment, with_value}
use Rattle.lrp_zone.specs.Zones.{ZoneView, IsZone, IsMember, columns_of, reach_of}
use Rattle.lrp_zone.specs.Columns.{IsDropped}
use Rattle.lrp_store.specs.Stores.{StoreView, IsStore, InStore, HasReach, zone_of, tables_at}
use Rattle.lrp_store.specs.Tables.{InTable, AreNumbered}
use Rattle.lrp_store.proofs.Held.{other_spare}
use Rattle.lrp_tables.specs.declared.table.Table.{Table}
use Rattle.lrp_steps.specs.Columns.{IsCut}
use Rattle.lrp_tables.specs.Pieces.{InPiece, FitsCell}
use Rattle.lrp_tables.specs.Passes.{IsMadeFrom}
use Rattle.lrp_steps.specs.Tuples.{IsWithoutTime, IsStoreWithoutTime}
use Rattle.lrp_tables.specs.Tables.{HasAssignment}
use Rattle.lrp_steps.specs.Tables.{IsTimeDropped}
use Rattle.lrp_tables.specs.declared.pieces.Piece.{Piece}
use Rattle.lrp_tables.proofs.Named.{inserted, unchanged, others_all, others_fewer, pairs_left}
use Rattle.lrp_tables.proofs.Adding.{IsZoneOf}
use Rattle.lrp_tables.proofs.TableMade.{held_known, numbered_by}
use Rattle.lrp_steps.proofs.Cuts.{cut_front, cut_padded}
use Rattle.lrp_steps.proofs.Inserts.{length_insert}

-- the zone without the column has what is left of the tuples
module _ (piece : Piece) (place : ℕ) (s : StoreView) (is : IsStore s) (low : place ≤ s.shape.times) (short : s.shape.times < 8) (fits : FitsCell (record { times = s.shape.times + 1; texts = s.shape.texts }) s.period piece)
    (w : ZoneView) (zone : IsZone w) (d : IsDropped piece.zone (place + 1) w) (residues : List ℤ) (cut : IsCut (pos 0) place piece.cell.residues residues) where
  -- places are counted from 0, columns from 1
  before : (place + 1) - 1 ≡ place
  before = omega arith

  residues_are : w.residues ≡ take s.shape.times residues
  residues_are = d.residues ∙ ap (remove piece.zone.residues) before ∙ ap (λ l. remove l place) fits.residues ∙ sym (cut_front (pos 0) place s.shape.times piece.cell.residues residues cut low short fits.cell.residues.size)

  -- one column fewer
  columns : columns_of w + 1 ≡ columns_of piece.zone
  columns = ap (λ l. length l + 1) (d.residues ∙ ap (remove piece.zone.residues) before) ∙ length-remove piece.zone.residues place (let e : length piece.zone.residues ≡ s.shape.times + 1 = ap length fits.residues ∙ taken in omega arith)
    where
      taken : length (take (s.shape.times + 1) piece.cell.residues) ≡ s.shape.times + 1
      taken = length-take-le (s.shape.times + 1) piece.cell.residues (let e : length piece.cell.residues ≡ 8 = fits.cell.residues.size in omega arith)

  to_made : (xs : List ℤ) → IsMember w xs → IsMadeFrom (IsWithoutTime place) (InPiece s.shape.texts piece) xs (take s.shape.texts piece.cell.texts)
  to_made xs m =
      let v = d.to xs m in
      record {
        old_times = insert xs place v.0;
        old_texts = take s.shape.texts piece.cell.texts;
        is = record { member = subst (λ i. IsMember piece.zone (insert xs i v.0)) before v.1; same = refl };
        made = record { value = v.0; times_are = refl; texts_are = refl };
      }

  from_made : (xs : List ℤ) (ns : List ℕ) → IsMadeFrom (IsWithoutTime place) (InPiece s.shape.texts piece) xs ns → IsMember w xs × (take s.shape.texts piece.cell.texts ≡ ns)
  from_made xs ns h =
      let inside : IsMember piece.zone (insert xs place h.made.value) = subst (λ l. IsMember piece.zone l) h.made.times_are h.is.member in
      let count : length (insert xs place h.made.value) ≡ columns_of piece.zone = inside.cell.count in
      let longer = length_insert xs place h.made.value in
      (d.from xs h.made.value (omega (arith, count, longer, columns)) (subst (λ i. IsMember piece.zone (insert xs i h.made.value)) (sym before) inside), h.is.same ∙ h.made.texts_are)

  pub time_dropped : IsZoneOf (IsMadeFrom (IsWithoutTime place) (InPiece s.shape.texts piece)) s (record { texts = piece.cell.texts; residues = residues }) w (2 * reach_of piece.zone)
  time_dropped = record {
    zone = zone;
    period = d.period ∙ fits.period_is;
    residues = residues_are;
    texts = fits.cell.texts;
    times = cut_padded (pos 0) place s.shape.times piece.cell.residues residues cut low short fits.cell.residues.size fits.cell.residues;
    to = to_made;
    from = from_made;
    low = d.reach;
  }

-- the number of spare slots says nothing of the tuples
pub spare_same : (s : StoreView) (n : ℕ) (xs : List ℤ) (ns : List ℕ) → InStore s xs ns → InStore (record s { spare = n }) xs ns
spare_same s n xs ns h = record { cell = h.cell; table = h.table; held = h.held; named = h.named; inside = h.inside }

pub same_spare : (s : StoreView) (n : ℕ) (xs : List ℤ) (ns : List ℕ) → InStore (record s { spare = n }) xs ns → InStore s xs ns
same_spare s n xs ns h = record { cell = h.cell; table = h.table; held = h.held; named = h.named; inside = h.inside }

-- nor of the reach
pub spare_reach : (s : StoreView) (n high : ℕ) → HasReach s high → HasReach (record s { spare = n }) high
spare_reach s n high r = record { each = λ c t h. r.each c t h }

-- so a store's copy is one
pub copy_valid : (s copy : StoreView) → IsStore s → copy ≡ record s { spare = copy.spare } → IsStore copy
copy_valid s copy is same = subst IsStore (sym same) (other_spare s copy.spare is)

-- the zone fits the store with one time column fewer
pub fits_longer : (s out : StoreView) (place : ℕ) → place < s.shape.times → out.shape ≡ record { times = s.shape.times - 1; texts = s.shape.texts } → out.period ≡ s.period → (piece : Piece) → FitsCell s.shape s.period piece → FitsCell (record { times = out.shape.times + 1; texts = out.shape.texts }) out.period piece
fits_longer s out place low shape period piece fits =
    let e : out.shape.times ≡ s.shape.times - 1 = ap (λ h. h.times) shape in
    let times : s.shape.times ≡ out.shape.times + 1 = omega arith in
    subst (λ k. FitsCell (record { times = out.shape.times + 1; texts = out.shape.texts }) k piece) (sym period)
    (subst (λ m. FitsCell (record { times = out.shape.times + 1; texts = m }) s.period piece) (sym (ap (λ h. h.texts) shape)) (subst (λ n. FitsCell (record { times = n; texts = s.shape.texts }) s.period piece) times fits))

-- a table without one time column, or its copy where there is none of the name
module _ (name : Identifier) (old new : Table) (times : new.vars.times ≡ without name old.vars.times) (texts : new.vars.texts ≡ old.vars.texts) (differ : AllPairs ◌≢◌ (old.vars.times ++ old.vars.texts)) (is_old : IsStore old.store) (is_new : IsStore new.store) where
  -- the columns of the new table
  abbrev Old : List Text → Assignment → Type 0
  Old domain env = InTable domain (without name old.vars.times) old.vars.texts new.store env

  to_old : (domain : List Text) (env : Assignment) → HasAssignment new domain env → Old domain env
  to_old domain env h = subst (λ ts. InTable domain (without name old.vars.times) ts new.store env) texts (subst (λ vs. InTable domain vs new.vars.texts new.store env) times h)

  of_old : (domain : List Text) (env : Assignment) → Old domain env → HasAssignment new domain env
  of_old domain env h = subst (λ vs. InTable domain vs new.vars.texts new.store env) (sym times) (subst (λ ts. InTable domain (without name old.vars.times) ts new.store env) (sym texts) h)

  -- the name is that of a column
  module _ (place : ℕ) (at : slice_get old.vars.times place ≡ Some name) (m : IsStoreWithoutTime place old.store new.store) where
    -- the times with a value for the name
    values : (env : Assignment) (x : ℤ) → map (with_value name (time x) env).times old.vars.times ≡ insert (map env.times (without name old.vars.times)) place x
    values env x = inserted env.times name x old.vars.times place (pairs_left ◌≢◌ old.vars.times old.vars.texts differ) at

    to_dropped : (domain : List Text) (env : Assignment) → Old domain env → (x : ℤ) × HasAssignment old domain (with_value name (time x) env)
    to_dropped domain env h =
        let g = m.made.same.sound (map env.times (without name old.vars.times)) h.0 h.2 in
        (g.made.value, (h.0, h.1, subst (λ ns. InStore old.store (map (with_value name (time g.made.value) env).times old.vars.times) ns) g.made.texts_are (subst (λ xs. InStore old.store xs g.old_texts) (g.made.times_are ∙ sym (values env g.made.value)) g.is)))

    of_dropped : (domain : List Text) (env : Assignment) (x : ℤ) → HasAssignment old domain (with_value name (time x) env) → Old domain env
    of_dropped domain env x h = (
      h.0,
      h.1,
      m.made.same.whole (map env.times (without name old.vars.times)) h.0 (record {
        old_times = insert (map env.times (without name old.vars.times)) place x;
        old_texts = h.0;
        is = subst (λ xs. InStore old.store xs h.0) (values env x) h.2;
        made = record { value = x; times_are = refl; texts_are = refl };
      }),
    )

    pub table_dropped : IsTimeDropped name old new
    table_dropped = record {
      times = times;
      texts = texts;
      period = m.made.period;
      to = λ domain env h. to_dropped domain env (to_old domain env h);
      from = λ domain env x h. of_old domain env (of_dropped domain env x h);
      reach = m.made.within;
      numbered = λ domain n. numbered_by new.store is_new domain (λ xs ns h. let g = m.made.same.sound xs ns h in subst (λ l. All (λ k. k < length domain) l) g.made.texts_are (held_known old.store is_old domain n g.old_times g.old_texts g.is));
    }

  -- no column has the name
  module _ (none : Contains old.vars.times name → ⊥) (same : new.store ≡ record old.store { spare = new.store.spare }) where
    kept : (env : Assignment) (x : ℤ) → map (with_value name (time x) env).times old.vars.times ≡ map env.times (without name old.vars.times)
    kept env x = unchanged env.times name x old.vars.times none ∙ ap (map env.times) (sym (others_all name old.vars.times none))

    to_kept : (domain : List Text) (env : Assignment) → Old domain env → (x : ℤ) × HasAssignment old domain (with_value name (time x) env)
    to_kept domain env h = (pos 0, (h.0, h.1, subst (λ xs. InStore old.store xs h.0) (sym (kept env (pos 0))) (same_spare old.store new.store.spare _ h.0 (subst (λ s. InStore s (map env.times (without name old.vars.times)) h.0) same h.2))))

    of_kept : (domain : List Text) (env : Assignment) (x : ℤ) → HasAssignment old domain (with_value name (time x) env) → Old domain env
    of_kept domain env x h = (h.0, h.1, subst (λ s. InStore s (map env.times (without name old.vars.times)) h.0) (sym same) (spare_same old.store new.store.spare _ h.0 (subst (λ xs. InStore old.store xs h.0) (kept env x) h.2)))

    pub table_copied : IsTimeDropped name old new
    table_copied = record {
      times = times;
      texts = texts;
      period = ap (λ s. s.period) same;
      to = λ domain env h. to_kept domain env (to_old domain env h);
      from = λ domain env x h. of_old domain env (of_kept domain env x h);
      reach = λ high r. record { each = λ c t h. let l : reach_of (zone_of old.store c t) ≤ high = r.each c t (subst (λ s. Contains (tables_at s c) t) same h) in omega (arith, l) };
      numbered = λ domain n. subst (λ s. AreNumbered domain s) (sym same) n;
    }

-- the store without the column of the name, or its copy where there is none
abbrev pub StoreOf : Identifier → Table → StoreView → Type 0
StoreOf name old new = ((place : ℕ) × (slice_get old.vars.times place ≡ Some name) × IsStoreWithoutTime place old.store new) ⊎ ((Contains old.vars.times name → ⊥) × (new ≡ record old.store { spare = new.spare }))

module _ (name : Identifier) (old : Table) (differ : AllPairs ◌≢◌ (old.vars.times ++ old.vars.texts)) where
  -- either has what is left of the assignments
  pub either_dropped : (new : Table) → new.vars.times ≡ without name old.vars.times → new.vars.texts ≡ old.vars.texts → StoreOf name old new.store → IsStore old.store → IsTimeDropped name old new
  either_dropped new times texts h is_old = elim h [
    | inl g ↦ table_dropped name old new times texts differ is_old g.2.valid g.0 g.1 g.2
    | inr g ↦ table_copied name old new times texts differ is_old (copy_valid old.store new.store is_old g.1) g.0 g.1
  ]

  -- a column for each name
  pub either_times : (new : StoreView) → length old.vars.times ≡ old.store.shape.times → StoreOf name old new → length (without name old.vars.times) ≡ new.shape.times
  either_times new named h = elim h [
    | inl g ↦ (
        let a : length (without name old.vars.times) + 1 ≡ length old.vars.times = others_fewer name old.vars.times g.0 (pairs_left ◌≢◌ old.vars.times old.vars.texts differ) g.1 in
        let b : new.shape.times + 1 ≡ old.store.shape.times = g.2.times in omega arith
        )
    | inr g ↦ ap length (others_all name old.vars.times g.0) ∙ named ∙ ap (λ s. s.shape.times) (sym g.1)
  ]

  -- and the texts stay
  pub either_texts : (new : StoreView) → StoreOf name old new → new.shape.texts ≡ old.store.shape.texts
  either_texts new h = elim h [ inl g ↦ g.2.texts | inr g ↦ ap (λ s. s.shape.texts) g.1 ]
