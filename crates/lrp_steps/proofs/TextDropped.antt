-- The tuples of a zone and of a table without one data column.
use Rattle.std.proofs.Common.{◌≡◌, ℕ, ◌+◌, ◌-◌, ◌<◌, ◌≤◌, ◌^◌, List, [], ◌++◌, length, take, Some, refl, sym, ap, subst, ◌∙◌, arith, map, get_or, Contains, inl, inr}
use Rattle.std.specs.Prelude.{ℤ, All, AllPairs, ◌≢◌, slice_get}
use Rattle.std.specs.List.{insert, remove}
use Rattle.std.specs.FinMap as finite
use Rattle.std.proofs.lemmas.List.{length-take-le, length-map, get_or-take}
use Rattle.std.proofs.lemmas.Option.{slice_get-get_or, slice_get_within}
use Rattle.std.proofs.lemmas.List.Elements.{Contains-get_or}
use Rattle.lrp_model.specs.Texts.{Text, Identifier, without}
use Rattle.lrp_model.specs.Rows.{text}
use Rattle.lrp_model.specs.Satisfaction.{Assignment, with_value}
use Rattle.lrp_zone.specs.Zones.{IsZone, IsMember, reach_of}
use Rattle.lrp_store.specs.Stores.{StoreView, IsStore, InStore, tables_at}
use Rattle.lrp_store.specs.Growing.{IsAdded}
use Rattle.lrp_store.specs.Tables.{InTable, AreTexts, AreNumbered}
use Rattle.lrp_tables.specs.declared.table.Table.{Table}
use Rattle.lrp_store.proofs.Grown.{grown_same}
use Rattle.lrp_store.proofs.Held.{new_store, other_spare}
use Rattle.lrp_store.proofs.Aligning.{nothing_held}
use Rattle.lrp_steps.specs.Columns.{IsCut}
use Rattle.lrp_tables.specs.Pieces.{InPiece, FitsCell}
use Rattle.lrp_tables.specs.Passes.{IsMadeFrom}
use Rattle.lrp_steps.specs.Tuples.{IsWithoutText, IsStoreWithoutName, IsStoreWithoutText}
use Rattle.lrp_tables.specs.Tables.{HasAssignment}
use Rattle.lrp_steps.specs.Tables.{IsTextDropped}
use Rattle.lrp_tables.specs.declared.pieces.Piece.{Piece}
use Rattle.lrp_tables.proofs.Adding.{IsZoneOf}
use Rattle.lrp_tables.proofs.TableMade.{held_known, numbered_by}
use Rattle.lrp_steps.proofs.Cuts.{cut_front, cut_padded}
use Rattle.lrp_steps.proofs.Inserts.{length_insert, insert_removed, remove_inserted, get_inserted, zip_insert, zip_removed, all_inserted}
use Rattle.lrp_tables.proofs.Named.{inserted, unchanged, others_all, others_fewer, pairs_right}
use Rattle.lrp_tables.proofs.Passing.{nothing_at}
use Rattle.lrp_steps.proofs.TimeDropped.{copy_valid, spare_same, same_spare}

-- the zone in the cell without the text has what is left of the tuples
module _ (piece : Piece) (place size : ℕ) (s : StoreView) (is : IsStore s) (low : place ≤ s.shape.texts) (short : s.shape.texts < 8) (fits : FitsCell (record { times = s.shape.times; texts = s.shape.texts + 1 }) s.period piece) where
  -- what is left of the tuples of the zone
  abbrev pub Left : List ℤ → List ℕ → Type 0
  Left = IsMadeFrom (IsWithoutText place size) (InPiece (s.shape.texts + 1) piece)

  -- all the numbers of the cell
  abbrev numbers : List ℕ
  numbers = take (s.shape.texts + 1) piece.cell.texts

  count : length numbers ≡ s.shape.texts + 1
  count = length-take-le (s.shape.texts + 1) piece.cell.texts (let e : length piece.cell.texts ≡ 8 = fits.cell.texts.size in omega arith)

  here : get_or numbers place 0 ≡ get_or piece.cell.texts place 0
  here = get_or-take (s.shape.texts + 1) piece.cell.texts place 0 (omega arith)

  -- the others with the one that was left out
  fewer : (ns : List ℕ) (value : ℕ) → numbers ≡ insert ns place value → length ns ≡ s.shape.texts
  fewer ns value e = let a : length (insert ns place value) ≡ length ns + 1 = length_insert ns place value in let b : length numbers ≡ length (insert ns place value) = ap length e in omega (arith, count)

  -- a number that is no text of the domain leaves nothing
  pub text_unknown : size ≤ get_or piece.cell.texts place 0 → (cap : ℕ) → IsAdded Left cap (reach_of piece.zone) s s
  text_unknown high cap = record {
    grown = grown_same cap (reach_of piece.zone) Left s is;
    whole = record {
      each = λ xs ns h.
          let e : numbers ≡ insert ns place h.made.value = h.is.same ∙ h.made.texts_are in
          let l = fewer ns h.made.value e in
          let v : get_or piece.cell.texts place 0 ≡ h.made.value = sym here ∙ ap (λ l. get_or l place 0) e ∙ get_inserted ns place h.made.value 0 (omega (arith, l)) in
          let k : h.made.value < size = h.made.known in absurd (omega arith);
    };
  }

  module _ (zone : IsZone piece.zone) (texts : List ℕ) (cut : IsCut 0 place piece.cell.texts texts) (known : get_or piece.cell.texts place 0 < size) where
    front : take s.shape.texts texts ≡ remove numbers place
    front = cut_front 0 place s.shape.texts piece.cell.texts texts cut low short fits.cell.texts.size

    to_made : (xs : List ℤ) → IsMember piece.zone xs → Left xs (take s.shape.texts texts)
    to_made xs m = record {
      old_times = xs;
      old_texts = numbers;
      is = record { member = m; same = refl };
      made = record {
        value = get_or piece.cell.texts place 0;
        known = known;
        times_are = refl;
        texts_are = sym (insert_removed numbers place 0 (omega (arith, count))) ∙ ap (insert (remove numbers place) place) here ∙ ap (λ l. insert l place (get_or piece.cell.texts place 0)) (sym front);
      };
    }

    from_made : (xs : List ℤ) (ns : List ℕ) → Left xs ns → IsMember piece.zone xs × (take s.shape.texts texts ≡ ns)
    from_made xs ns h =
        let e : numbers ≡ insert ns place h.made.value = h.is.same ∙ h.made.texts_are in
        (subst (λ l. IsMember piece.zone l) h.made.times_are h.is.member, front ∙ ap (λ l. remove l place) e ∙ remove_inserted ns place h.made.value (omega (arith, fewer ns h.made.value e)))

    pub text_dropped : IsZoneOf Left s (record { texts = texts; residues = piece.cell.residues }) piece.zone (reach_of piece.zone)
    text_dropped = record {
      zone = zone;
      period = fits.period_is;
      residues = fits.residues;
      texts = cut_padded 0 place s.shape.texts piece.cell.texts texts cut low short fits.cell.texts.size fits.cell.texts;
      times = fits.cell.residues;
      to = to_made;
      from = from_made;
      low = omega arith;
    }

-- the zone fits the store with one data column fewer
pub fits_wider : (s out : StoreView) (place : ℕ) → place < s.shape.texts → out.shape ≡ record { times = s.shape.times; texts = s.shape.texts - 1 } → out.period ≡ s.period → (piece : Piece) → FitsCell s.shape s.period piece → FitsCell (record { times = out.shape.times; texts = out.shape.texts + 1 }) out.period piece
fits_wider s out place low shape period piece fits =
    let e : out.shape.texts ≡ s.shape.texts - 1 = ap (λ h. h.texts) shape in
    let texts : s.shape.texts ≡ out.shape.texts + 1 = omega arith in
    subst (λ k. FitsCell (record { times = out.shape.times; texts = out.shape.texts + 1 }) k piece) (sym period)
    (subst (λ m. FitsCell (record { times = m; texts = out.shape.texts + 1 }) s.period piece) (sym (ap (λ h. h.times) shape)) (subst (λ n. FitsCell (record { times = s.shape.times; texts = n }) s.period piece) texts fits))

-- a number below the size of the domain is that of a text
pub number_text : (domain : List Text) (n : ℕ) → n < length domain → (t : Text) × Contains domain t × (slice_get domain n ≡ Some t)
number_text domain n h = (get_or domain n [], Contains-get_or domain n [] h, slice_get-get_or domain n [] h)

-- a table without one data column, or its copy or no assignment where there is none of the name
module _ (domain : List Text) (name : Identifier) (old new : Table) (times : new.vars.times ≡ old.vars.times) (texts : new.vars.texts ≡ without name old.vars.texts) (differ : AllPairs ◌≢◌ (old.vars.times ++ old.vars.texts)) (is_old : IsStore old.store) (is_new : IsStore new.store) where
  -- the columns of the new table
  abbrev Old : Assignment → Type 0
  Old env = InTable domain old.vars.times (without name old.vars.texts) new.store env

  to_old : (env : Assignment) → HasAssignment new domain env → Old env
  to_old env h = subst (λ ts. InTable domain old.vars.times ts new.store env) texts (subst (λ vs. InTable domain vs new.vars.texts new.store env) times h)

  of_old : (env : Assignment) → Old env → HasAssignment new domain env
  of_old env h = subst (λ vs. InTable domain vs new.vars.texts new.store env) (sym times) (subst (λ ts. InTable domain old.vars.times ts new.store env) (sym texts) h)

  -- the name is that of a column
  module _ (place : ℕ) (at : slice_get old.vars.texts place ≡ Some name) (size : ℕ) (all : size ≡ length domain) (m : IsStoreWithoutText place size old.store new.store) where
    differ_texts : AllPairs ◌≢◌ old.vars.texts
    differ_texts = pairs_right ◌≢◌ old.vars.times old.vars.texts differ

    -- the texts with one for the name
    values : (env : Assignment) (t : Text) → map (with_value name (text t) env).texts old.vars.texts ≡ insert (map env.texts (without name old.vars.texts)) place t
    values env t = inserted env.texts name t old.vars.texts place differ_texts at

    room : (env : Assignment) → place ≤ length (map env.texts (without name old.vars.texts))
    room env =
        let a : length (without name old.vars.texts) + 1 ≡ length old.vars.texts = others_fewer name old.vars.texts place differ_texts at in
        let b : place < length old.vars.texts = slice_get_within old.vars.texts place name at in
        let c : length (map env.texts (without name old.vars.texts)) ≡ length (without name old.vars.texts) = length-map (without name old.vars.texts) env.texts in omega arith

    to_dropped : (env : Assignment) → Old env → (t : Text) × Contains domain t × HasAssignment old domain (with_value name (text t) env)
    to_dropped env h =
        let g = m.made.same.sound (map env.times old.vars.times) h.0 h.2 in
        let t = number_text domain g.made.value (let k : g.made.value < size = g.made.known in omega arith) in (
          t.0,
          t.1,
          (
            insert h.0 place g.made.value,
            subst (λ ts. AreTexts domain (insert h.0 place g.made.value) ts) (sym (values env t.0)) (zip_insert (λ n u. slice_get domain n ≡ Some u) h.0 (map env.texts (without name old.vars.texts)) place g.made.value t.0 (room env) h.1 t.2),
            subst (λ ns. InStore old.store (map env.times old.vars.times) ns) g.made.texts_are (subst (λ xs. InStore old.store xs g.old_texts) g.made.times_are g.is),
          ),
        )

    of_dropped : (env : Assignment) (t : Text) → HasAssignment old domain (with_value name (text t) env) → Old env
    of_dropped env t h =
        let g = zip_removed (λ n u. slice_get domain n ≡ Some u) h.0 (map env.texts (without name old.vars.texts)) place t (room env) (subst (λ ts. AreTexts domain h.0 ts) (values env t) h.1) in (
          g.rest,
          g.pairs,
          m.made.same.whole (map env.times old.vars.times) g.rest (record {
            old_times = map env.times old.vars.times;
            old_texts = h.0;
            is = h.2;
            made = record { value = g.value; known = (let l : g.value < length domain = slice_get_within domain g.value t g.pair in omega arith); times_are = refl; texts_are = g.is };
          }),
        )

    pub texts_dropped : IsTextDropped domain name old new
    texts_dropped = record {
      times = times;
      texts = texts;
      period = m.made.period;
      to = λ env h. to_dropped env (to_old env h);
      from = λ env t c h. of_old env (of_dropped env t h);
      reach = m.made.within;
      numbered = λ n. numbered_by new.store is_new domain (λ xs ns h.
          let g = m.made.same.sound xs ns h in all_inserted (λ k. k < length domain) ns place g.made.value (subst (λ l. All (λ k. k < length domain) l) g.made.texts_are (held_known old.store is_old domain n g.old_times g.old_texts g.is)));
    }

  -- no column has the name
  module _ (none : Contains old.vars.texts name → ⊥) where
    kept : (env : Assignment) (t : Text) → map (with_value name (text t) env).texts old.vars.texts ≡ map env.texts (without name old.vars.texts)
    kept env t = unchanged env.texts name t old.vars.texts none ∙ ap (map env.texts) (sym (others_all name old.vars.texts none))

    module _ (same : new.store ≡ record old.store { spare = new.store.spare }) (some : 0 < length domain) where
      to_kept : (env : Assignment) → Old env → (t : Text) × Contains domain t × HasAssignment old domain (with_value name (text t) env)
      to_kept env h =
          let t = number_text domain 0 some in
          (t.0, t.1, (h.0, subst (λ ts. AreTexts domain h.0 ts) (sym (kept env t.0)) h.1, same_spare old.store new.store.spare _ h.0 (subst (λ s. InStore s (map env.times old.vars.times) h.0) same h.2)))

      of_kept : (env : Assignment) (t : Text) → HasAssignment old domain (with_value name (text t) env) → Old env
      of_kept env t h = (h.0, subst (λ ts. AreTexts domain h.0 ts) (kept env t) h.1, subst (λ s. InStore s (map env.times old.vars.times) h.0) (sym same) (spare_same old.store new.store.spare _ h.0 h.2))

      pub texts_copied : IsTextDropped domain name old new
      texts_copied = record {
        times = times;
        texts = texts;
        period = ap (λ s. s.period) same;
        to = λ env h. to_kept env (to_old env h);
        from = λ env t c h. of_old env (of_kept env t h);
        reach = λ high r. record { each = λ c t h. r.each c t (subst (λ s. Contains (tables_at s c) t) same h) };
        numbered = λ n. subst (λ s. AreNumbered domain s) (sym same) n;
      }

    -- and the domain has no text
    pub texts_emptied : new.store.period ≡ old.store.period → new.store.tables ≡ finite.empty → length domain ≡ 0 → IsTextDropped domain name old new
    texts_emptied period empty no_text = record {
      times = times;
      texts = texts;
      period = period;
      to = λ env h. absurd (nothing_held new.store empty _ _ h.2);
      from = λ env t c h. let l : c.0 < length domain = c.1 in absurd (omega arith);
      reach = λ high r. record { each = λ c t h. absurd (nothing_at new.store empty c t h) };
      numbered = λ n. numbered_by new.store is_new domain (λ xs ns h. absurd (nothing_held new.store empty xs ns h));
    }

-- a store of another one's shape and period that has no cells is a store
emptied_valid : (old new : StoreView) → IsStore old → new.shape ≡ old.shape → new.period ≡ old.period → new.tables ≡ finite.empty → IsStore new
emptied_valid old new is shape period empty =
    subst IsStore (sym (ap (λ t. record new { tables = t }) empty))
    (other_spare (record { shape = new.shape; period = new.period; tables = finite.empty; spare = 0 }) new.spare
    (new_store new.shape new.period (subst (λ q. q.times ≤ 8) (sym shape) is.times) (subst (λ q. q.texts ≤ 8) (sym shape) is.texts) (subst (λ n. 0 < n) (sym period) is.period_low) (subst (λ n. n ≤ 2 ^ 62) (sym period) is.period_high)))

module _ (domain : List Text) (name : Identifier) (old : Table) (differ : AllPairs ◌≢◌ (old.vars.times ++ old.vars.texts)) where
  -- each has what is left of the assignments
  pub either_dropped : (new : Table) → new.vars.times ≡ old.vars.times → new.vars.texts ≡ without name old.vars.texts → IsStoreWithoutName domain name old new.store → IsStore old.store → IsTextDropped domain name old new
  either_dropped new times texts h is_old = elim h [
    | inl g ↦ texts_dropped domain name old new times texts differ is_old g.2.valid g.0 g.1 (length domain) refl g.2
    | inr g ↦ elim g.1 [
      | inl k ↦ texts_copied domain name old new times texts differ is_old (copy_valid old.store new.store is_old k.0) g.0 k.0 k.1
      | inr k ↦ texts_emptied domain name old new times texts differ is_old (emptied_valid old.store new.store is_old k.0 k.1 k.2) g.0 k.1 k.2 k.3
    ]
  ]

  -- and what is left is a store
  pub either_valid : (new : StoreView) → IsStoreWithoutName domain name old new → IsStore old.store → IsStore new
  either_valid new h is_old = elim h [
    | inl g ↦ g.2.valid
    | inr g ↦ elim g.1 [
      | inl k ↦ copy_valid old.store new is_old k.0
      | inr k ↦ emptied_valid old.store new is_old k.0 k.1 k.2
    ]
  ]

  -- a column for each name
  pub either_texts : (new : StoreView) → length old.vars.texts ≡ old.store.shape.texts → IsStoreWithoutName domain name old new → length (without name old.vars.texts) ≡ new.shape.texts
  either_texts new named h = elim h [
    | inl g ↦ (
        let a : length (without name old.vars.texts) + 1 ≡ length old.vars.texts = others_fewer name old.vars.texts g.0 (pairs_right ◌≢◌ old.vars.times old.vars.texts differ) g.1 in
        let b : new.shape.texts + 1 ≡ old.store.shape.texts = g.2.texts in omega arith
        )
    | inr g ↦ elim g.1 [
      | inl k ↦ ap length (others_all name old.vars.texts g.0) ∙ named ∙ ap (λ s. s.shape.texts) (sym k.0)
      | inr k ↦ ap length (others_all name old.vars.texts g.0) ∙ named ∙ ap (λ s. s.texts) (sym k.0)
    ]
  ]

  -- and the times stay
  pub either_times : (new : StoreView) → IsStoreWithoutName domain name old new → new.shape.times ≡ old.store.shape.times
  either_times new h = elim h [
    | inl g ↦ g.2.times
    | inr g ↦ elim g.1 [ inl k ↦ ap (λ s. s.shape.times) k.0 | inr k ↦ ap (λ s. s.times) k.0 ]
  ]
