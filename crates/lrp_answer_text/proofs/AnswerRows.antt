-- The row of a zone holds the tuples of the zone with the texts of its cell, and its bounds are the least ones of these.
use Rattle.std.proofs.Common.{◌≡◌, ◌≢◌, ◌<◌, ◌≤◌, ◌+◌, ◌∙◌, ℕ, zero, suc, List, [], ◌∷◌, Option, Some, None, refl, sym, ap, ap₂, subst, arith, length, map, take, get_or}
use Rattle.std.specs.Prelude.{ℤ, pos, ◌-ℤ◌, ◌+ℤ◌, ◌≤ℤ◌, Contains}
use Rattle.std.specs.List.{AllByRecursion, AllZip}
use Rattle.std.proofs.lemmas.Int.{ints}
use Rattle.std.proofs.lemmas.List.{length-map}
use Rattle.std.proofs.lemmas.List.Elements.{length_all_zip}
use Rattle.lrp_theory.specs.Bounds.{Within}
use Rattle.lrp_theory.specs.Divides.{Divides}
use Rattle.lrp_theory.specs.Entries.{node}
use Rattle.lrp_theory.proofs.Modulo.{Divides-is, Divides-zero}
use Rattle.lrp_model.specs.AnswerTexts.{HasPeriod, IsLeastRowBound, IsOwnBound, IsAnswerRow}
use Rattle.lrp_model.specs.Rows.{Datum, time, text, times_of, texts_of, IsOf, IsInRow, MeetsBound}
use Rattle.lrp_model.specs.Satisfaction.{HasShape, IsOfKind}
use Rattle.lrp_model.specs.Texts.{Text, Ascends}
use Rattle.lrp_model.specs.Tuples.{in_head_order, texts_at}
use Rattle.lrp_model.specs.declared.relations.Column.{Column}
use Rattle.lrp_model.specs.declared.relations.Row.{Row}
use Rattle.lrp_model.specs.declared.relations.Sort.{Sort}
use Rattle.lrp_model.specs.declared.relations.Sort.TheVariants.{Time, Data, Named}
use Rattle.lrp_model.specs.declared.tuples.Cell.{Cell}
use Rattle.lrp_zone.specs.Zones.{ZoneView, IsZone, IsInCell, IsMember, IsResidue, columns_of}
use Rattle.lrp_store.specs.Stores.{IsStore, zone_of, tables_at}
use Rattle.lrp_answers.specs.declared.answer.Answer.{Answer}
use Rattle.lrp_store.proofs.Held.{zone_held}
use Rattle.lrp_answer_text.specs.AnswerText.{closed_bounds, answer_row, answer_value}
use Rattle.lrp_answer_text.proofs.Closed.{bounds_ordered, closed_at, closed_attained, closed_met, closed_reached, closed_whole, from_bounds, in_bounds}
use Rattle.lrp_answers.proofs.HeadOrder.{IsHeadOf, head_is}
use Rattle.lrp_answer_text.proofs.Lists.{all_in, in_all}
use Rattle.lrp_answers.proofs.Cells.{length_numbers, zone_columns}

-- ---- values in head order

kind_time : (s : Sort) (r x : ℤ) → IsOfKind s (time r) → IsOfKind s (time x)
kind_time Time r x h = tt
kind_time Data r x h = absurd h
kind_time (Named name) r x h = absurd h

kind_text : (s : Sort) (t u : Text) → IsOfKind s (text t) → IsOfKind s (text u)
kind_text Time t u h = absurd h
kind_text Data t u h = tt
kind_text (Named name) t u h = tt

kinds_differ : (s : Sort) (x : ℤ) (t : Text) → IsOfKind s (time x) → IsOfKind s (text t) → ⊥
kinds_differ Time x t h k = absurd k
kinds_differ Data x t h k = absurd h
kinds_differ (Named name) x t h k = absurd h

-- the tuple has the shape of the columns, the residues of a first tuple modulo k, and its texts
pub record Fits (k : ℤ) (cs : List Column) (first tuple : List Datum) : Type 0 where
  pub shape : HasShape cs tuple
  pub times : AllZip (λ r x. Divides k (x -ℤ r)) (times_of first) (times_of tuple)
  pub texts : texts_of tuple ≡ texts_of first

fits_of : (k : ℤ) (cs : List Column) (first tuple : List Datum) → HasShape cs first → IsOf (map (answer_value k) first) tuple → Fits k cs first tuple
fits_of k [] [] [] s h = record { shape = tt; times = tt; texts = refl }
fits_of k [] [] (d ∷ tuple) s h = absurd h
fits_of k [] (d ∷ first) tuple s h = absurd s
fits_of k (c ∷ cs) [] tuple s h = absurd s
fits_of k (c ∷ cs) (time r ∷ first) [] s h = absurd h
fits_of k (c ∷ cs) (time r ∷ first) (time x ∷ tuple) s h = let f = fits_of k cs first tuple s.1 h.1 in record { shape = (kind_time c.sort r x s.0, f.shape); times = (h.0, f.times); texts = f.texts }
fits_of k (c ∷ cs) (time r ∷ first) (text t ∷ tuple) s h = absurd h
fits_of k (c ∷ cs) (text u ∷ first) [] s h = absurd h
fits_of k (c ∷ cs) (text u ∷ first) (time x ∷ tuple) s h = absurd h
fits_of k (c ∷ cs) (text u ∷ first) (text t ∷ tuple) s h = let f = fits_of k cs first tuple s.1 h.1 in record { shape = (kind_text c.sort u t s.0, f.shape); times = f.times; texts = ap₂ (λ a b. a ∷ b) h.0 f.texts }

head_same : (t u : Text) (ts us : List Text) → t ∷ ts ≡ u ∷ us → t ≡ u
head_same t u ts us e = cc

tail_same : (t u : Text) (ts us : List Text) → t ∷ ts ≡ u ∷ us → ts ≡ us
tail_same t u ts us e = cc

of_fits : (k : ℤ) (cs : List Column) (first tuple : List Datum) → HasShape cs first → Fits k cs first tuple → IsOf (map (answer_value k) first) tuple
of_fits k [] [] [] s f = tt
of_fits k [] [] (d ∷ tuple) s f = absurd f.shape
of_fits k [] (d ∷ first) tuple s f = absurd s
of_fits k (c ∷ cs) [] tuple s f = absurd s
of_fits k (c ∷ cs) (time r ∷ first) [] s f = absurd f.shape
of_fits k (c ∷ cs) (time r ∷ first) (time x ∷ tuple) s f = (f.times.0, of_fits k cs first tuple s.1 (record { shape = f.shape.1; times = f.times.1; texts = f.texts }))
of_fits k (c ∷ cs) (time r ∷ first) (text t ∷ tuple) s f = absurd (kinds_differ c.sort r t s.0 f.shape.0)
of_fits k (c ∷ cs) (text u ∷ first) [] s f = absurd f.shape
of_fits k (c ∷ cs) (text u ∷ first) (time x ∷ tuple) s f = absurd (kinds_differ c.sort x u f.shape.0 s.0)
of_fits k (c ∷ cs) (text u ∷ first) (text t ∷ tuple) s f = (head_same t u (texts_of tuple) (texts_of first) f.texts, of_fits k cs first tuple s.1 (record { shape = f.shape.1; times = f.times; texts = tail_same t u (texts_of tuple) (texts_of first) f.texts }))

-- ---- times

zip_at : (k : ℤ) (rs xs : List ℤ) → AllZip (λ r x. Divides k (x -ℤ r)) rs xs → (i : ℕ) → i < length rs → Divides k (get_or xs i (pos 0) -ℤ get_or rs i (pos 0))
zip_at k [] xs h i l = absurd (omega arith)
zip_at k (r ∷ rs) [] h i l = absurd h
zip_at k (r ∷ rs) (x ∷ xs) h zero l = h.0
zip_at k (r ∷ rs) (x ∷ xs) h (suc i) l = zip_at k rs xs h.1 i (omega arith)

zip_from : (k : ℤ) (rs xs : List ℤ) → length xs ≡ length rs → ((i : ℕ) → i < length rs → Divides k (get_or xs i (pos 0) -ℤ get_or rs i (pos 0))) → AllZip (λ r x. Divides k (x -ℤ r)) rs xs
zip_from k [] [] e h = tt
zip_from k [] (x ∷ xs) e h = absurd (omega arith)
zip_from k (r ∷ rs) [] e h = absurd (omega arith)
zip_from k (r ∷ rs) (x ∷ xs) e h = (h 0 (omega arith), zip_from k rs xs (omega arith) (λ i l. h (suc i) (omega arith)))

-- times of the residues are in the cell
cell_of_times : (z : ZoneView) (xs : List ℤ) → AllZip (λ r x. Divides (pos z.period) (x -ℤ r)) z.residues xs → IsInCell z xs
cell_of_times z xs h = record { count = sym (length_all_zip _ z.residues xs h); each = each }
  where
    each : (i : ℕ) → i ≤ columns_of z → Divides (pos z.period) (node xs i -ℤ node z.residues i)
    each zero l = Divides-is (pos z.period) (pos 0) (pos 0 -ℤ pos 0) (omega (arith, ints)) (Divides-zero (pos z.period))
    each (suc i) l = zip_at (pos z.period) z.residues xs h i (omega arith)

-- and back
times_of_cell : (z : ZoneView) (xs : List ℤ) → IsInCell z xs → AllZip (λ r x. Divides (pos z.period) (x -ℤ r)) z.residues xs
times_of_cell z xs h = zip_from (pos z.period) z.residues xs h.count (λ i l. h.each (suc i) (omega arith))

-- what holds of each residue
all_residues : (P : ℤ → Type 0) (rs : List ℤ) → ((i : ℕ) → i < length rs → P (get_or rs i (pos 0))) → AllByRecursion P rs
all_residues P [] h = tt
all_residues P (r ∷ rs) h = (h 0 (omega arith), all_residues P rs (λ i l. h (suc i) (omega arith)))

have_periods : (k : ℕ) (first : List Datum) → AllByRecursion (IsResidue k) (times_of first) → AllByRecursion (HasPeriod k) (map (answer_value (pos k)) first)
have_periods k [] h = tt
have_periods k (time r ∷ first) h = ((refl, h.0.low, h.0.high), have_periods k first h.1)
have_periods k (text t ∷ first) h = (tt, have_periods k first h)

-- ---- the row of a zone

module _ (a : Answer) (store : IsStore a.store) (ascends : Ascends a.domain) (cell : Cell) (table : List (Option ℤ)) (held : Contains (tables_at a.store cell) table) where
  -- its zone
  abbrev pub zone : ZoneView
  zone = zone_of a.store cell table

  pub zone_is : IsZone zone
  zone_is = zone_held a.store store cell table held

  pub columns_are : columns_of zone ≡ a.store.shape.times
  columns_are = zone_columns a.store cell table held store

  -- the texts of its cell
  abbrev pub cell_texts : List Text
  cell_texts = texts_at a.domain (take a.store.shape.texts cell.texts)

  length_texts : length cell_texts ≡ a.store.shape.texts
  length_texts = length-map (take a.store.shape.texts cell.texts) _ ∙ length_numbers a.store cell table held store

  -- a tuple with these texts
  pub with_times : (xs : List ℤ) → length xs ≡ columns_of zone → IsHeadOf a.head.columns xs cell_texts (in_head_order a.head.columns xs cell_texts)
  with_times xs e =
      let n : length xs ≡ a.store.shape.times = e ∙ columns_are in
      head_is a.head.columns xs cell_texts (a.times_are ∙ sym n) (a.columns_are ∙ ap₂ (λ x y. x + y) (sym n) (sym length_texts))

  abbrev pub first : List Datum
  first = in_head_order a.head.columns zone.residues cell_texts

  pub head : IsHeadOf a.head.columns zone.residues cell_texts first
  head = with_times zone.residues refl

  abbrev pub row : Row
  row = answer_row a.head.columns a.domain a.store cell table

  -- the tuple has the head's shape, times of the zone and the texts of the cell
  pub record IsRowTuple (tuple : List Datum) : Type 0 where
    pub shape : HasShape a.head.columns tuple
    pub times : IsMember zone (times_of tuple)
    pub texts : texts_of tuple ≡ cell_texts

  -- so are the tuples of the row
  pub from_row : (tuple : List Datum) → IsInRow row tuple → IsRowTuple tuple
  from_row tuple h =
      let f = fits_of (pos a.store.period) a.head.columns first tuple head.shape h.values in
      let xs = times_of tuple in
      let cell : IsInCell zone xs = cell_of_times zone xs (subst (λ rs. AllZip (λ r x. Divides (pos a.store.period) (x -ℤ r)) rs xs) head.times f.times) in
      record {
        shape = f.shape;
        times = closed_whole zone zone_is xs cell (λ i j il jl ne. met (closed_at zone zone_is i j) xs i j il jl ne refl h.bounds);
        texts = f.texts ∙ head.texts;
      }
    where
      met : (e : Option ℤ) (xs : List ℤ) (i j : ℕ) → i ≤ columns_of zone → j ≤ columns_of zone → i ≢ j → closed_at zone zone_is i j ≡ e → AllByRecursion (MeetsBound xs) (closed_bounds zone) → Within (node xs i -ℤ node xs j) e
      met None xs i j il jl ne e h = tt
      met (Some b) xs i j il jl ne e h =
          in_all (MeetsBound xs) (closed_bounds zone) h (record { left = i; right = j; most = b }) (in_bounds (columns_of zone + 1) (closed_at zone zone_is) i j b (omega arith) (omega arith) ne e)

  -- the values of a tuple whose times are in the cell
  pub values_of : (tuple : List Datum) → HasShape a.head.columns tuple → IsInCell zone (times_of tuple) → texts_of tuple ≡ cell_texts → IsOf row.values tuple
  values_of tuple shape times texts =
      of_fits (pos a.store.period) a.head.columns first tuple head.shape (record {
        shape = shape;
        times = subst (λ rs. AllZip (λ r x. Divides (pos a.store.period) (x -ℤ r)) rs (times_of tuple)) (sym head.times) (times_of_cell zone (times_of tuple) times);
        texts = texts ∙ sym head.texts;
      })

  -- and no others
  pub to_row : (tuple : List Datum) → IsRowTuple tuple → IsInRow row tuple
  to_row tuple h =
      let xs = times_of tuple in
      record {
        values = values_of tuple h.shape h.times.cell h.texts;
        bounds = all_in (MeetsBound xs) (closed_bounds zone) (λ b k.
            let l = from_bounds (columns_of zone + 1) (closed_at zone zone_is) b k in
            subst (λ e. Within (node xs b.left -ℤ node xs b.right) e) l.most (closed_met zone zone_is b.left b.right (less l.left) (less l.right) l.apart xs h.times));
      }
    where
      less : {m n : ℕ} → m < n + 1 → m ≤ n
      less l = omega arith

  -- ---- its bounds

  -- a tuple of the row for each tuple of the zone
  pub row_tuple : (xs : List ℤ) → IsMember zone xs → (tuple : List Datum) × IsInRow row tuple × (times_of tuple ≡ xs)
  row_tuple xs h =
      let t = with_times xs h.cell.count in
      (in_head_order a.head.columns xs cell_texts, to_row (in_head_order a.head.columns xs cell_texts) (record { shape = t.shape; times = subst (λ ys. IsMember zone ys) (sym t.times) h; texts = t.texts }), t.times)

  least_bound : (i j : ℕ) (b : ℤ) → i ≤ columns_of zone → j ≤ columns_of zone → i ≢ j → closed_at zone zone_is i j ≡ Some b → IsLeastRowBound row i j b
  least_bound i j b il jl ne e = record {
    met = λ tuple h. let t = from_row tuple h in subst (λ f. Within (node (times_of tuple) i -ℤ node (times_of tuple) j) f) e (closed_met zone zone_is i j il jl ne (times_of tuple) t.times);
    attained =
        let r = closed_attained zone zone_is i j b il jl ne e in
        let t = row_tuple r.0 r.1 in
        (t.0, t.1, ap (λ ys. node ys i -ℤ node ys j) t.2 ∙ r.2);
  }

  -- a least bound is the closed one
  closed_least : (i j : ℕ) (b : ℤ) → i ≤ columns_of zone → j ≤ columns_of zone → i ≢ j → IsLeastRowBound row i j b → (e : Option ℤ) → closed_at zone zone_is i j ≡ e → e ≡ Some b
  closed_least i j b il jl ne h None e =
      let r = closed_reached zone zone_is i j il jl ne (b +ℤ pos 1) (subst (λ f. Within (b +ℤ pos 1) f) (sym e) tt) in
      let t = row_tuple r.0 r.1 in
      let met : (node r.0 i -ℤ node r.0 j) ≤ℤ b = subst (λ ys. (node ys i -ℤ node ys j) ≤ℤ b) t.2 (h.met t.0 t.1) in
      let above : (b +ℤ pos 1) ≤ℤ (node r.0 i -ℤ node r.0 j) = r.2 in
      absurd (omega (arith, ints))
  closed_least i j b il jl ne h (Some c) e =
      let l = least_bound i j c il jl ne e in
      let one : b ≤ℤ c = subst (λ d. d ≤ℤ c) h.attained.2 (l.met h.attained.0 h.attained.1) in
      let two : c ≤ℤ b = subst (λ d. d ≤ℤ b) l.attained.2 (h.met l.attained.0 l.attained.1) in
      ap Some (omega (arith, ints))

  -- the row is one of an answer
  pub row_is : IsAnswerRow a.store.period a.store.shape.times row
  row_is = record {
    period = have_periods a.store.period first (subst (λ rs. AllByRecursion (IsResidue a.store.period) rs) (sym head.times) (all_residues (IsResidue a.store.period) zone.residues (λ i l. zone_is.shape.residues (suc i) (omega arith))));
    own = all_in (IsOwnBound row a.store.shape.times) (closed_bounds zone) (λ b k.
        let l = from_bounds (columns_of zone + 1) (closed_at zone zone_is) b k in
        record { left = below b.left l.left; right = below b.right l.right; apart = l.apart; least = least_bound b.left b.right b.most (less l.left) (less l.right) l.apart l.most });
    all = λ i j b il jl ne h.
        let i_low : i ≤ columns_of zone = subst (λ n. i ≤ n) (sym columns_are) il in
        let j_low : j ≤ columns_of zone = subst (λ n. j ≤ n) (sym columns_are) jl in
        in_bounds (columns_of zone + 1) (closed_at zone zone_is) i j b (omega arith) (omega arith) ne (closed_least i j b i_low j_low ne h (closed_at zone zone_is i j) refl);
    ordered = bounds_ordered (columns_of zone + 1) (closed_at zone zone_is);
  }
    where
      less : {m n : ℕ} → m < n + 1 → m ≤ n
      less l = omega arith

      below : (m : ℕ) → m < columns_of zone + 1 → m ≤ a.store.shape.times
      below m l = subst (λ n. m ≤ n) columns_are (less l)
