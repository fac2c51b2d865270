-- The rows of an answer hold its tuples, and stand in the order of their cells.
use Rattle.std.proofs.Common.{◌≡◌, ◌∙◌, List, [], ◌∷◌, Option, Some, None, Less, Equal, refl, sym, ap, ap₂, subst, arith, map, take, get_or}
use Rattle.std.specs.Prelude.{ℤ, pos, cond, ◌↔◌, Contains, AllPairs}
use Rattle.std.specs.Cmp.Lexicographic.{bytes_decides, slice_cmp}
use Rattle.std.specs.FinMap as finite
use Rattle.std.specs.Ordering.{nat_cmp, int_cmp, ordering_then}
use Rattle.std.specs.List.{AllByRecursion}
use Rattle.std.proofs.lemmas.Cmp.{tied_itself}
use Rattle.std.proofs.lemmas.List.Elements.{Contains-get_or}
use Rattle.lrp_model.specs.AnswerTexts.{InOrder, IsAnswerRow, value_residues, value_texts, row_cell_cmp as row_cmp}
use Rattle.lrp_model.specs.Rows.{Datum, time, text, times_of, texts_of, IsInRow, Holds, rows_in, rows_of as named_rows}
use Rattle.lrp_model.specs.Texts.{Identifier, Ascends, text_cmp}
use Rattle.lrp_model.specs.declared.relations.Relation.{Relation}
use Rattle.lrp_model.specs.declared.relations.Row.{Row}
use Rattle.lrp_model.specs.declared.tuples.Cell.{Cell}
use Rattle.lrp_slots.specs.Lists.{cell_cmp}
use Rattle.lrp_slots.proofs.Copying.{keys_ascend}
use Rattle.lrp_slots.proofs.Tables.{cells_total}
use Rattle.lrp_store.specs.Stores.{IsCellOf, IsStore, tables_at}
use Rattle.lrp_store.specs.Tables.{AreTexts, InAnswer}
use Rattle.lrp_answers.specs.declared.answer.Answer.{Answer}
use Rattle.lrp_store.proofs.Aligning.{key_of}
use Rattle.lrp_store.proofs.Held.{cell_held}
use Rattle.lrp_answer_text.specs.AnswerText.{named_relation, cell_rows, answer_row, answer_rows, answer_value}
use Rattle.lrp_answer_text.proofs.AnswerRows.{cell_texts, first, from_row, head, row, row_is, to_row}
use Rattle.lrp_answers.proofs.HeadOrder.{texts_are}
use Rattle.lrp_answer_text.proofs.Lists.{all_in, cells_ascend, from_flat, from_map, in_flat, in_map, pairs_flat}
use Rattle.lrp_answers.proofs.Orders.{equal_greater, front_cmp, less_greater, numbers_cmp}
use Rattle.lrp_answers.proofs.Cells.{cell_texts as numbered_texts}
use Rattle.lrp_model.specs.Tuples.{texts_at}

-- a relation by its own name
own_rows : (r : Relation) → named_rows (r ∷ []) r.name ≡ r.rows
own_rows r = ap (λ b. rows_in (cond b (Some r) None)) ((bytes_decides r.name r.name).1 refl)

-- the texts and the residues of values in head order
texts_in_order : (k : ℤ) (tuple : List Datum) → value_texts (map (answer_value k) tuple) ≡ texts_of tuple
texts_in_order k [] = refl
texts_in_order k (time x ∷ tuple) = texts_in_order k tuple
texts_in_order k (text t ∷ tuple) = ap (λ ts. t ∷ ts) (texts_in_order k tuple)

residues_in_order : (k : ℤ) (tuple : List Datum) → value_residues (map (answer_value k) tuple) ≡ times_of tuple
residues_in_order k [] = refl
residues_in_order k (time x ∷ tuple) = ap (λ xs. x ∷ xs) (residues_in_order k tuple)
residues_in_order k (text t ∷ tuple) = residues_in_order k tuple

-- what holds of each two that are listed
pub pairs_all : {X : Type 0} (R : X → X → Type 0) (xs : List X) → ((x y : X) → Contains xs x → Contains xs y → R x y) → AllPairs R xs
pairs_all R xs h i j d il jl = h (get_or xs i d) (get_or xs j d) (Contains-get_or xs i d (omega arith)) (Contains-get_or xs j d jl)

module _ (a : Answer) (store : IsStore a.store) (ascends : Ascends a.domain) where
  -- the row of a held zone
  pub record IsRowAt (cell : Cell) (r : Row) : Type 0 where
    pub table : List (Option ℤ)
    pub held : Contains (tables_at a.store cell) table
    pub is : answer_row a.head.columns a.domain a.store cell table ≡ r

  -- a row of the answer is that of a zone
  pub row_at : (cell : Cell) (r : Row) → Contains (cell_rows a.head.columns a.domain a.store cell) r → IsRowAt cell r
  row_at cell r h = let t = from_map (answer_row a.head.columns a.domain a.store cell) (tables_at a.store cell) r h in record { table = t.0; held = t.1; is = t.2 }

  -- ---- tuples

  row_listed : (tuple : List Datum) (h : InAnswer a.head.columns a.domain a.store tuple) → (r : Row) × Contains (answer_rows a.head.columns a.domain a.store) r × IsInRow r tuple
  row_listed tuple h =
      let i = h.held.2 in
      let texts : texts_of tuple ≡ cell_texts a store ascends i.cell i.table i.held = texts_are a.domain h.held.0 (texts_of tuple) h.held.1 ∙ ap (texts_at a.domain) (sym i.named) in (
        row a store ascends i.cell i.table i.held,
        in_flat (cell_rows a.head.columns a.domain a.store) (finite.keys a.store.tables) i.cell (row a store ascends i.cell i.table i.held) (key_of a.store (times_of tuple) h.held.0 i)
            (in_map (answer_row a.head.columns a.domain a.store i.cell) (tables_at a.store i.cell) i.table i.held),
        to_row a store ascends i.cell i.table i.held tuple (record { shape = h.shape; times = i.inside; texts = texts }),
      )

  pub in_answer : (tuple : List Datum) (cell : Cell) (r : Row) → IsRowAt cell r → IsInRow r tuple → InAnswer a.head.columns a.domain a.store tuple
  in_answer tuple cell r w h =
      let t = from_row a store ascends cell w.table w.held tuple (subst (λ s. IsInRow s tuple) (sym w.is) h) in
      let numbers = take a.store.shape.texts cell.texts in
      record {
        shape = t.shape;
        held = (numbers, subst (λ ts. AreTexts a.domain numbers ts) (sym t.texts) (numbered_texts a.store cell w.table w.held a.domain a.numbered), record { cell = cell; table = w.table; held = w.held; named = refl; inside = t.times });
      }

  -- the relation holds the tuples of the answer
  pub answer_holds : (called : Identifier) (tuple : List Datum) → InAnswer a.head.columns a.domain a.store tuple ↔ Holds (named_relation called a ∷ []) called tuple
  answer_holds called tuple = (
    λ h. let r = row_listed tuple h in (r.0, subst (λ rows. Contains rows r.0) (sym (own_rows (named_relation called a))) r.1, r.2),
    λ h.
        let f = from_flat (cell_rows a.head.columns a.domain a.store) (finite.keys a.store.tables) h.0 (subst (λ rows. Contains rows h.0) (own_rows (named_relation called a)) h.1) in
        in_answer tuple f.0 h.0 (row_at f.0 h.0 f.2) h.2,
  )

  -- each row is one of an answer
  pub rows_are : AllByRecursion (IsAnswerRow a.store.period a.store.shape.times) (answer_rows a.head.columns a.domain a.store)
  rows_are =
      all_in (IsAnswerRow a.store.period a.store.shape.times) (answer_rows a.head.columns a.domain a.store) (λ r h.
      let f = from_flat (cell_rows a.head.columns a.domain a.store) (finite.keys a.store.tables) r h in
      let w = row_at f.0 r f.2 in
      subst (IsAnswerRow a.store.period a.store.shape.times) w.is (row_is a store ascends f.0 w.table w.held))

  -- ---- cells

  -- rows compare like their cells
  cells_compare : (c d : Cell) (t u : List (Option ℤ)) (ht : Contains (tables_at a.store c) t) (hu : Contains (tables_at a.store d) u)
      → row_cmp (answer_row a.head.columns a.domain a.store c t) (answer_row a.head.columns a.domain a.store d u) ≡ cell_cmp c d
  cells_compare c d t u ht hu =
      let k = pos a.store.period in
      let n = a.store.shape.texts in
      let m = a.store.shape.times in
      let pc : IsCellOf a.store.shape a.store.period c = cell_held a.store store c t ht in
      let pd : IsCellOf a.store.shape a.store.period d = cell_held a.store store d u hu in
      let hc = head a store ascends c t ht in
      let hd = head a store ascends d u hu in
      let texts : slice_cmp text_cmp (value_texts (answer_row a.head.columns a.domain a.store c t).values) (value_texts (answer_row a.head.columns a.domain a.store d u).values) ≡ slice_cmp nat_cmp c.texts d.texts =
      ap₂ (slice_cmp text_cmp) (texts_in_order k (first a store ascends c t ht) ∙ hc.texts) (texts_in_order k (first a store ascends d u hu) ∙ hd.texts)
      ∙ sym (numbers_cmp a.domain ascends (take n c.texts) (take n d.texts) _ _ (numbered_texts a.store c t ht a.domain a.numbered) (numbered_texts a.store d u hu a.domain a.numbered))
      ∙ sym (front_cmp nat_cmp 0 refl n c.texts d.texts (pc.texts.size ∙ sym pd.texts.size) pc.texts.zeros pd.texts.zeros) in
      let residues : slice_cmp int_cmp (value_residues (answer_row a.head.columns a.domain a.store c t).values) (value_residues (answer_row a.head.columns a.domain a.store d u).values) ≡ slice_cmp int_cmp c.residues d.residues =
      ap₂ (slice_cmp int_cmp) (residues_in_order k (first a store ascends c t ht) ∙ hc.times) (residues_in_order k (first a store ascends d u hu) ∙ hd.times)
      ∙ sym (front_cmp int_cmp (pos 0) refl m c.residues d.residues (pc.residues.size ∙ sym pd.residues.size) pc.residues.zeros pd.residues.zeros) in
      ap₂ ordering_then texts residues

  pub rows_compare : (c d : Cell) (r s : Row) → IsRowAt c r → IsRowAt d s → row_cmp r s ≡ cell_cmp c d
  rows_compare c d r s wr ws = subst (λ x. row_cmp x s ≡ cell_cmp c d) wr.is (subst (λ y. row_cmp (answer_row a.head.columns a.domain a.store c wr.table) y ≡ cell_cmp c d) ws.is (cells_compare c d wr.table ws.table wr.held ws.held))

  pub same_cells : (c : Cell) → cell_cmp c c ≡ Equal
  same_cells c = tied_itself cells_total c

  -- what holds of each two rows of one cell, and of those of different cells, holds of each two rows
  pub pairs_of_rows : (R : Row → Row → Type 0) → ((c : Cell) → AllPairs R (cell_rows a.head.columns a.domain a.store c))
      → ((r s : Row) → row_cmp r s ≡ Less → R r s) → AllPairs R (answer_rows a.head.columns a.domain a.store)
  pairs_of_rows R one other =
      pairs_flat R (cell_rows a.head.columns a.domain a.store) (λ c d. cell_cmp c d ≡ Less) (finite.keys a.store.tables) (cells_ascend (finite.keys a.store.tables) (keys_ascend a.store.tables)) (λ c k. one c)
      (λ c d kc kd l r s hr hs. other r s (rows_compare c d r s (row_at c r hr) (row_at d s hs) ∙ l))

  -- the rows stand in the order of their cells
  pub cells_in_order : AllPairs InOrder (answer_rows a.head.columns a.domain a.store)
  cells_in_order =
      pairs_of_rows InOrder
      (λ c. pairs_all InOrder (cell_rows a.head.columns a.domain a.store c) (λ r s hr hs e. equal_greater (sym (rows_compare c c r s (row_at c r hr) (row_at c s hs) ∙ same_cells c) ∙ e)))
      (λ r s l e. less_greater (sym l ∙ e))
