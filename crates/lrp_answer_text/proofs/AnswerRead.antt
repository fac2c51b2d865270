-- The relation of an answer reads back as it is written.
use Rattle.std.proofs.Common.{◌≡◌, ◌≢◌, ◌<◌, ◌≤◌, ◌+◌, ◌^◌, ◌∙◌, ℕ, List, [], ◌∷◌, true, false, Option, Some, refl, sym, ap, ap₂, subst, arith, map, take, append-nil}
use Rattle.std.specs.Prelude.{ℤ, pos, ◌-ℤ◌, ◌≤ℤ◌, ◌<ℤ◌, Contains}
use Rattle.std.specs.Int.{int_rem_euclid}
use Rattle.std.specs.List.{AllByRecursion}
use Rattle.std.proofs.lemmas.Int.{ints}
use Rattle.std.specs.FinMap as finite
use Rattle.lrp_theory.specs.Divides.{Divides}
use Rattle.lrp_theory.specs.Entries.{AtMost}
use Rattle.lrp_theory.proofs.Modulo.{rem_between, rem_divides, small_multiple}
use Rattle.lrp_model.specs.AnswerTexts.{HasPeriod as HasPeriodOf, IsAnswerRow}
use Rattle.lrp_model.specs.DatabaseReading.{IsDatabase}
use Rattle.lrp_model.specs.Lexing.{start, tokens_from, skip, scan, scan_in, tokens_in_from}
use Rattle.lrp_model.specs.Limits.{greatest_number}
use Rattle.lrp_model.specs.Printed.{relation_bytes, database_bytes}
use Rattle.lrp_model.specs.Rows.{Datum, time, text, texts_of}
use Rattle.lrp_model.specs.Satisfaction.{HasShape, IsOfKind}
use Rattle.lrp_model.specs.Sorts.{is_time, time_count}
use Rattle.lrp_model.specs.Names.{IsName}
use Rattle.lrp_model.specs.Texts.{Text, Identifier, Ascends}
use Rattle.lrp_model.specs.DataTexts.{IsDataText}
use Rattle.lrp_model.specs.Tokens.{Spells}
use Rattle.lrp_model.specs.Tokens.Part.{any}
use Rattle.lrp_model.specs.Tokens.Token.{end_token}
use Rattle.lrp_model.specs.declared.relations.Column.{Column}
use Rattle.lrp_model.specs.declared.relations.Relation.{Relation}
use Rattle.lrp_model.specs.declared.relations.Row.{Row}
use Rattle.lrp_model.specs.declared.relations.Sort.{Sort}
use Rattle.lrp_model.specs.declared.relations.Sort.TheVariants.{Time, Data, Named}
use Rattle.lrp_model.specs.declared.relations.Value.{Value}
use Rattle.lrp_model.specs.declared.relations.Value.TheVariants.{Point, Const}
use Rattle.lrp_model.specs.declared.tokens.Place.{Place}
use Rattle.lrp_model.specs.declared.tuples.Cell.{Cell}
use Rattle.lrp_model.specs.declared.written.RawRelation.{RawRelation}
use Rattle.lrp_model.specs.Kept.{AreKept, AreValuesOf, IsBoundOf, IsKept, IsRowOf}
use Rattle.lrp_print.proofs.Faultless.{relations_fit, relations_sound}
use Rattle.lrp_print.proofs.Meant.{reduced, reduced_row, reduced_value, relations_mean}
use Rattle.lrp_print.proofs.PieceLaws.{trees, after_piece}
use Rattle.lrp_print.proofs.Spelling.{tokens_at}
use Rattle.lrp_print.proofs.Trees.{relation_tree}
use Rattle.lrp_print.proofs.Utf8.{relations_utf8}
use Rattle.lrp_zone.specs.Zones.{columns_of}
use Rattle.lrp_store.specs.Least.{HasRoom}
use Rattle.lrp_store.specs.Stores.{IsStore, tables_at}
use Rattle.lrp_store.specs.Tables.{AreTexts}
use Rattle.lrp_answers.specs.declared.answer.Answer.{Answer}
use Rattle.lrp_store.proofs.Held.{Contains-from_get}
use Rattle.lrp_answer_text.specs.AnswerText.{named_relation, cell_rows, closed_bounds, answer_row, answer_rows, answer_value}
use Rattle.lrp_answer_text.specs.Answering.{AreAnswerColumns}
use Rattle.lrp_answer_text.proofs.AnswerHolds.{row_at, rows_are}
use Rattle.lrp_answer_text.proofs.AnswerRows.{columns_are, first, head, zone, zone_is}
use Rattle.lrp_answer_text.proofs.Closed.{closed_at, closed_small, from_bounds}
use Rattle.lrp_answer_text.proofs.Lists.{all_in, from_flat, in_all}
use Rattle.lrp_answers.proofs.Cells.{cell_texts}
use Rattle.lrp_print.proofs.Reading.{database_spelled}

-- ---- relations whose offsets are residues read back as they are

-- where no bytes are left stands the end
the_end : (p : Place) → Spells (any end_token ∷ []) (tokens_at p [])
unfolding tokens_in_from skip scan_in
the_end p = (refl, refl)

-- the tree of relations
abbrev database_tree : List Relation → List RawRelation
database_tree = trees (after_piece relation_bytes) relation_tree start

-- a relation reads back with each offset taken modulo its period
read_reduced : (r : Relation) → IsKept r → IsDatabase (relation_bytes r) (reduced r ∷ [])
read_reduced r k =
    let rs : List Relation = r ∷ [] in
    let all : AreKept rs = record { each = (k, tt); differ = (tt, tt) } in
    let read : IsDatabase (database_bytes rs) (map reduced rs) = record {
      tree = database_tree rs;
      text = record { utf8 = relations_utf8 rs all.each; spelled = database_spelled rs all.each; lawful = relations_fit rs start all.each };
      sound = relations_sound rs start all;
      meant = sym (relations_mean rs start all.each);
    } in
    subst (λ bytes. IsDatabase bytes (reduced r ∷ [])) (append-nil (relation_bytes r)) read

-- what a function leaves as it is
map_same : {X : Type 0} (f : X → X) (xs : List X) → AllByRecursion (λ x. f x ≡ x) xs → map f xs ≡ xs
map_same f [] h = refl
map_same f (x ∷ xs) h = ap₂ (λ y ys. y ∷ ys) h.0 (map_same f xs h.1)

-- a residue is its own remainder
residue_stays : (k : ℕ) (c p : ℤ) → 0 < k → p ≡ pos k → pos 0 ≤ℤ c → c <ℤ pos k → int_rem_euclid c p ≡ c
residue_stays k c p some e low high =
    let one : pos 1 ≤ℤ pos k = omega (arith, ints) in
    let r = int_rem_euclid c (pos k) in
    let b : (pos 0 ≤ℤ r) × (r <ℤ pos k) = rem_between (pos k) c r one refl in
    let d : Divides (pos k) (c -ℤ r) = rem_divides (pos k) c r one refl in
    let zero_is : c -ℤ r ≡ pos 0 = small_multiple k (c -ℤ r) d (omega (arith, ints, b.0, b.1)) (omega (arith, ints, b.0, b.1)) in
    ap (int_rem_euclid c) e ∙ equal r c zero_is
  where
    equal : (r c : ℤ) → c -ℤ r ≡ pos 0 → r ≡ c
    equal r c h = omega (arith, ints)

value_stays : (k : ℕ) (v : Value) → 0 < k → HasPeriodOf k v → reduced_value v ≡ v
value_stays k (Point p) some h = ap (λ c. Point (record { offset = c; period = p.period })) (residue_stays k p.offset p.period some h.0 h.1 h.2)
value_stays k (Const t) some h = refl

row_stays : (k : ℕ) (r : Row) → 0 < k → AllByRecursion (HasPeriodOf k) r.values → reduced_row r ≡ r
row_stays k r some h = ap (λ (vs : List Value). record { values = vs; bounds = r.bounds }) (map_same reduced_value r.values (all_in (λ v. reduced_value v ≡ v) r.values (λ v m. value_stays k v some (in_all (HasPeriodOf k) r.values h v m))))

-- a relation whose points have the period k and residues
pub reads_itself : (k : ℕ) (r : Relation) → 0 < k → IsKept r → ((row : Row) → Contains r.rows row → AllByRecursion (HasPeriodOf k) row.values) → IsDatabase (relation_bytes r) (r ∷ [])
reads_itself k r some kept h =
    let rows : map reduced_row r.rows ≡ r.rows = map_same reduced_row r.rows (all_in (λ row. reduced_row row ≡ row) r.rows (λ row m. row_stays k row some (h row m))) in
    let same : reduced r ≡ r = ap (λ (all : List Row). record { name = r.name; columns = r.columns; rows = all }) rows in
    subst (λ s. IsDatabase (relation_bytes r) (s ∷ [])) same (read_reduced r kept)

-- ---- rows of an answer can be read

time_sort : (s : Sort) (x : ℤ) → IsOfKind s (time x) → is_time s ≡ true
time_sort Time x h = refl
time_sort Data x h = absurd h
time_sort (Named name) x h = absurd h

text_sort : (s : Sort) (t : Text) → IsOfKind s (text t) → is_time s ≡ false
text_sort Time t h = absurd h
text_sort Data t h = refl
text_sort (Named name) t h = refl

values_kept : (k : ℕ) (cs : List Column) (tuple : List Datum) → 0 < k → k ≤ greatest_number → HasShape cs tuple → AllByRecursion IsDataText (texts_of tuple) → AreValuesOf cs (map (answer_value (pos k)) tuple)
values_kept k [] [] some few s h = tt
values_kept k [] (d ∷ tuple) some few s h = absurd s
values_kept k (c ∷ cs) [] some few s h = absurd s
values_kept k (c ∷ cs) (time x ∷ tuple) some few s h = ((time_sort c.sort x s.0, omega (arith, ints), omega (arith, ints)), values_kept k cs tuple some few s.1 h)
values_kept k (c ∷ cs) (text t ∷ tuple) some few s h = ((text_sort c.sort t s.0, h.0), values_kept k cs tuple some few s.1 h.1)

texts_kept : (domain : List Text) (ns : List ℕ) (ts : List Text) → AreTexts domain ns ts → AllByRecursion IsDataText domain → AllByRecursion IsDataText ts
texts_kept domain [] [] h all = tt
texts_kept domain [] (t ∷ ts) h all = absurd h
texts_kept domain (n ∷ ns) [] h all = absurd h
texts_kept domain (n ∷ ns) (t ∷ ts) h all = (in_all IsDataText domain all t (Contains-from_get domain n t h.0), texts_kept domain ns ts h.1 all)

module _ (a : Answer) (store : IsStore a.store) (ascends : Ascends a.domain) (room : HasRoom a.store) (texts : AllByRecursion IsDataText a.domain) where
  row_kept : (cell : Cell) (table : List (Option ℤ)) (held : Contains (tables_at a.store cell) table) → IsRowOf a.head.columns (answer_row a.head.columns a.domain a.store cell table)
  row_kept cell table held =
      let z = zone a store ascends cell table held in
      let is = zone_is a store ascends cell table held in
      let h = head a store ascends cell table held in
      let n : time_count a.head.columns ≡ columns_of z = a.times_are ∙ sym (columns_are a store ascends cell table held) in
      let space = room.each cell table held in
      record {
        values = values_kept a.store.period a.head.columns (first a store ascends cell table held) store.period_low store.period_high h.shape
            (subst (AllByRecursion IsDataText) (sym h.texts) (texts_kept a.domain (take a.store.shape.texts cell.texts) _ (cell_texts a.store cell table held a.domain a.numbered) texts));
        bounds = all_in (IsBoundOf (time_count a.head.columns)) (closed_bounds z) (λ b m.
            let l = from_bounds (columns_of z + 1) (closed_at z is) b m in
            let small : AtMost (2 ^ 62) (Some b.most) = subst (λ e. AtMost (2 ^ 62) e) l.most (closed_small z is space.0 space.1 b.left b.right (less l.left) (less l.right) l.apart) in
            record { left = subst (λ k. b.left ≤ k) (sym n) (less l.left); right = subst (λ k. b.right ≤ k) (sym n) (less l.right); some = other b.left b.right l.apart; low = small.0; high = small.1 });
      }
    where
      less : {m n : ℕ} → m < n + 1 → m ≤ n
      less l = omega arith

      other : (i j : ℕ) → i ≢ j → 0 < i + j
      other i j ne = grind arith

  -- the relation can be read
  pub answer_kept : (called : Identifier) → IsName called → AreAnswerColumns a.head.columns → IsKept (named_relation called a)
  answer_kept called n k = record {
    name = n;
    columns = k.columns;
    differ = k.differ;
    times = k.times;
    texts = k.texts;
    rows = all_in (IsRowOf a.head.columns) (answer_rows a.head.columns a.domain a.store) (λ r m.
        let f = from_flat (cell_rows a.head.columns a.domain a.store) (finite.keys a.store.tables) r m in
        let w = row_at a store ascends f.0 r f.2 in
        subst (IsRowOf a.head.columns) w.is (row_kept f.0 w.table w.held));
  }

  -- and reads back as it is
  pub answer_reads : (called : Identifier) → IsName called → AreAnswerColumns a.head.columns → IsDatabase (relation_bytes (named_relation called a)) (named_relation called a ∷ [])
  answer_reads called n k =
      reads_itself a.store.period (named_relation called a) store.period_low (answer_kept called n k)
      (λ r m. (in_all (IsAnswerRow a.store.period a.store.shape.times) (answer_rows a.head.columns a.domain a.store) (rows_are a store ascends) r m).period)
