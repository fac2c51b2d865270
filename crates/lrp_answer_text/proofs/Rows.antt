-- The rows of an answer, one zone after another and one cell after another.
use Rattle.std.proofs.Common.{◌≡◌, ◌<◌, ◌∙◌, ℕ, List, [], ◌∷◌, ◌++◌, Option, Some, None, refl, sym, ap, ap₂, subst, append_assoc, append-nil, arith, map, length, take, codes, Bool, true, false, ◌≢◌}
use Rattle.std.specs.Prelude.{pos, slice_get, ◌==◌, if◌then◌else◌}
use Rattle.std.specs.List.{flat_map, AllByRecursion}
use Rattle.std.proofs.lemmas.Grind.{flat_map-append}
use Rattle.std.proofs.lemmas.Int.{ints}
use Rattle.std.proofs.lemmas.Bool.Decides.{nat_tests}
use Rattle.std.proofs.lemmas.List.{length-map}
use Rattle.std.specs.FinMap as finite
use Rattle.lrp_io.specs.Bytes.{appended, AppendsFront}
use Rattle.lrp_io.proofs.BytesLemmas.{appended_twice}
use Rattle.lrp_io.proofs.PieceLemmas.{front_after, front_before}
use Rattle.lrp_model.specs.Texts.{Text, Identifier, Ascends}
use Rattle.lrp_model.specs.Printed.{column_bytes, joined_by, relation_bytes, row_line}
use Rattle.lrp_model.specs.declared.relations.Column.{Column}
use Rattle.lrp_model.specs.declared.relations.Row.{Row}
use Rattle.lrp_model.specs.declared.tuples.Cell.{Cell}
use Rattle.lrp_zone.specs.Zones.{ZoneView}
use Rattle.lrp_store.specs.Least.{HasRoom, IsRoom}
use Rattle.lrp_store.specs.Reading.{entries_of}
use Rattle.lrp_store.specs.Stores.{StoreView, IsStore, zone_of, zones_at, tables_at}
use Rattle.lrp_answers.specs.declared.answer.Answer.{Answer}
use Rattle.lrp_store.proofs.Held.{Contains-from_get}
use Rattle.lrp_answer_text.specs.AnswerText.{named_answer_text, named_relation, cell_rows, cell_values, closed_bounds, answer_row, answer_rows}
use Rattle.lrp_answers.proofs.Cells.{read_map, table_of}

-- ---- one zone

-- the zone that was read has room
pub room_at : (s : StoreView) (cell : Cell) (i : ℕ) (z : ZoneView) → HasRoom s → Some z ≡ slice_get (zones_at s cell) i → (h : ℕ) × IsRoom z h
room_at s cell i z room read =
    let t = table_of s cell i z read in
    let r = room.each cell t.0 t.1 in
    (r.0, subst (λ y. IsRoom y r.0) (sym t.2) r.1)

-- a row for each zone
pub rows_count : (columns : List Column) (domain : List Text) (s : StoreView) (cell : Cell) → length (cell_rows columns domain s cell) ≡ length (tables_at s cell)
rows_count columns domain s cell = length-map (tables_at s cell) (answer_row columns domain s cell)

-- ---- what an iterator gives

-- the bytes of the elements that are no longer left were appended
pub record AreDone {A : Type 0} (f : A → List ℕ) (all left : List A) (old now : Option (List ℕ)) : Type 0 where
  pub done : List A
  pub split : done ++ left ≡ all
  pub so_far : now ≡ appended old (flat_map f done)

-- none at the start
pub none_done : {A : Type 0} (f : A → List ℕ) (all left : List A) (old : Option (List ℕ)) → left ≡ all → AreDone f all left old old
none_done f all left old e = record { done = []; split = e; so_far = nothing old }
  where
    nothing : (o : Option (List ℕ)) → o ≡ appended o []
    nothing None = refl
    nothing (Some bytes) = ap Some (sym (append-nil bytes))

-- the place of the first that is left
at_split : {A : Type 0} (done : List A) (x : A) (rest all : List A) → done ++ x ∷ rest ≡ all → Some x ≡ slice_get all (length done)
at_split [] x rest all e = ap (λ l. slice_get l 0) e
at_split (d ∷ done) x rest all e = at_split done x rest (done ++ x ∷ rest) refl ∙ ap (λ l. slice_get l (length (d ∷ done))) e

module _ {A : Type 0} (f : A → List ℕ) (all : List A) (x : A) (left : List A) (old now new : Option (List ℕ)) (h : AreDone f all (x ∷ left) old now) where
  more : flat_map f (h.done ++ x ∷ []) ≡ flat_map f h.done ++ f x
  more = flat_map-append f h.done (x ∷ []) ∙ ap (λ bs. flat_map f h.done ++ bs) (append-nil (f x))

  -- one more
  pub one_done : new ≡ appended now (f x) → AreDone f all left old new
  one_done e = record {
    done = h.done ++ x ∷ [];
    split = append_assoc h.done (x ∷ []) left ∙ h.split;
    so_far = e ∙ ap (λ o. appended o (f x)) h.so_far ∙ appended_twice old (flat_map f h.done) (f x) ∙ ap (appended old) (sym more);
  }

  -- a front of one more's
  pub front_done : AppendsFront now new (f x) → AppendsFront old new (flat_map f all)
  front_done w =
      let front : AppendsFront old new (flat_map f h.done ++ f x) = front_after old now new (flat_map f h.done) (f x) h.so_far w in
      let whole : flat_map f all ≡ (flat_map f h.done ++ f x) ++ flat_map f left = ap (flat_map f) (sym h.split) ∙ flat_map-append f h.done (x ∷ left) ∙ sym (append_assoc (flat_map f h.done) (f x) (flat_map f left)) in
      subst (λ bs. AppendsFront old new bs) (sym whole) (front_before old new (flat_map f h.done ++ f x) (flat_map f left) front)

  -- where it stands
  pub next_at : (i : ℕ) × (Some x ≡ slice_get all i)
  next_at = (length h.done, at_split h.done x left all h.split)

-- all at the end
pub all_done : {A : Type 0} (f : A → List ℕ) (all left : List A) (old now : Option (List ℕ)) → left ≡ [] → AreDone f all left old now → now ≡ appended old (flat_map f all)
all_done f all left old now e h = h.so_far ∙ ap (λ xs. appended old (flat_map f xs)) (sym (append-nil h.done) ∙ ap (λ xs. h.done ++ xs) (sym e) ∙ h.split)

-- what is made of a mapped list
of_mapped : {A B C : Type 0} (f : B → List C) (g : A → B) (h : A → List C) → ((x : A) → f (g x) ≡ h x) → (xs : List A) → flat_map f (map g xs) ≡ flat_map h xs
of_mapped f g h e [] = refl
of_mapped f g h e (x ∷ xs) = ap₂ (λ a b. a ++ b) (e x) (of_mapped f g h e xs)

-- ---- the zones of a cell

-- the line of a zone
abbrev pub zone_line : List Column → List Text → StoreView → Cell → ZoneView → List ℕ
zone_line columns domain s cell z = row_line columns (record { values = cell_values columns domain s cell; bounds = closed_bounds z })

-- the lines of a cell
abbrev pub cell_lines : List Column → List Text → StoreView → Cell → List ℕ
cell_lines columns domain s cell = flat_map (row_line columns) (cell_rows columns domain s cell)

pub zone_lines : (columns : List Column) (domain : List Text) (s : StoreView) (cell : Cell) → flat_map (zone_line columns domain s cell) (zones_at s cell) ≡ cell_lines columns domain s cell
zone_lines columns domain s cell =
    of_mapped (zone_line columns domain s cell) (zone_of s cell) (λ t. row_line columns (answer_row columns domain s cell t)) (λ t. refl) (tables_at s cell)
    ∙ sym (of_mapped (row_line columns) (answer_row columns domain s cell) (λ t. row_line columns (answer_row columns domain s cell t)) (λ t. refl) (tables_at s cell))

-- ---- the cells

-- the lines of a cell that is given with its zones
abbrev pub entry_lines : List Column → List Text → StoreView → Cell × List ZoneView → List ℕ
entry_lines columns domain s e = cell_lines columns domain s e.0

-- a cell is given with its own zones
pub entry_at : (s : StoreView) (cell : Cell) (zones : List ZoneView) (i : ℕ) → Some (cell, zones) ≡ slice_get (entries_of s) i → zones ≡ zones_at s cell
entry_at s cell zones i read =
    let e = read_map (λ c. (c, zones_at s c)) (finite.keys s.tables) i (cell, zones) read in
    ap (λ p. p.1) e.2 ∙ ap (λ p. zones_at s p.0) (sym e.2)

-- the lines of all cells are those of all rows
lines_of : (columns : List Column) (rows : Cell → List Row) (cells : List Cell) → flat_map (λ cell. flat_map (row_line columns) (rows cell)) cells ≡ flat_map (row_line columns) (flat_map rows cells)
lines_of columns rows [] = refl
lines_of columns rows (cell ∷ cells) = ap (λ bs. flat_map (row_line columns) (rows cell) ++ bs) (lines_of columns rows cells) ∙ sym (flat_map-append (row_line columns) (rows cell) (flat_map rows cells))

pub all_lines : (columns : List Column) (domain : List Text) (s : StoreView) → flat_map (entry_lines columns domain s) (entries_of s) ≡ flat_map (row_line columns) (answer_rows columns domain s)
all_lines columns domain s =
    of_mapped (entry_lines columns domain s) (λ cell. (cell, zones_at s cell)) (cell_lines columns domain s) (λ cell. refl) (finite.keys s.tables)
    ∙ lines_of columns (cell_rows columns domain s) (finite.keys s.tables)

-- ---- the whole text

-- how the text of a relation of a name begins
abbrev pub opening : Identifier → List ℕ
opening called = codes "relation " ++ (called ++ codes "(")

opened : (called : Identifier) (rest : List ℕ) → opening called ++ rest ≡ codes "relation " ++ (called ++ (codes "(" ++ rest))
opened called rest = ap (λ x. codes "relation " ++ x) (append_assoc called (codes "(") rest)

-- the text of an answer that has a cell
abbrev pub some_text : Identifier → Answer → List ℕ
some_text called a = opening called ++ (joined_by (codes ", ") column_bytes a.head.columns ++ (codes ") {\n" ++ (flat_map (row_line a.head.columns) (answer_rows a.head.columns a.domain a.store) ++ codes "}\n")))

pub text_is : (called : Identifier) (a : Answer) (n : ℕ) → n ≡ finite.len a.store.tables → n ≢ 0 → some_text called a ≡ named_answer_text called a
text_is called a n e ne = by (finite.len a.store.tables == 0) refl
  where
    apart : (k : ℕ) → (k == 0) ≡ true → k ≡ 0
    apart k h = grind (arith, nat_tests)

    by : (b : Bool) → (finite.len a.store.tables == 0) ≡ b → some_text called a ≡ named_answer_text called a
    by true h = absurd (ne (e ∙ apart (finite.len a.store.tables) h))
    by false h = opened called _ ∙ ap (λ b. if b then codes "Empty\n" else relation_bytes (named_relation called a)) (sym h)
