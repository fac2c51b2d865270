-- The sample's database is a lawful text without faults, and means its relation.
use Rattle.std.proofs.Common.{◌≡◌, ◌<◌, ◌≤◌, ◌%◌, ◌^◌, ℕ, List, [], ◌∷◌, ◌++◌, length, refl, ap, sym, subst, codes, arith}
use Rattle.std.specs.List.{flat_map, range_with_len}
use Rattle.std.specs.Str.{IsUtf8}
use Rattle.std.specs.Fmt.{decimal}
use Rattle.std.proofs.lemmas.Fmt.{IsAscii-decimal}
use Rattle.std.proofs.lemmas.Str.{IsUtf8-append, IsUtf8-from_ascii, IsUtf8-nil}
use Rattle.lrp_model.specs.declared.tokens.Place.{Place}
use Rattle.lrp_model.specs.declared.relations.Row.{Row}
use Rattle.lrp_model.specs.Lexing.{start, after}
use Rattle.lrp_model.specs.Printed.{quoted}
use Rattle.lrp_model.specs.Databases.{FitsRow, FitsDatabase}
use Rattle.lrp_model.specs.DatabaseMeaning.{row_of, database_of}
use Rattle.lrp_model.specs.DatabaseFaults.{row_faults, database_faults}
use Rattle.lrp_model.specs.DatabaseReading.{IsDatabase}
use Rattle.lrp_print.proofs.PieceLaws.{trees, after_piece}
use Rattle.lrp_print.proofs.Meant.{trees_map, trees_all}
use Rattle.lrp_sample.specs.Texts.{duration, departure, arrival, line, trip_line, heading, sample_database}
use Rattle.lrp_sample.specs.Trees.{trip, trips, sample_relations}
use Rattle.lrp_sample.proofs.Small.{departure_small, arrival_small, duration_small, line_is, line_quoted}
use Rattle.lrp_sample.proofs.Spelled.{columns_tree, trip_at, relation_tree, each, database_spelled}

-- ---- UTF-8

number_utf8 : (n : ℕ) → n < 2 ^ 64 → IsUtf8 (decimal n)
number_utf8 n lt = IsUtf8-from_ascii (decimal n) (IsAscii-decimal n lt)

line_utf8 : (i : ℕ) → IsUtf8 (quoted (line i))
unfolding lib.Utf8.encode
line_utf8 i = subst IsUtf8 (sym (line_quoted i)) (IsUtf8-append (codes "\"L") (decimal (i % 10) ++ codes "\"") (codes "\"L", (refl, refl)) (IsUtf8-append (decimal (i % 10)) (codes "\"") (number_utf8 (i % 10) (omega arith)) (codes "\"", (refl, refl))))

trip_utf8 : (seed i : ℕ) → IsUtf8 (trip_line seed i)
unfolding lib.Utf8.encode
trip_utf8 seed i =
    IsUtf8-append (codes "  (") _ (codes "  (", (refl, refl)) (IsUtf8-append (decimal (departure seed i)) _ (number_utf8 (departure seed i) (departure_small seed i))
    (IsUtf8-append (codes "+1440n, ") _ (codes "+1440n, ", (refl, refl)) (IsUtf8-append (decimal (arrival seed i)) _ (number_utf8 (arrival seed i) (arrival_small seed i))
    (IsUtf8-append (codes "+1440n, ") _ (codes "+1440n, ", (refl, refl)) (IsUtf8-append (quoted (line i)) _ (line_utf8 i)
    (IsUtf8-append (codes ") where arr = dep + ") _ (codes ") where arr = dep + ", (refl, refl)) (IsUtf8-append (decimal (duration i)) (codes ";\n") (number_utf8 (duration i) (duration_small i)) (codes ";\n", (refl, refl)))))))))

trips_utf8 : (seed : ℕ) (xs : List ℕ) → IsUtf8 (flat_map (trip_line seed) xs)
trips_utf8 seed [] = IsUtf8-nil
trips_utf8 seed (i ∷ xs) = IsUtf8-append (trip_line seed i) (flat_map (trip_line seed) xs) (trip_utf8 seed i) (trips_utf8 seed xs)

database_utf8 : (seed size : ℕ) → IsUtf8 (sample_database seed size)
unfolding lib.Utf8.encode
database_utf8 seed size = IsUtf8-append heading _ (heading, (refl, refl)) (IsUtf8-append (flat_map (trip_line seed) (range_with_len 0 size)) (codes "}\n") (trips_utf8 seed (range_with_len 0 size)) (codes "}\n", (refl, refl)))

-- ---- lawful

line_short : (i : ℕ) → length (line i) ≤ 255
line_short i = subst (λ t. length t ≤ 255) (sym (line_is i)) (omega arith)

trip_fits : (seed i : ℕ) (p : Place) → FitsRow (trip_at seed p i).item
trip_fits seed i p = (((omega arith, omega arith, omega arith), ((omega arith, omega arith, omega arith), (line_short i, tt))), (omega arith, tt))

database_fits : (seed size : ℕ) → FitsDatabase (relation_tree seed size start ∷ [])
database_fits seed size = (trees_all (after_piece (trip_line seed)) (trip_at seed) (λ i. Unit {0}) (λ row. FitsRow row.item) (λ i p h. trip_fits seed i p) (range_with_len 0 size) (after start heading) (each (range_with_len 0 size)), tt)

-- ---- without faults

trips_sound : (seed : ℕ) (xs : List ℕ) (p : Place) → flat_map (row_faults (columns_tree start)) (trees (after_piece (trip_line seed)) (trip_at seed) p xs) ≡ []
unfolding lib.Utf8.encode
trips_sound seed [] p = refl
trips_sound seed (i ∷ xs) p = trips_sound seed xs (after p (trip_line seed i))

database_sound : (seed size : ℕ) → database_faults (relation_tree seed size start ∷ []) ≡ []
unfolding lib.Utf8.encode
database_sound seed size = ap (λ l. l ++ []) (trips_sound seed (range_with_len 0 size) (after start heading))

-- ---- what it means

trip_means : (seed i : ℕ) (p : Place) → row_of (columns_tree start) (trip_at seed p i).item ≡ trip seed i
unfolding lib.Utf8.encode
trip_means seed i p = refl

database_means : (seed size : ℕ) → sample_relations seed size ≡ database_of (relation_tree seed size start ∷ [])
database_means seed size =
    let rows = trees_map (after_piece (trip_line seed)) (trip_at seed) (λ row. row_of (columns_tree start) row.item) (trip seed) (λ i. Unit {0}) (λ i p h. trip_means seed i p) (range_with_len 0 size) (after start heading) (each (range_with_len 0 size)) in
    ap (λ (l : List Row). record { name = codes "trip"; columns = (trips seed size).columns; rows = l } ∷ []) (sym rows)

-- the text is read as the relation
pub database_is_read : (seed size : ℕ) → IsDatabase (sample_database seed size) (sample_relations seed size)
database_is_read seed size = record {
  tree = relation_tree seed size start ∷ [];
  text = record { utf8 = database_utf8 seed size; spelled = database_spelled seed size; lawful = database_fits seed size };
  sound = database_sound seed size;
  meant = database_means seed size;
}
