-- The sample's texts are short.
use Rattle.std.proofs.Common.{◌≤◌, ◌+◌, ◌*◌, ◌%◌, ℕ, zero, suc, length, subst, arith, length-append}
use Rattle.std.specs.List.{flat_map, range_with_len}
use Rattle.std.specs.Fmt.{decimal}
use Rattle.std.proofs.lemmas.Fmt.{length-decimal-le}
use Rattle.lrp_sample.specs.Texts.{duration, departure, arrival, trip_line, sample_database}
use Rattle.lrp_sample.proofs.Small.{printed_is}

-- a line has at most 100 bytes
trip_short : (seed i : ℕ) → length (trip_line seed i) ≤ 100
trip_short seed i =
    let d : length (decimal (departure seed i)) ≤ 4 = length-decimal-le 4 (departure seed i) (omega arith) (omega arith) (omega arith) in
    let a : length (decimal (arrival seed i)) ≤ 4 = length-decimal-le 4 (arrival seed i) (omega arith) (omega arith) (omega arith) in
    let j : length (decimal (i % 10)) ≤ 1 = length-decimal-le 1 (i % 10) (omega arith) (omega arith) (omega arith) in
    let m : length (decimal (duration i)) ≤ 2 = length-decimal-le 2 (duration i) (omega arith) (omega arith) (omega arith) in
    subst (λ l. length l ≤ 100) (printed_is seed i) (simp length-append (omega arith))

-- the lines together
trips_short : (seed a n : ℕ) → length (flat_map (trip_line seed) (range_with_len a n)) ≤ 100 * n
trips_short seed a zero = omega arith
trips_short seed a (suc n) =
    let more = trips_short seed (a + 1) n in
    let one = trip_short seed a in
    omega (arith, one, more, length-append (trip_line seed a) (flat_map (trip_line seed) (range_with_len (a + 1) n)))

-- a database of at most 500 trips
pub database_short : (seed size : ℕ) → size ≤ 500 → length (sample_database seed size) ≤ 16777216
database_short seed size le =
    let rows = trips_short seed 0 size in
    simp length-append (omega (arith, rows))
