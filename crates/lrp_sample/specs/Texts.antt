-- The two texts of the sample: a database of trips that a seed and a size give, and one query.
use Rattle.std.specs.Prelude.{◌+◌, ◌*◌, ◌%◌, ℕ, List, ◌++◌, flat_map, codes}
use Rattle.std.specs.List.{range_with_len}
use Rattle.std.specs.Fmt.{decimal}
use Rattle.lrp_model.specs.Texts.{Text}
use Rattle.lrp_model.specs.Printed.{quoted}

-- how many minutes trip i takes
abbrev pub duration : ℕ → ℕ
duration i = 10 + i % 50

-- the minute of the day at which it leaves
abbrev pub departure : ℕ → ℕ → ℕ
departure seed i = (seed + 37 * i) % 1440

-- the minute of the day at which it arrives
abbrev pub arrival : ℕ → ℕ → ℕ
arrival seed i = (departure seed i + duration i) % 1440

-- its line, L0 to L9
abbrev pub line : ℕ → Text
line i = codes "L" ++ decimal (i % 10)

-- the row of trip i, on a line of its own
abbrev pub trip_line : ℕ → ℕ → List ℕ
trip_line seed i =
    codes "  (" ++ (decimal (departure seed i) ++ (codes "+1440n, " ++ (decimal (arrival seed i) ++ (codes "+1440n, " ++ (quoted (line i) ++
    (codes ") where arr = dep + " ++ (decimal (duration i) ++ codes ";\n")))))))

-- the first line
abbrev pub heading : List ℕ
heading = codes "relation trip(dep: time, arr: time, line: data) {\n"

-- the relation of the trips 0 to size - 1
abbrev pub sample_database : ℕ → ℕ → List ℕ
sample_database seed size = heading ++ (flat_map (trip_line seed) (range_with_len 0 size) ++ codes "}\n")

-- the departures after whose arrival no trip leaves within 15 minutes
abbrev pub sample_query : List ℕ
sample_query = codes "{ t: time, l: data | exists u: time (trip(t, u, l) and not exists v: time exists w: time exists k: data (trip(v, w, k) and v >= u and v <= u + 15)) }\n"
