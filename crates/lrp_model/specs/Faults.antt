-- Which of several faults is reported: the earliest, and at one place the one whose kind has the least number.
use Rattle.std.specs.Prelude.{◌+◌, ◌==◌, ℕ, Bool, true, false, List, [], ◌∷◌, ◌++◌, Option, Some, None, if◌then◌else◌}
use Rattle.std.specs.Ordering.{nat_cmp, match_ordering}
use Rattle.std.specs.Cmp.Lexicographic.{slice_cmp}
use Rattle.std.specs.List.{list_any}
use Rattle.std.specs.Str.{bytes_eq}
use Rattle.lrp_model.specs.Texts.{Identifier}
use Rattle.lrp_model.specs.Sorts.{is_time}
use Rattle.lrp_model.specs.declared.raw.RawColumn.{RawColumn}
use Rattle.lrp_model.specs.declared.tokens.Place.{Place}
use Rattle.lrp_model.specs.declared.written.Located.{Located}

-- what faults are ordered by: the line, the column, and the number of the kind
abbrev pub standing : Place → ℕ → List ℕ
standing p number = p.line ∷ p.column ∷ number ∷ []

-- the earlier of a fault and another, where there is another; of two that stand alike, the first
abbrev pub earlier : {F : Type 0} → (F → List ℕ) → F → Option F → Option F
earlier stands f None = Some f
earlier stands f (Some g) = match_ordering (slice_cmp nat_cmp (stands g) (stands f)) (Some g) (Some f) (Some f)

-- the earliest fault of a list, where there is one
abbrev pub earliest : {F : Type 0} → (F → List ℕ) → List F → Option F
earliest stands [] = None
earliest stands (f ∷ fs) = earlier stands f (earliest stands fs)

-- ---- faults that databases and queries share

-- this fault, where the test is true
abbrev pub fault_if : {F : Type 0} → Bool → F → List F
fault_if true f = f ∷ []
fault_if false f = []

-- the name is one of the list
abbrev pub is_named_in : List Identifier → Identifier → Bool
is_named_in names n = list_any (bytes_eq n) names

-- a fault at each name that stands in the list before
abbrev pub repeated : {F : Type 0} → (Place → F) → List Identifier → List (Located Identifier) → List F
repeated fault before [] = []
repeated fault before (n ∷ ns) = fault_if (is_named_in before n.item) (fault n.place) ++ repeated fault (n.item ∷ before) ns

-- a fault at a ninth time column, and at a ninth column among those of all data sorts, after so many of each
abbrev pub ninth : {F : Type 0} → (Place → F) → ℕ → ℕ → List RawColumn → List F
ninth fault times texts [] = []
ninth fault times texts (c ∷ cs) =
    if is_time c.sort then fault_if (times == 8) (fault c.place) ++ ninth fault (times + 1) texts cs
    else fault_if (texts == 8) (fault c.place) ++ ninth fault times (texts + 1) cs
