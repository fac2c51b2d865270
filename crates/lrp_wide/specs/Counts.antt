-- What the code keeps of definitions and of the numbers of their texts.
use Rattle.std.specs.Prelude.{◌≡◌, ◌≤◌, ◌+◌, ◌-◌, ◌^◌, ◌++◌, ℕ, Bool, true, false, IsTrue, length, List, [], ◌∷◌, map, min}
use Rattle.std.specs.List.{AllWithin}
use Rattle.lrp_model.specs.RawQueries.{RawFileView, RawForm, RawForms}
use Rattle.lrp_model.specs.declared.relations.Relation.{Relation}
use Rattle.lrp_model.specs.declared.tokens.Place.{Place}
use Rattle.lrp_sorts.specs.Definitions.{Defined, rowless}
use Rattle.lrp_tense.specs.Expanding.{is_before}
use Rattle.lrp_wide.specs.Inlining.{Counted, Known, counted_each, counted_in, known_of}
use Rattle.lrp_wide.specs.declared.numbering.Counted.{Counted as CountedAtom}

-- ---- numbers that stop

-- a number as it is kept: it stops at the greatest word
abbrev pub stopped : ℕ → ℕ
stopped n = min n (2 ^ 64 - 1)

abbrev pub stopped_count : Counted → Counted
stopped_count c = record { place = c.place; numbers = stopped c.numbers }

abbrev pub stopped_counts : List Counted → List Counted
stopped_counts = map stopped_count

-- the atoms of a text with such numbers
abbrev pub kept_in : List Relation → List Known → RawForm → List Counted
kept_in db ks f = stopped_counts (counted_in db ks f)

abbrev pub kept_each : List Relation → List Known → RawForms → List Counted
kept_each db ks fs = stopped_counts (counted_each db ks fs)

-- ---- definitions

-- the definitions of a file, as relations without rows
abbrev pub AreRowless : Defined → RawFileView → Type 0
AreRowless d f = d.definitions ≡ map (λ written. rowless written.name written.columns) f.definitions

-- the first definitions, as relations without rows and with their numbers, are these
pub record IsRelationNumbered (k : Known) (entry : Relation × List Counted) : Type 0 where
  pub name : entry.0.name ≡ k.name
  pub columns : entry.0.columns ≡ k.columns
  pub counted : entry.1 ≡ stopped_counts k.counted

abbrev pub AreRelationsNumbered : List Known → List Relation → List (List Counted) → Type 0
AreRelationsNumbered [] definitions numbers = numbers ≡ []
AreRelationsNumbered (k ∷ ks) (d ∷ ds) (n ∷ ns) = IsRelationNumbered k (d, n) × AreRelationsNumbered ks ds ns
AreRelationsNumbered (k ∷ ks) _ _ = ⊥

-- ---- numbers as they are kept

-- the atoms without what is summed
abbrev pub counted_of : List CountedAtom → List Counted
counted_of = map (λ a. record { place = a.place; numbers = a.numbers })

-- from a sum on, each atom keeps what those before it take, and all take the total
abbrev pub SumTo : ℕ → List CountedAtom → ℕ → Type 0
SumTo sum [] total = total ≡ stopped sum
SumTo sum (a ∷ atoms) total = (a.before ≡ stopped sum) × SumTo (sum + a.numbers) atoms total

-- each atom stands before the next one
abbrev pub AreAscending : List CountedAtom → Type 0
AreAscending [] = Unit {0}
AreAscending (a ∷ []) = Unit {0}
AreAscending (a ∷ (b ∷ atoms)) = IsTrue (is_before a.place b.place) × AreAscending (b ∷ atoms)

-- the last of them stands before a place, or there is none
abbrev pub end_before : List CountedAtom → Place → Bool
end_before [] p = true
end_before (a ∷ []) p = is_before a.place p
end_before (a ∷ (b ∷ atoms)) p = end_before (b ∷ atoms) p

-- this many of the first stand before a place, and none after them does
pub record IsFirstAfter (atoms : List CountedAtom) (p : Place) (n : ℕ) : Type 0 where
  pub bound : n ≤ length atoms
  pub before : AllWithin (λ a. is_before a.place p ≡ true) atoms 0 n
  pub after : AllWithin (λ a. is_before a.place p ≡ false) atoms n (length atoms)

-- a flag tells of atoms that stand in the order of their places
pub record AreSummed (atoms : List CountedAtom) (total : ℕ) (is_ascending : Bool) : Type 0 where
  pub sums : SumTo 0 atoms total
  pub ascending : IsTrue is_ascending → AreAscending atoms

-- the numbers of a file's definitions, and last those of its query, as they are kept
abbrev pub file_numbers : List Relation → RawFileView → List (List Counted)
file_numbers db f =
    let ks = known_of db [] f.definitions in
    map (λ k. stopped_counts k.counted) ks ++ kept_in db ks f.query.body ∷ []
