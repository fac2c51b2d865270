-- The line of a range is that of a tuple of its two ends, however times are written.
use Rattle.std.proofs.Common.{◌≡◌, ◌++◌, ◌∷◌, [], ℕ, List, Bool, SFits, true, false, codes, of_z, refl, ap₂, to_z, w64}
use Rattle.std.proofs.lemmas.Int.{to_z-of_z}
use Rattle.lrp_count.specs.declared.windows.Range.{Range}
use Rattle.lrp_model.specs.Printed.{joined_by}
use Rattle.lrp_outputs.specs.RangeLines.{end_bytes, range_ends, range_line}

pub plain_is : (civil json : Bool) (range : Range) → json ≡ false → joined_by (codes ", ") (end_bytes civil json) (range_ends range) ++ codes "\n" ≡ range_line civil json range
plain_is false false range e = refl
plain_is true false range e = refl
plain_is false true range e = cc
plain_is true true range e = cc

pub json_is : (civil json : Bool) (range : Range) → json ≡ true → codes "[" ++ (joined_by (codes ",") (end_bytes civil json) (range_ends range) ++ codes "]\n") ≡ range_line civil json range
json_is false true range e = refl
json_is true true range e = refl
json_is false false range e = cc
json_is true false range e = cc

-- the ends by their words
pub ends_by_words : (civil json : Bool) (between : List ℕ) (range : Range) → SFits w64 range.from → SFits w64 range.to
    → joined_by between (end_bytes civil json) (to_z w64 (of_z w64 range.from) ∷ to_z w64 (of_z w64 range.to) ∷ []) ≡ joined_by between (end_bytes civil json) (range_ends range)
ends_by_words civil json between range f t = ap₂ (λ a b. joined_by between (end_bytes civil json) (a ∷ b ∷ [])) (to_z-of_z w64 range.from f) (to_z-of_z w64 range.to t)
