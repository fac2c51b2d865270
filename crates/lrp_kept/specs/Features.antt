-- Numbers by which tuples are told apart.
use Rattle.std.specs.Prelude.{◌≡◌, ℕ, ℤ, List, pos, slice_index}
use Rattle.std.specs.Int.{int_rem_euclid}
use Rattle.lrp_kept.specs.declared.features.Feature.{Feature}
use Rattle.lrp_kept.specs.declared.features.Feature.TheVariants.{Text, Time}

-- the text at the place has this number, or the time there has it as its residue
abbrev pub HasFeatureNumber : Feature → (ℕ → ℤ) → List ℕ → ℕ → Type 0
HasFeatureNumber (Text place) xs ns n = slice_index ns place ≡ n
HasFeatureNumber (Time place period) xs ns n = pos n ≡ int_rem_euclid (xs place) (pos period)
