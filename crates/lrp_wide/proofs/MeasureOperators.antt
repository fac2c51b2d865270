-- What operators stand for, by its size.
use Rattle.std.proofs.Common.{◌≡◌, ◌+◌, ℕ, ℤ, max, min, refl, arith}
use Rattle.lrp_query.specs.Lawful.{formulas_in}
use Rattle.lrp_model.specs.Texts.{Identifier}
use Rattle.lrp_model.specs.RawQueries.{Operator, RawForm}
use Rattle.lrp_model.specs.declared.raw.Ranged.TheVariants.{Once, Always}
use Rattle.lrp_model.specs.declared.raw.Paired.{Paired}
use Rattle.lrp_model.specs.declared.raw.Paired.TheVariants.{Since, Until}
use Rattle.lrp_tense.specs.Expanding.{form_of_pair, form_of_range}
use Rattle.lrp_wide.specs.Limits.{depth_of}
use Rattle.lrp_wide.specs.Sizes.{IsSize, IsSizeOf}
use Rattle.lrp_wide.specs.declared.measures.Size.{Size}
use Rattle.lrp_wide.proofs.MeasureNumbers.{sized}

pub once_sized : (o : Operator) (x v : Identifier) (from to : ℤ) (f : RawForm) (made : Size) → IsSize made (formulas_in f + 2 + 2) (max (depth_of f) (min 2 1) + 2) → IsSizeOf made (form_of_range Once o x v from to f)
once_sized o x v from to f made h = sized made _ _ _ _ (omega arith) (omega arith) h

pub always_sized : (o : Operator) (x v : Identifier) (from to : ℤ) (f : RawForm) (made : Size)
    → IsSize made (formulas_in f + (0 + 2 + 1) + 2) (max (depth_of f) (max 0 (min 2 1) + 1) + 2) → IsSizeOf made (form_of_range Always o x v from to f)
always_sized o x v from to f made h = sized made _ _ _ _ (omega arith) (omega arith) h

pub pair_sized : (word : Paired) (o : Operator) (x y v : Identifier) (f g : RawForm) (made : Size)
    → IsSize made (formulas_in g + (formulas_in f + (0 + 2 + 1) + 2) + 1 + 2) (max (max (depth_of g) (max (depth_of f) (max 0 (min 2 1) + 1) + 2)) (min 1 1) + 2)
    → IsSizeOf made (form_of_pair word o x y v f g)
pair_sized Since o x y v f g made h = sized made _ _ _ _ (omega arith) (omega arith) h
pair_sized Until o x y v f g made h = sized made _ _ _ _ (omega arith) (omega arith) h
