-- Counts that stop at the greatest word.
use Rattle.std.proofs.Common.{◌≡◌, ◌+◌, ◌<◌, ◌^◌, ℕ, max, min, ap, ◌∙◌, arith}
use Rattle.lrp_query.specs.Lawful.{formulas_in, formulas_of}
use Rattle.lrp_model.specs.RawQueries.{RawForm, RawForms}
use Rattle.lrp_wide.specs.Limits.{depth_of, depth_of_each}
use Rattle.lrp_wide.specs.Sizes.{IsSize, counted_formulas}
use Rattle.lrp_wide.specs.declared.measures.Size.{Size}

-- other words for the counts
pub sized : (size : Size) (m n d e : ℕ) → m ≡ n → d ≡ e → IsSize size m d → IsSize size n e
sized size m n d e f g h = record { formulas = h.formulas ∙ ap counted_formulas f; depth = h.depth ∙ ap counted_formulas g }

-- so many formulas more, each of which takes the next
abbrev pub Grows : Size → ℕ → Size → Type 0
Grows inner n made = (f d : ℕ) → IsSize inner f d → IsSize made (f + n) (d + n)

-- two beside each other
abbrev pub Joins : Size → Size → Size → Type 0
Joins one other made = (f d g e : ℕ) → IsSize one f d → IsSize other g e → IsSize made (f + g) (max d e)

-- formulas without parts
pub leaves : (made : Size) (n : ℕ) → n < 2 ^ 64 → made.formulas ≡ n → made.depth ≡ 1 → IsSize made n 1
leaves made n small f d = record { formulas = omega (arith, small, f); depth = omega (arith, d) }
