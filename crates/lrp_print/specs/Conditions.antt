-- Conditions after the word `where`.
use Rattle.std.specs.Prelude.{ℕ, List, [], ◌∷◌, ◌++◌, codes}
use Rattle.lrp_model.specs.Printed.{joined_by}

-- ` where ` and the texts of the elements with commas between, if there are any
abbrev pub after_where : {A : Type 0} → (A → List ℕ) → List A → List ℕ
after_where text [] = []
after_where text (a ∷ all) = codes " where " ++ joined_by (codes ", ") text (a ∷ all)
