-- The line of a tuple, by its form.
use Rattle.std.specs.Prelude.{◌≡◌, ℕ, ℤ, Bool, true, false, List, [], ◌∷◌, ◌++◌, map, codes}
use Rattle.lrp_model.specs.Texts.{Text}
use Rattle.lrp_model.specs.Rows.{Datum, time, text, Tuple}
use Rattle.lrp_model.specs.Printed.{joined_by, quoted}
use Rattle.lrp_answer_text.specs.declared.texts.Form.{Form}
use Rattle.lrp_answer_text.specs.declared.texts.Form.TheVariants.{Plain, Json}

-- whether lines are JSON
abbrev pub is_json : Form → Bool
is_json Plain = false
is_json (Json texts) = true

-- the texts that a form has are the JSON texts of the domain's
abbrev pub IsFormOf : List Text → Form → Type 0
IsFormOf domain Plain = Unit {0}
IsFormOf domain (Json texts) = texts ≡ map quoted domain

-- a time by its bytes, or a text in quotes
abbrev pub spelled_datum : (ℤ → List ℕ) → Datum → List ℕ
spelled_datum times (time x) = times x
spelled_datum times (text t) = quoted t

-- the line of a tuple with its times spelled so, in JSON where the flag is set
abbrev pub tuple_line : (ℤ → List ℕ) → Bool → Tuple → List ℕ
tuple_line times false [] = codes "()\n"
tuple_line times false (d ∷ ds) = joined_by (codes ", ") (spelled_datum times) (d ∷ ds) ++ codes "\n"
tuple_line times true tuple = codes "[" ++ (joined_by (codes ",") (spelled_datum times) tuple ++ codes "]\n")

-- the values of a tuple, the first after some bytes and each further one after others
abbrev pub values_after : (ℤ → List ℕ) → List ℕ → List ℕ → Tuple → List ℕ
values_after times before between [] = []
values_after times before between (d ∷ ds) = before ++ (spelled_datum times d ++ values_after times between between ds)
