-- The four lines that tell of the sample.
use Rattle.std.specs.Prelude.{ℕ, List, ◌++◌, Option, codes}
use Rattle.std.specs.Fmt.{decimal}
use Rattle.lrp_model.specs.Rows.{Tuple}
use Rattle.lrp_outputs.specs.First.{first_line}

-- the numbers of rows and of cells, and the word before the least answer
abbrev pub counts_text : ℕ → ℕ → List ℕ
counts_text rows cells = codes "rows " ++ (decimal rows ++ (codes "\ncells " ++ (decimal cells ++ codes "\nfirst ")))

-- the number of answers in the window
abbrev pub window_line : ℕ → List ℕ
window_line count = codes "window " ++ (decimal count ++ codes "\n")

-- the four lines: the rows, the cells, the least answer, and the answers in the window
abbrev pub sample_lines : ℕ → ℕ → Option Tuple → ℕ → List ℕ
sample_lines rows cells first count = counts_text rows cells ++ (first_line first ++ window_line count)
