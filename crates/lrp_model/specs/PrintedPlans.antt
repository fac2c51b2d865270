-- Plans as they are written out: a line for each step.
use Rattle.std.specs.Prelude.{◌+◌, ℕ, List, [], ◌∷◌, ◌++◌, codes}
use Rattle.std.specs.Fmt.{decimal, signed_decimal}
use Rattle.lrp_model.specs.Texts.{Identifier}
use Rattle.lrp_model.specs.Printed.{joined_by, quoted, point_bytes, offset_bytes, sort_bytes}
use Rattle.lrp_model.specs.declared.formulas.TimeTerm.{TimeTerm}
use Rattle.lrp_model.specs.declared.formulas.TimeTerm.TheVariants.{Var as time_var, Int as time_int}
use Rattle.lrp_model.specs.declared.formulas.DataTerm.{DataTerm}
use Rattle.lrp_model.specs.declared.formulas.DataTerm.TheVariants.{Var as data_var, Const as data_const}
use Rattle.lrp_model.specs.declared.formulas.Term.{Term}
use Rattle.lrp_model.specs.declared.formulas.Term.TheVariants.{Time as time_term, Data as data_term}
use Rattle.lrp_model.specs.declared.formulas.Op.{Op}
use Rattle.lrp_model.specs.declared.formulas.Op.TheVariants.{Le, Lt, Ge, Gt, Eq}
use Rattle.lrp_model.specs.declared.formulas.Test.{Test}
use Rattle.lrp_model.specs.declared.formulas.Test.TheVariants.{Compare, Member, Equal}
use Rattle.lrp_model.specs.declared.plans.StepKind.{StepKind}
use Rattle.lrp_model.specs.declared.plans.StepKind.TheVariants.{Scan, Leaf, Sort, Join, Select, Union, Minus, Complement, DropTime, DropData, Extend}
use Rattle.lrp_model.specs.declared.plans.Step.{Step}
use Rattle.lrp_model.specs.declared.plans.Plan.{Plan}

-- a variable with its offset, or an integer
abbrev pub time_bytes : TimeTerm → List ℕ
time_bytes (time_var v plus) = v ++ offset_bytes plus
time_bytes (time_int x) = signed_decimal x

-- a variable, or a text in quotes
abbrev pub data_bytes : DataTerm → List ℕ
data_bytes (data_var v) = v
data_bytes (data_const t) = quoted t

abbrev pub term_bytes : Term → List ℕ
term_bytes (time_term t) = time_bytes t
term_bytes (data_term t) = data_bytes t

abbrev pub op_bytes : Op → List ℕ
op_bytes Le = codes "<="
op_bytes Lt = codes "<"
op_bytes Ge = codes ">="
op_bytes Gt = codes ">"
op_bytes Eq = codes "="

-- T OP T, T in c+kn, or T = T
abbrev pub test_bytes : Test → List ℕ
test_bytes (Compare left op right) = time_bytes left ++ (codes " " ++ (op_bytes op ++ (codes " " ++ time_bytes right)))
test_bytes (Member term point) = time_bytes term ++ (codes " in " ++ point_bytes point)
test_bytes (Equal left right) = data_bytes left ++ (codes " = " ++ data_bytes right)

-- the word of a test that is a step of its own
abbrev pub leaf_word : Test → List ℕ
leaf_word (Compare left op right) = codes "compare "
leaf_word (Member term point) = codes "point "
leaf_word (Equal left right) = codes "equal "

-- a word and the numbers of two steps
abbrev pub two_steps : List ℕ → ℕ → ℕ → List ℕ
two_steps word left right = word ++ (decimal left ++ (codes " " ++ decimal right))

-- the tests that a join carries, after `where`, if there are any
abbrev pub carried_bytes : List Test → List ℕ
carried_bytes [] = []
carried_bytes (t ∷ ts) = codes " where " ++ joined_by (codes ", ") test_bytes (t ∷ ts)

abbrev pub drop_bytes : ℕ → Identifier → List ℕ
drop_bytes of v = codes "drop " ++ (decimal of ++ (codes " " ++ v))

-- a step's word and operands
abbrev pub kind_bytes : StepKind → List ℕ
kind_bytes (Scan name terms) = codes "scan " ++ (name ++ (codes "(" ++ (joined_by (codes ", ") term_bytes terms ++ codes ")")))
kind_bytes (Leaf t) = leaf_word t ++ test_bytes t
kind_bytes (Sort v s texts) = codes "sort " ++ (sort_bytes s ++ (codes "(" ++ (v ++ codes ")")))
kind_bytes (Join left right tests) = two_steps (codes "join ") left right ++ carried_bytes tests
kind_bytes (Select of t) = codes "select " ++ (decimal of ++ (codes " " ++ test_bytes t))
kind_bytes (Union left right) = two_steps (codes "union ") left right
kind_bytes (Minus left right) = two_steps (codes "minus ") left right
kind_bytes (Complement of) = codes "complement " ++ decimal of
kind_bytes (DropTime of v) = drop_bytes of v
kind_bytes (DropData of v) = drop_bytes of v
kind_bytes (Extend of) = codes "head " ++ decimal of

-- the step's number, its word and operands, its period and its reach, on a line
abbrev pub step_line : ℕ → Step → List ℕ
step_line number s = decimal number ++ (codes " " ++ (kind_bytes s.kind ++ (codes " [period " ++ (signed_decimal s.period ++ (codes ", reach " ++ (signed_decimal s.reach ++ codes "]\n"))))))

-- the steps, numbered from this number on
abbrev pub step_lines : ℕ → List Step → List ℕ
step_lines number [] = []
step_lines number (s ∷ steps) = step_line number s ++ step_lines (number + 1) steps

-- a plan; its steps are numbered from 1
abbrev pub plan_bytes : Plan → List ℕ
plan_bytes p = step_lines 1 p.steps
