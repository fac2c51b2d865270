-- What terms say once the sorts of their names are resolved: a name alone is of a data sort, and one with an offset, be it 0, a time.
use Rattle.std.specs.Prelude.{pos, Bool, true, false, [], ◌&&◌, if◌then◌else◌}
use Rattle.lrp_model.specs.declared.formulas.TimeTerm.{TimeTerm}
use Rattle.lrp_model.specs.declared.formulas.TimeTerm.TheVariants.{Var as time_var, Int as time_int}
use Rattle.lrp_model.specs.declared.formulas.DataTerm.{DataTerm}
use Rattle.lrp_model.specs.declared.formulas.DataTerm.TheVariants.{Var as data_var, Const as data_const}
use Rattle.lrp_model.specs.declared.formulas.Term.{Term}
use Rattle.lrp_model.specs.declared.formulas.Term.TheVariants.{Time as time_term, Data as data_term}
use Rattle.lrp_model.specs.declared.formulas.Op.{Op}
use Rattle.lrp_model.specs.declared.formulas.Op.TheVariants.{Le, Lt, Ge, Gt, Eq}
use Rattle.lrp_model.specs.declared.formulas.Test.{Test}
use Rattle.lrp_model.specs.declared.formulas.Test.TheVariants.{Compare, Equal}
use Rattle.lrp_model.specs.declared.raw.RawTerm.{RawTerm}
use Rattle.lrp_model.specs.declared.raw.RawTermKind.{RawTermKind}
use Rattle.lrp_model.specs.declared.raw.RawTermKind.TheVariants.{Int, Text, Var, Shifted}

-- a time term; no text is one, and in a well-sorted query none stands for one
abbrev pub time_of : RawTermKind → TimeTerm
time_of (Int x) = time_int x
time_of (Var n) = time_var n (pos 0)
time_of (Shifted n plus) = time_var n plus
time_of (Text t) = time_int (pos 0)

-- a data term; no integer and no name with an offset is one
abbrev pub data_of : RawTermKind → DataTerm
data_of (Text t) = data_const t
data_of (Var n) = data_var n
data_of (Int x) = data_const []
data_of (Shifted n plus) = data_const []

-- the term of a data sort, where the flag is set, and else of the sort of times
abbrev pub term_by : Bool → RawTermKind → Term
term_by is_data k = if is_data then data_term (data_of k) else time_term (time_of k)

abbrev pub is_equality : Op → Bool
is_equality Eq = true
is_equality Le = false
is_equality Lt = false
is_equality Ge = false
is_equality Gt = false

-- a text, or a name alone
abbrev pub is_data_kind : RawTermKind → Bool
is_data_kind (Int x) = false
is_data_kind (Text t) = true
is_data_kind (Var n) = true
is_data_kind (Shifted n plus) = false

-- the term that it says
abbrev pub said_term : RawTerm → Term
said_term t = term_by (is_data_kind t.kind) t.kind

-- an `=` of two data terms is an equality, and every other comparison is one of times
abbrev pub said_test : RawTerm → Op → RawTerm → Test
said_test l op r =
    if is_equality op && is_data_kind l.kind && is_data_kind r.kind then Equal (data_of l.kind) (data_of r.kind)
    else Compare (time_of l.kind) op (time_of r.kind)

-- the same with its sort resolved: a name alone stays where it is of a data sort, and else has the offset 0
abbrev pub resolved_by : Bool → RawTermKind → RawTermKind
resolved_by is_data (Int x) = Int x
resolved_by is_data (Text t) = Text t
resolved_by is_data (Var n) = if is_data then Var n else Shifted n (pos 0)
resolved_by is_data (Shifted n plus) = Shifted n plus
