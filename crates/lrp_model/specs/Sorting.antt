-- The sort faults of a raw query over a database, and the earliest of them.
use Rattle.std.specs.Prelude.{◌≡◌, ◌+◌, ◌==◌, ◌||◌, not, nat_lt, ℕ, Bool, true, false, List, [], ◌∷◌, ◌++◌, map, reverse, flat_map, find, length, if◌then◌else◌, Option, Some, None, option_map}
use Rattle.std.specs.List.{list_any}
use Rattle.std.specs.Str.{bytes_eq}
use Rattle.lrp_model.specs.Texts.{Identifier, without}
use Rattle.lrp_model.specs.Rows.{relation_named}
use Rattle.lrp_model.specs.Sorts.{same_sort, is_time, is_data}
use Rattle.lrp_model.specs.Faults.{standing, earliest, fault_if, is_named_in, ninth}
use Rattle.lrp_model.specs.Kinds.{query_number}
use Rattle.lrp_model.specs.declared.tokens.Place.{Place}
use Rattle.lrp_model.specs.declared.relations.Sort.{Sort}
use Rattle.lrp_model.specs.declared.relations.Sort.TheVariants.{Time, Data, Named}
use Rattle.lrp_model.specs.declared.relations.Column.{Column}
use Rattle.lrp_model.specs.declared.relations.Relation.{Relation}
use Rattle.lrp_model.specs.declared.formulas.Op.{Op}
use Rattle.lrp_model.specs.declared.formulas.Op.TheVariants.{Le, Lt, Ge, Gt, Eq}
use Rattle.lrp_model.specs.declared.raw.RawColumn.{RawColumn}
use Rattle.lrp_model.specs.declared.raw.RawTerm.{RawTerm}
use Rattle.lrp_model.specs.declared.raw.RawTermKind.{RawTermKind}
use Rattle.lrp_model.specs.declared.raw.RawTermKind.TheVariants.{Int, Text, Var, Shifted}
use Rattle.lrp_model.specs.declared.faults.QueryFault.{QueryFault}
use Rattle.lrp_model.specs.declared.faults.QueryKind.{QueryKind}
use Rattle.lrp_model.specs.declared.faults.QueryKind.TheVariants.{UnknownRelation, Arity, Sort as WrongSort, Unbound, Rebound, Wide, UnknownSort}
use Rattle.lrp_model.specs.RawQueries.{RawForm, RawForms, RawQuestion, raw_atom, raw_compare, raw_member, raw_not, raw_and, raw_or, raw_implies, raw_group, raw_exists, raw_forall, raw_ranged, raw_paired, no_raws, raw}
pub use Rattle.lrp_model.specs.RawQueries.{place_of}

abbrev pub query_fault : QueryKind → Place → QueryFault
query_fault k p = record { kind = k; place = p }

-- what faults of queries are ordered by
abbrev pub query_standing : QueryFault → List ℕ
query_standing f = standing f.place (query_number f.kind)

-- ---- binders and the sorts of terms

-- the quantifiers and head columns around a formula, the innermost earliest
abbrev pub Binders : Type 0
Binders = List RawColumn

-- the sort of a name's innermost binder, where it has one
abbrev pub binder_sort : Binders → Identifier → Option Sort
binder_sort bs n = option_map (λ c. c.sort) (find (λ c. bytes_eq c.name n) bs)

-- the sort of a term: a text has any data sort, and a variable without a binder none
pub data TermSort : Type 0 where
  of_sort : Sort → TermSort
  any_data : TermSort
  unsorted : TermSort

-- a name alone has its binder's sort
abbrev pub alone_sort : Option Sort → TermSort
alone_sort None = unsorted
alone_sort (Some s) = of_sort s

-- a name with an offset is a time term
abbrev pub shifted_sort : Option Sort → TermSort
shifted_sort None = unsorted
shifted_sort (Some s) = of_sort Time

-- the sort of a term within binders, by its kind
abbrev pub kind_sort : Binders → RawTermKind → TermSort
kind_sort bs (Int x) = of_sort Time
kind_sort bs (Text t) = any_data
kind_sort bs (Var n) = alone_sort (binder_sort bs n)
kind_sort bs (Shifted n plus) = shifted_sort (binder_sort bs n)

abbrev pub term_sort : Binders → RawTerm → TermSort
term_sort bs t = kind_sort bs t.kind

-- the term is of a data sort
abbrev pub is_data_term : TermSort → Bool
is_data_term (of_sort s) = is_data s
is_data_term any_data = true
is_data_term unsorted = false

-- the term's sort is not this one
abbrev pub differs : TermSort → Sort → Bool
differs (of_sort s) column = not (same_sort s column)
differs any_data column = is_time column
differs unsorted column = false

-- the two terms have different sorts
abbrev pub unlike : TermSort → TermSort → Bool
unlike (of_sort s) other = differs other s
unlike any_data (of_sort s) = is_time s
unlike any_data other = false
unlike unsorted other = false

-- ---- faults of terms and tests

-- Unbound: a variable without a binder; Sort: an offset on a variable of a data sort; at the term
abbrev pub variable_faults : Option Sort → Bool → Place → List QueryFault
variable_faults None shifted p = query_fault Unbound p ∷ []
variable_faults (Some s) false p = []
variable_faults (Some s) true p = fault_if (is_data s) (query_fault WrongSort p)

abbrev pub kind_faults : Binders → RawTermKind → Place → List QueryFault
kind_faults bs (Int x) p = []
kind_faults bs (Text t) p = []
kind_faults bs (Var n) p = variable_faults (binder_sort bs n) false p
kind_faults bs (Shifted n plus) p = variable_faults (binder_sort bs n) true p

abbrev pub term_faults : Binders → RawTerm → List QueryFault
term_faults bs t = kind_faults bs t.kind t.place

-- Sort: a term whose sort is not that of its column. Terms after the last column have none: their number is the fault of the atom
abbrev pub column_faults : Binders → List RawTerm → List Column → List QueryFault
column_faults bs (t ∷ ts) (c ∷ cs) = fault_if (differs (term_sort bs t) c.sort) (query_fault WrongSort t.place) ++ column_faults bs ts cs
column_faults bs _ _ = []

-- UnknownRelation: an atom whose name is no relation; Arity: one whose terms are not as many as the columns; at the name
abbrev pub atom_faults : Binders → Place → List RawTerm → Option Relation → List QueryFault
atom_faults bs p ts None = query_fault UnknownRelation p ∷ []
atom_faults bs p ts (Some r) = fault_if (not (length ts == length r.columns)) (query_fault Arity p) ++ column_faults bs ts r.columns

-- Sort: a term of a data sort, where a time term is wanted
abbrev pub time_faults : Binders → RawTerm → List QueryFault
time_faults bs t = fault_if (is_data_term (term_sort bs t)) (query_fault WrongSort t.place)

-- Sort: a side of a comparison other than `=` that is of a data sort; the right side of an `=` whose sides have different sorts
abbrev pub compare_faults : Binders → RawTerm → Op → RawTerm → List QueryFault
compare_faults bs l Eq r = fault_if (unlike (term_sort bs l) (term_sort bs r)) (query_fault WrongSort r.place)
compare_faults bs l Le r = time_faults bs l ++ time_faults bs r
compare_faults bs l Lt r = time_faults bs l ++ time_faults bs r
compare_faults bs l Ge r = time_faults bs l ++ time_faults bs r
compare_faults bs l Gt r = time_faults bs l ++ time_faults bs r

-- ---- faults of binders

-- some column of the database has this sort
abbrev pub has_sort : List Relation → Sort → Bool
has_sort db s = list_any (λ r. list_any (λ c. same_sort c.sort s) r.columns) db

-- UnknownSort: a named sort that no column of the database has; at the sort's name
abbrev pub sort_faults : List Relation → Sort → Place → List QueryFault
sort_faults db Time p = []
sort_faults db Data p = []
sort_faults db (Named n) p = fault_if (not (has_sort db (Named n))) (query_fault UnknownSort p)

-- Rebound: a binder whose name is bound around it; at its name
abbrev pub binder_faults : List Relation → Binders → RawColumn → List QueryFault
binder_faults db bs c = fault_if (is_named_in (map (λ b. b.name) bs) c.name) (query_fault Rebound c.place) ++ sort_faults db c.sort c.sort_place

-- ---- too many free variables

-- the name in a term, if there is one
abbrev pub term_names : RawTerm → List Identifier
term_names t = kind_names t.kind
  where
    kind_names : RawTermKind → List Identifier
    kind_names (Int x) = []
    kind_names (Text u) = []
    kind_names (Var n) = n ∷ []
    kind_names (Shifted n plus) = n ∷ []

-- the names that occur free in a formula, some more than once
abbrev mutual
  pub free_names : RawForm → List Identifier
  free_names (raw_atom p n ts) = flat_map term_names ts
  free_names (raw_compare p l op r) = term_names l ++ term_names r
  free_names (raw_member p t point) = term_names t
  free_names (raw_not p f) = free_names f
  free_names (raw_and p fs) = free_names_each fs
  free_names (raw_or p fs) = free_names_each fs
  free_names (raw_implies p f g) = free_names f ++ free_names g
  free_names (raw_group p f) = free_names f
  free_names (raw_exists p c f) = without c.name (free_names f)
  free_names (raw_forall p c f) = without c.name (free_names f)
  free_names (raw_ranged word o from to f) = free_names f
  free_names (raw_paired word o f g) = free_names g

  pub free_names_each : RawForms → List Identifier
  free_names_each no_raws = []
  free_names_each (raw f fs) = free_names f ++ free_names_each fs

-- 1 where there is a binder whose sort passes, else 0; a variable without a binder has a fault of its own
abbrev pub counted : (Sort → Bool) → Option Sort → ℕ
counted passes None = 0
counted passes (Some s) = if passes s then 1 else 0

-- how many different names have a binder whose sort passes
abbrev pub count : (Sort → Bool) → Binders → List Identifier → ℕ
count passes bs [] = 0
count passes bs (n ∷ ns) = if is_named_in ns n then count passes bs ns else counted passes (binder_sort bs n) + count passes bs ns

-- more than 8 variables of sort time, or more than 8 of all data sorts together
abbrev pub too_many : Binders → List Identifier → Bool
too_many bs names = nat_lt 8 (count is_time bs names) || nat_lt 8 (count is_data bs names)

-- Wide: a formula with too many free variables, these names counted beside its own; at its earliest token, before the faults inside it
abbrev pub widened : Binders → List Identifier → RawForm → List QueryFault → List QueryFault
widened bs bound f inside = fault_if (too_many bs (bound ++ free_names f)) (query_fault Wide (place_of f)) ++ inside

-- ---- faults of formulas and queries

-- the faults inside a formula of first-order logic within binders, all but its own width; the formula of a quantifier counts the quantifier's variable as free
abbrev mutual
  pub form_faults : RawForm → List Relation → Binders → List QueryFault
  form_faults (raw_atom p n ts) db bs = flat_map (term_faults bs) ts ++ atom_faults bs p ts (relation_named db n)
  form_faults (raw_compare p l op r) db bs = term_faults bs l ++ term_faults bs r ++ compare_faults bs l op r
  form_faults (raw_member p t point) db bs = term_faults bs t ++ time_faults bs t
  form_faults (raw_not p f) db bs = widened bs [] f (form_faults f db bs)
  form_faults (raw_and p fs) db bs = forms_faults fs db bs
  form_faults (raw_or p fs) db bs = forms_faults fs db bs
  form_faults (raw_implies p f g) db bs = widened bs [] f (form_faults f db bs) ++ widened bs [] g (form_faults g db bs)
  form_faults (raw_group p f) db bs = widened bs [] f (form_faults f db bs)
  form_faults (raw_exists p c f) db bs = binder_faults db bs c ++ widened (c ∷ bs) (c.name ∷ []) f (form_faults f db (c ∷ bs))
  form_faults (raw_forall p c f) db bs = binder_faults db bs c ++ widened (c ∷ bs) (c.name ∷ []) f (form_faults f db (c ∷ bs))
  form_faults (raw_ranged word o from to f) db bs = widened bs [] f (form_faults f db bs)
  form_faults (raw_paired word o f g) db bs = widened bs [] g (form_faults g db bs)

  pub forms_faults : RawForms → List Relation → Binders → List QueryFault
  forms_faults no_raws db bs = []
  forms_faults (raw f fs) db bs = widened bs [] f (form_faults f db bs) ++ forms_faults fs db bs

-- the head's columns, each among those before it
abbrev pub head_faults : List Relation → Binders → List RawColumn → List QueryFault
head_faults db bs [] = []
head_faults db bs (c ∷ cs) = binder_faults db bs c ++ head_faults db (c ∷ bs) cs

-- all sort faults of a query; Wide is also a ninth time column of the head, or a ninth among those of all data sorts
abbrev pub query_faults : List Relation → RawQuestion → List QueryFault
query_faults db q = head_faults db [] q.head ++ ninth (query_fault Wide) 0 0 q.head ++ widened (reverse q.head) [] q.body (form_faults q.body db (reverse q.head))

-- there is none
abbrev pub IsWellSorted : List Relation → RawQuestion → Type 0
IsWellSorted db q = query_faults db q ≡ []

-- the sort fault that is reported
abbrev pub IsSortFault : List Relation → RawQuestion → QueryFault → Type 0
IsSortFault db q f = earliest query_standing (query_faults db q) ≡ Some f
