-- The sort of a term, as the checker keeps it.
use Rattle.std.specs.Prelude.{◌≡◌, ◌==◌, not, ℕ, true, false, List, [], ◌∷◌, length, Option, None, Some}
use Rattle.lrp_model.specs.Faults.{fault_if}
use Rattle.lrp_model.specs.Sorting.{Binders, TermSort, of_sort, any_data, unsorted, binder_sort, term_sort, term_faults, variable_faults, differs, query_fault}
use Rattle.lrp_model.specs.declared.tokens.Place.{Place}
use Rattle.lrp_model.specs.declared.faults.QueryFault.{QueryFault}
use Rattle.lrp_model.specs.declared.faults.QueryKind.TheVariants.{UnknownRelation, Arity, Sort as WrongSort}
use Rattle.lrp_model.specs.declared.raw.RawTerm.{RawTerm}
use Rattle.lrp_model.specs.declared.raw.RawTermKind.{RawTermKind}
use Rattle.lrp_model.specs.declared.raw.RawTermKind.TheVariants as term
use Rattle.lrp_model.specs.declared.relations.Column.{Column}
use Rattle.lrp_model.specs.declared.relations.Relation.{Relation}
use Rattle.lrp_model.specs.declared.relations.Sort.{Sort}
use Rattle.lrp_model.specs.declared.relations.Sort.TheVariants.{Time}
use Rattle.lrp_sorts.specs.declared.terms.Sorted.{Sorted}
use Rattle.lrp_sorts.specs.declared.terms.Sorted.TheVariants.{Of, Shifted, Instant, Text, Unbound}

-- the sort of the term
abbrev pub sort_told : Sorted → TermSort
sort_told (Of s) = of_sort s.now
sort_told (Shifted s) = of_sort Time
sort_told Instant = of_sort Time
sort_told Text = any_data
sort_told Unbound = unsorted

-- the faults of the term itself, at its place
abbrev pub told_faults : Sorted → Place → List QueryFault
told_faults (Of s) p = variable_faults (Some s.now) false p
told_faults (Shifted s) p = variable_faults (Some s.now) true p
told_faults Instant p = []
told_faults Text p = []
told_faults Unbound p = variable_faults None false p

-- the sort of the binder of the term's variable
abbrev pub sort_kept : Sorted → Option Sort
sort_kept (Of s) = Some s.now
sort_kept (Shifted s) = Some s.now
sort_kept Instant = None
sort_kept Text = None
sort_kept Unbound = None

-- the sort that a term's variable has among binders
abbrev pub bound_sort : Binders → RawTermKind → Option Sort
bound_sort bs (term.Var n) = binder_sort bs n
bound_sort bs (term.Shifted n plus) = binder_sort bs n
bound_sort bs (term.Int x) = None
bound_sort bs (term.Text t) = None

-- what is kept of a term is what it is among the binders
pub record IsSeen (bs : Binders) (t : RawTerm) (sorted : Sorted) : Type 0 where
  pub sort : sort_told sorted ≡ term_sort bs t
  pub faults : told_faults sorted t.place ≡ term_faults bs t
  pub bound : sort_kept sorted ≡ bound_sort bs t.kind

-- a term of this sort at this place that is not of the sort of the column beside it
abbrev pub misfits : TermSort → Place → Option Column → List QueryFault
misfits s p None = []
misfits s p (Some c) = fault_if (differs s c.sort) (query_fault WrongSort p)

-- UnknownRelation: an atom whose name is no relation; Arity: one whose terms are not as many as the columns
abbrev pub atom_head_faults : Place → ℕ → Option Relation → List QueryFault
atom_head_faults p terms None = query_fault UnknownRelation p ∷ []
atom_head_faults p terms (Some r) = fault_if (not (terms == length r.columns)) (query_fault Arity p)
