-- The faults of terms beside their columns, one pair after the other.
use Rattle.std.proofs.Common.{◌≡◌, ℕ, zero, suc, ◌+◌, ◌<◌, ◌≤◌, List, [], ◌∷◌, ◌++◌, Option, None, Some, IfSome, MatchOption, option_map, Bor, refl, ap, sym, ◌∙◌, length, take, get_or, slice_get, append_assoc, arith}
use Rattle.std.specs.List.{HoldsAt}
use Rattle.std.proofs.lemmas.List.{append-nil}
use Rattle.std.proofs.lemmas.Option.{slice_get_past, slice_get_read}
use Rattle.lrp_model.specs.Faults.{earliest}
use Rattle.lrp_model.specs.Sorting.{Binders, query_standing, query_fault, term_sort, column_faults, atom_faults}
use Rattle.lrp_model.specs.declared.faults.QueryKind.TheVariants.{UnknownRelation}
use Rattle.lrp_model.specs.declared.tokens.Place.{Place}
use Rattle.lrp_model.specs.declared.raw.RawTerm.{RawTerm}
use Rattle.lrp_model.specs.declared.relations.Column.{Column}
use Rattle.lrp_model.specs.declared.relations.Relation.{Relation}
use Rattle.lrp_model.specs.Sooner.{sooner}
use Rattle.lrp_model.proofs.FirstFault.{first_of_both}
use Rattle.lrp_sorts.specs.Terms.{misfits, atom_head_faults}
use Rattle.lrp_model.specs.Rows.{columns_in}

-- no column, no fault
no_columns : (bs : Binders) (ts : List RawTerm) → column_faults bs ts [] ≡ []
no_columns bs [] = refl
no_columns bs (t ∷ ts) = refl

-- no term, no fault
pub no_terms : (bs : Binders) (cs : List Column) → column_faults bs [] cs ≡ []
no_terms bs [] = refl
no_terms bs (c ∷ cs) = refl

-- one term further, with the column beside it
one_beside : (bs : Binders) (ts : List RawTerm) (cs : List Column) (i : ℕ) (t : RawTerm) → i < length ts → t ≡ get_or ts i t
    → column_faults bs (take i ts) cs ++ misfits (term_sort bs t) t.place (slice_get cs i) ≡ column_faults bs (take (suc i) ts) cs
one_beside bs [] cs i t lt is = absurd (omega (arith, lt))
one_beside bs (u ∷ ts) [] i t lt is = ap (λ l. l ++ []) (no_columns bs (take i (u ∷ ts)))
one_beside bs (u ∷ ts) (c ∷ cs) zero t lt is =
    ap (λ l. l ++ misfits (term_sort bs t) t.place (Some c)) (no_terms bs (c ∷ cs))
    ∙ ap (λ x. misfits (term_sort bs x) x.place (Some c)) is
    ∙ sym (ap (λ l. misfits (term_sort bs u) u.place (Some c) ++ l) (no_terms bs cs) ∙ append-nil (misfits (term_sort bs u) u.place (Some c)))
one_beside bs (u ∷ ts) (c ∷ cs) (suc i) t lt is =
    append_assoc (misfits (term_sort bs u) u.place (Some c)) (column_faults bs (take i ts) cs) (misfits (term_sort bs t) t.place (slice_get cs i))
    ∙ ap (λ l. misfits (term_sort bs u) u.place (Some c) ++ l) (one_beside bs ts cs i t (omega (arith, lt)) is)

-- the first fault, one term further
pub column_further : (bs : Binders) (ts : List RawTerm) (cs : List Column) (i : ℕ) (t : RawTerm) → i < length ts → t ≡ get_or ts i t
    → sooner query_standing (earliest query_standing (column_faults bs (take i ts) cs)) (earliest query_standing (misfits (term_sort bs t) t.place (slice_get cs i))) ≡ earliest query_standing (column_faults bs (take (i + 1) ts) cs)
column_further bs ts cs i t lt is =
    let on : suc i ≡ i + 1 = omega arith in
    sym (first_of_both query_standing (column_faults bs (take i ts) cs) (misfits (term_sort bs t) t.place (slice_get cs i)))
    ∙ ap (earliest query_standing) (one_beside bs ts cs i t lt is)
    ∙ ap (λ n. earliest query_standing (column_faults bs (take n ts) cs)) on

-- the column that stands at an index, if there is one
pub column_at : (cs : List Column) (i : ℕ) (r : Option (Bor Column)) → IfSome r (λ x. x.now ≡ get_or cs i x.now) → MatchOption r (length cs ≤ i) (λ x. (i < length cs) × HoldsAt (λ y. x.now ≡ y) cs i) → option_map (λ x. x.now) r ≡ slice_get cs i
column_at cs i None same there = sym (slice_get_past cs i there)
column_at cs i (Some x) same there = sym (slice_get_read cs (length cs) i x.now refl there.0 same)

-- the faults of an atom: its relation's, and those of its terms beside the columns
both_parts : (bs : Binders) (p : Place) (ts : List RawTerm) (r : Option Relation) → atom_head_faults p (length ts) r ++ column_faults bs ts (columns_in r) ≡ atom_faults bs p ts r
both_parts bs p ts None = ap (λ l. query_fault UnknownRelation p ∷ l) (no_columns bs ts)
both_parts bs p ts (Some r) = refl

-- the first of them
pub atom_shows : (bs : Binders) (p : Place) (ts : List RawTerm) (r : Option Relation)
    → sooner query_standing (earliest query_standing (atom_head_faults p (length ts) r)) (earliest query_standing (column_faults bs ts (columns_in r))) ≡ earliest query_standing (atom_faults bs p ts r)
atom_shows bs p ts r = sym (first_of_both query_standing (atom_head_faults p (length ts) r) (column_faults bs ts (columns_in r))) ∙ ap (earliest query_standing) (both_parts bs p ts r)
