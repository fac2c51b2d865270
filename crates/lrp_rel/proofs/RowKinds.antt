-- The kinds that the faults of a list have, and those that the faults of a row have.
use Rattle.std.proofs.Common.{◌==◌, not, length, Bool, true, false, List, [], ◌∷◌, ◌++◌, Option, Some, None}
use Rattle.std.specs.List.{flat_map, AllByRecursion}
use Rattle.std.specs.declared.cmp.Ordering.{Ordering}
use Rattle.std.specs.declared.cmp.Ordering.TheVariants.{Less, Equal, Greater}
use Rattle.std.specs.Ordering.{nat_cmp, match_ordering}
use Rattle.std.specs.Cmp.Lexicographic.{slice_cmp}
use Rattle.lrp_model.specs.Faults.{earliest, earlier, fault_if}
use Rattle.lrp_model.specs.DatabaseFaults.{database_standing, database_fault, wrong_sorts, suits, unknown, side_faults, row_faults}
use Rattle.lrp_model.specs.declared.raw.RawColumn.{RawColumn}
use Rattle.lrp_model.specs.declared.written.Located.{Located}
use Rattle.lrp_model.specs.declared.written.WrittenValue.{WrittenValue}
use Rattle.lrp_model.specs.declared.written.Side.{Side}
use Rattle.lrp_model.specs.declared.written.Side.TheVariants.{Alone, Column as side_column, Shifted}
use Rattle.lrp_model.specs.declared.written.RawBound.{RawBound}
use Rattle.lrp_model.specs.declared.written.RawRow.{RawRow}
use Rattle.lrp_model.specs.declared.faults.DbFault.{DbFault}
use Rattle.lrp_model.specs.declared.faults.DbKind.{DbKind}
use Rattle.lrp_model.specs.declared.faults.DbKind.TheVariants.{Arity, Sort, Column}
use Rattle.lrp_rel.proofs.FaultWalks.{bound_faults}

-- faults of such kinds
abbrev pub AreOf : (DbKind → Type 0) → List DbFault → Type 0
AreOf Of = AllByRecursion (λ f. Of f.kind)

-- of two lists of such faults
pub both_of : (Of : DbKind → Type 0) (xs ys : List DbFault) → AreOf Of xs → AreOf Of ys → AreOf Of (xs ++ ys)
both_of Of [] ys h k = k
both_of Of (x ∷ xs) ys h k = (h.0, both_of Of xs ys h.1 k)

-- where each part has such faults, all have
pub flat_of : {A : Type 0} (Of : DbKind → Type 0) (f : A → List DbFault) → ((a : A) → AreOf Of (f a)) → (xs : List A) → AreOf Of (flat_map f xs)
flat_of Of f h [] = tt
flat_of Of f h (x ∷ xs) = both_of Of (f x) (flat_map f xs) (h x) (flat_of Of f h xs)

-- a fault after a test
pub if_of : (Of : DbKind → Type 0) (b : Bool) (f : DbFault) → Of f.kind → AreOf Of (fault_if b f)
if_of Of true f h = (h, tt)
if_of Of false f h = tt

-- the kinds of a row's faults are such
pub record HasRowKinds (Of : DbKind → Type 0) : Type 0 where
  pub arity : Of Arity
  pub sort : Of Sort
  pub column : Of Column

-- values that do not suit their columns
sorts_of : (Of : DbKind → Type 0) → HasRowKinds Of → (cs : List RawColumn) (vs : List (Located WrittenValue)) → AreOf Of (wrong_sorts cs vs)
sorts_of Of k [] vs = tt
sorts_of Of k (c ∷ cs) [] = tt
sorts_of Of k (c ∷ cs) (v ∷ vs) = both_of Of (fault_if (not (suits v.item c)) (database_fault Sort v.place)) (wrong_sorts cs vs) (if_of Of (not (suits v.item c)) (database_fault Sort v.place) k.sort) (sorts_of Of k cs vs)

-- names that are no time columns
side_of : (Of : DbKind → Type 0) → HasRowKinds Of → (cs : List RawColumn) (s : Side) → AreOf Of (side_faults cs s)
side_of Of k cs (Alone i) = tt
side_of Of k cs (side_column n) = if_of Of _ (database_fault Column n.place) k.column
side_of Of k cs (Shifted n down by) = if_of Of _ (database_fault Column n.place) k.column

bound_of : (Of : DbKind → Type 0) → HasRowKinds Of → (cs : List RawColumn) (b : RawBound) → AreOf Of (bound_faults cs b)
bound_of Of k cs b = both_of Of (unknown cs b.left) (side_faults cs b.side) (if_of Of _ (database_fault Column b.left.place) k.column) (side_of Of k cs b.side)

-- all faults of a row
pub row_kinds : (Of : DbKind → Type 0) → HasRowKinds Of → (cs : List RawColumn) (r : Located RawRow) → AreOf Of (row_faults cs r)
row_kinds Of k cs r =
    let arity = fault_if (not (length r.item.values == length cs)) (database_fault Arity r.place) in
    let sorts = wrong_sorts cs r.item.values in
    both_of Of (arity ++ sorts) (flat_map (bound_faults cs) r.item.bounds) (both_of Of arity sorts (if_of Of (not (length r.item.values == length cs)) (database_fault Arity r.place) k.arity) (sorts_of Of k cs r.item.values)) (flat_of Of (bound_faults cs) (bound_of Of k cs) r.item.bounds)

-- a fault of such a kind, where there is one
abbrev pub IsOneOf : (DbKind → Type 0) → Option DbFault → Type 0
IsOneOf Of None = Unit {0}
IsOneOf Of (Some f) = Of f.kind

earlier_of : (Of : DbKind → Type 0) (f : DbFault) (g : Option DbFault) → Of f.kind → IsOneOf Of g → IsOneOf Of (earlier database_standing f g)
earlier_of Of f None h k = h
earlier_of Of f (Some g) h k = by (slice_cmp nat_cmp (database_standing g) (database_standing f))
  where
    by : (o : Ordering) → IsOneOf Of (match_ordering o (Some g) (Some f) (Some f))
    by Less = k
    by Equal = h
    by Greater = h

-- the first of such faults
pub first_of : (Of : DbKind → Type 0) (fs : List DbFault) → AreOf Of fs → IsOneOf Of (earliest database_standing fs)
first_of Of [] h = tt
first_of Of (f ∷ fs) h = earlier_of Of f (earliest database_standing fs) h.0 (first_of Of fs h.1)
