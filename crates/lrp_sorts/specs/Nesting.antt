-- The map from names to the sorts of their innermost binders, and what it had outside each quantifier.
use Rattle.std.specs.Prelude.{◌≡◌, ℕ, Bool, true, false, List, [], ◌∷◌, ◌++◌, map, Option, Some, None, option_map, reverse}
use Rattle.std.specs.HashMap.{HashMap}
use Rattle.std.specs.Borrow.{Bor}
use Rattle.lrp_model.specs.Texts.{Identifier}
use Rattle.lrp_model.specs.Sorting.{Binders, binder_sort}
use Rattle.lrp_model.specs.declared.raw.RawColumn.{RawColumn}
use Rattle.lrp_model.specs.declared.relations.Sort.{Sort}
use Rattle.lrp_sorts.specs.Scopes.{kept_at}
use Rattle.lrp_sorts.specs.declared.scope.QuantifierBinder.{QuantifierBinder}

-- the binders of quantifiers, the innermost first, and those of a head after them
abbrev pub binders_with : List QuantifierBinder → Binders → Binders
binders_with qs bs = map (λ (q : QuantifierBinder). q.binder.now) qs ++ bs

-- the binders of a head that the map has: none of a short one
abbrev pub mapped : Bool → List RawColumn → Binders
mapped true columns = []
mapped false columns = reverse columns

-- and those that are looked up apart
abbrev pub apart : Bool → List RawColumn → Binders
apart true columns = reverse columns
apart false columns = []

-- the sort that one list of binders has for a name, and else that of another one
abbrev pub first_sort : Option Sort → Option Sort → Option Sort
first_sort (Some s) other = Some s
first_sort None other = other

-- each quantifier has the sort that its name has outside
abbrev pub Remember : List QuantifierBinder → Binders → Type 0
Remember [] bs = Unit {0}
Remember (q ∷ qs) bs = (option_map (λ s. s.now) q.outer ≡ binder_sort (binders_with qs bs) q.binder.now.name) × Remember qs bs

-- the map has the sort of each name's innermost binder
pub record IsNested {S : Type 0} (kept : HashMap (Bor (List ℕ)) (Bor Sort) S) (quantifiers : List QuantifierBinder) (head : Binders) : Type 0 where
  pub sorts : (n : Identifier) → kept_at kept n ≡ binder_sort (binders_with quantifiers head) n
  pub outer : Remember quantifiers head
