-- Free variables as they are counted: the names of each kind, each once, and no more of them than it takes to tell.
use Rattle.std.specs.Prelude.{◌≡◌, ◌+◌, ◌≤◌, ◌&&◌, ℕ, Bool, true, false, List, [], ◌∷◌, map, length, Option, Some, None}
use Rattle.std.specs.Borrow.{Bor}
use Rattle.lrp_model.specs.Texts.{Identifier}
use Rattle.lrp_model.specs.Sorts.{is_time, is_data}
use Rattle.lrp_model.specs.Faults.{is_named_in}
use Rattle.lrp_model.specs.Sorting.{Binders, binder_sort, count}
use Rattle.lrp_model.specs.declared.relations.Sort.{Sort}
use Rattle.lrp_sorts.specs.Scopes.{Around, binders}
use Rattle.lrp_sorts.specs.declared.width.Tally.{Tally}

-- there is a sort, and it passes
abbrev pub passing : (Sort → Bool) → Option Sort → Bool
passing passes None = false
passing passes (Some s) = passes s

-- names of a list, each once, whose binder's sort passes: all of them, unless they are more than 8 and this many quantifiers
pub record AreKeptNames (passes : Sort → Bool) (bs : Binders) (quantifiers : ℕ) (names kept : List Identifier) : Type 0 where
  pub once : count passes bs kept ≡ length kept
  pub among : (n : Identifier) → is_named_in kept n ≡ true → (is_named_in names n && passing passes (binder_sort bs n)) ≡ true
  pub every : length kept ≤ 8 + quantifiers → (n : Identifier) → is_named_in names n ≡ true → passing passes (binder_sort bs n) ≡ true → is_named_in kept n ≡ true

-- what names stand after references
abbrev pub names_after : List (Bor Identifier) → List Identifier
names_after = map (λ n. n.now)

-- the tally of a list of names
pub record IsTally (bs : Binders) (quantifiers : ℕ) (names : List Identifier) (tally : Tally) : Type 0 where
  pub times : AreKeptNames is_time bs quantifiers names (names_after tally.times.items)
  pub texts : AreKeptNames is_data bs quantifiers names (names_after tally.texts.items)

-- the tally of the names that occur free within the binders of a scope
abbrev pub IsTallied : Around → List Identifier → Tally → Type 0
IsTallied a = IsTally (binders a) (length a.quantifiers)

-- the name in a term, if there is one
abbrev pub added : Option (Bor Identifier) → List Identifier
added None = []
added (Some n) = n.now ∷ []
