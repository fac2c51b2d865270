-- The binders around a formula, as the checker keeps them.
use Rattle.std.specs.Prelude.{ℕ, Bool, List, ◌++◌, reverse, Option, option_map}
use Rattle.std.specs.Str.{bytes_eq}
use Rattle.std.specs.HashMap.{HashMap, get_by}
use Rattle.std.specs.HashSet.{HashSet, contains_by}
use Rattle.std.specs.Borrow.{Bor}
use Rattle.lrp_model.specs.Texts.{Identifier}
use Rattle.lrp_model.specs.Sorting.{Binders}
use Rattle.lrp_model.specs.declared.raw.RawColumn.{RawColumn}
use Rattle.lrp_model.specs.declared.relations.Sort.{Sort}

-- quantifiers, the innermost first, and after them the head's columns in order
pub record Around : Type 0 where
  pub quantifiers : List RawColumn
  pub head : List RawColumn

-- all of them, the innermost first
abbrev pub binders : Around → Binders
binders a = a.quantifiers ++ reverse a.head

-- what a map from names has at a name
abbrev pub kept_at : {S : Type 0} → HashMap (Bor (List ℕ)) (Bor Sort) S → Identifier → Option Sort
kept_at m n = option_map (λ s. s.now) (get_by (λ k. bytes_eq n k.now) m)

-- a set of names has a name
abbrev pub holds : {S : Type 0} → HashSet (Bor (List ℕ)) S → Identifier → Bool
holds s n = contains_by (λ k. bytes_eq n k.now) s
