-- Sets of texts with their sorts.
use Rattle.std.specs.Prelude.{◌≡◌, ◌&&◌, ◌++◌, ℕ, Bool, true, false, List, [], ◌∷◌, Option, Some, None, flat_map, reverse, map, slice_get}
use Rattle.std.specs.Borrow.{Bor}
use Rattle.std.specs.HashSet.{HashSet, contains_by}
use Rattle.std.specs.Str.{bytes_eq}
use Rattle.lrp_model.specs.Sorting.{Binders}
use Rattle.lrp_model.specs.Domains.{row_texts}
use Rattle.lrp_model.specs.Texts.{Text}
use Rattle.lrp_model.specs.declared.raw.RawColumn.{RawColumn}
use Rattle.lrp_model.specs.declared.relations.Column.{Column}
use Rattle.lrp_model.specs.declared.relations.Relation.{Relation}
use Rattle.lrp_model.specs.declared.relations.Sort.{Sort}
use Rattle.lrp_model.specs.declared.relations.Sort.TheVariants.{Time, Data, Named}
use Rattle.lrp_lint.specs.declared.known.SortName.{SortName}
use Rattle.lrp_lint.specs.declared.known.SortName.TheVariants as name
use Rattle.lrp_lint.specs.declared.known.SortedText.{SortedText}

-- the sort is the one that is named
abbrev pub names : Sort → SortName → Bool
names Time name.Time = true
names Data name.Data = true
names (Named m) (name.Named n) = bytes_eq m n.now
names _ _ = false

-- the text of the sort is the one that is said
abbrev pub says : Sort → Text → SortedText → Bool
says s t k = names s k.sort && bytes_eq t k.text.now

-- the set has the text of the sort
abbrev pub has : {S : Type 0} → HashSet SortedText S → Sort → Text → Bool
has set s t = contains_by (says s t) set

-- the binders that are held, the innermost first
abbrev pub binders_in : List (Bor RawColumn) → Binders
binders_in bs = reverse (map (λ b. b.now) bs)

-- the column at an index, as a list, where there is one
abbrev pub option_list : {A : Type 0} → Option A → List A
option_list None = []
option_list (Some x) = x ∷ []

abbrev pub column_if_any : List Column → ℕ → List Column
column_if_any columns i = option_list (slice_get columns i)

-- the texts of a relation's rows, each with the sort of its column
abbrev pub relation_texts : Relation → List (Sort × Text)
relation_texts relation = flat_map (λ row. row_texts relation.columns row.values) relation.rows
