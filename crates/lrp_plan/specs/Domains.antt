-- The texts of each sort, in a database and a query, as they were gathered.
use Rattle.std.specs.Prelude.{◌≡◌, List, [], ◌∷◌, ◌++◌, Option, Some, None}
use Rattle.std.specs.Str.{bytes_eq}
use Rattle.std.specs.BTreeSet.{BTreeSet, keys}
use Rattle.std.specs.HashMap.{get}
use Rattle.lrp_model.specs.Texts.{Text, in_order}
use Rattle.lrp_model.specs.declared.relations.Sort.{Sort}
use Rattle.lrp_model.specs.declared.relations.Sort.TheVariants.{Time, Data, Named}
use Rattle.lrp_database.specs.Once.{texts_with}
use Rattle.lrp_plan.specs.declared.domains.Domains.{Domains}

-- the texts that were gathered of a sort
abbrev pub gathered : Domains → Sort → Option (BTreeSet Text)
gathered domains Time = Some domains.timed
gathered domains Data = domains.unnamed
gathered domains (Named name) = get bytes_eq domains.named name

-- all texts of a sort, each once, in order; where none were gathered, the query has none
abbrev pub IsTextSet : List (Sort × Text) → List (Sort × Text) → Sort → Option (BTreeSet Text) → Type 0
IsTextSet db texts s (Some set) = keys set ≡ in_order (texts_with s (db ++ texts))
IsTextSet db texts s None = texts_with s texts ≡ []

-- the texts of each sort, in a database and a query
abbrev pub AreDomains : List (Sort × Text) → List (Sort × Text) → Domains → Type 0
AreDomains db texts domains = (s : Sort) → IsTextSet db texts s (gathered domains s)

-- a further text of a sort is among them
abbrev pub Gathers : List (Sort × Text) → Sort → Text → Domains → Domains → Type 0
Gathers db s t old new = (before : List (Sort × Text)) → AreDomains db before old → AreDomains db (before ++ (s, t) ∷ []) new

-- texts in order with one text more
abbrev pub TakesText : Text → List Text → List Text → Type 0
TakesText t old new = (before : List Text) → old ≡ in_order before → new ≡ in_order (before ++ t ∷ [])
