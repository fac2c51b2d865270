-- Definitions beside a database, each as a relation without rows.
use Rattle.std.specs.Prelude.{◌≡◌, ◌<◌, ℕ, Bool, true, false, IsTrue, Option, None, Some, List, [], ◌++◌, map, take, position, cond, get_or, length}
use Rattle.std.specs.List.{list_any}
use Rattle.std.specs.HashMap.{HashMap, get_by}
use Rattle.std.specs.Str.{bytes_eq}
use Rattle.lrp_model.specs.DatabaseMeaning.{column_of}
use Rattle.lrp_model.specs.Faults.{is_named_in}
use Rattle.lrp_model.specs.Texts.{Identifier}
use Rattle.lrp_model.specs.declared.raw.RawColumn.{RawColumn}
use Rattle.lrp_model.specs.declared.relations.Relation.{Relation}

pub record Defined : Type 0 where
  pub relations : List Relation
  pub definitions : List Relation

-- each name that isn't taken has the number of the first of these that is that name
abbrev pub AreNamesNumbered : {S : Type 0} → HashMap Identifier ℕ S → List Identifier → List Identifier → Type 0
AreNamesNumbered m taken names = (n : Identifier) → get_by (bytes_eq n) m ≡ cond (is_named_in taken n) None (position (bytes_eq n) names)

-- whether the first byte of a name is marked
abbrev pub is_marked : List Bool → Identifier → Bool
is_marked marks n = get_or marks (get_or n 0 0) false

-- those of all these names are, and each byte can be
pub record AreMarked (marks : List Bool) (names : List Identifier) : Type 0 where
  pub size : length marks ≡ 256
  pub each : (n : Identifier) → list_any (bytes_eq n) names ≡ true → is_marked marks n ≡ true

-- each of these names is new: none of those that are taken, and no earlier one
abbrev pub AreNew : List Identifier → List Identifier → Type 0
AreNew taken names = (i : ℕ) → i < length names → Some i ≡ cond (is_named_in taken (get_or names i [])) None (position (bytes_eq (get_or names i [])) names)

-- the names of definitions, as they are kept beside those of relations
pub record IsNumberingOf {S : Type 0} (numbers : HashMap Identifier ℕ S) (marks taken_marks : List Bool) (are_new : Bool) (taken names : List Identifier) : Type 0 where
  pub numbered : AreNamesNumbered numbers taken names
  pub marked : AreMarked marks names
  pub relations : AreMarked taken_marks taken
  pub new : IsTrue are_new → AreNew taken names

-- a relation without rows
abbrev pub rowless : Identifier → List RawColumn → Relation
rowless n columns = record { name = n; columns = map column_of columns; rows = [] }

-- the number of the definition that a name means among this many of the first: none where a relation of the database has the name, and of two definitions of one name the first
abbrev pub definition_number : Defined → ℕ → Identifier → Option ℕ
definition_number d before n =
    cond (is_named_in (map (λ r. r.name) d.relations) n) None (position (bytes_eq n) (map (λ r. r.name) (take before d.definitions)))

-- whether a relation of the database or a definition has the name
abbrev pub is_taken : Defined → Identifier → Bool
is_taken d n = is_named_in (map (λ r. r.name) (d.relations ++ d.definitions)) n
