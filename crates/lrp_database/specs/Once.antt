-- Texts in order of first sight, each once, and those of one sort.
use Rattle.std.specs.Prelude.{List, [], ◌∷◌, ◌++◌, fold, filter, map, if◌then◌else◌}
use Rattle.std.specs.List.{list_any}
use Rattle.std.specs.Str.{bytes_eq}
use Rattle.lrp_model.specs.Texts.{Text, Identifier}
use Rattle.lrp_model.specs.Sorts.{same_sort}
use Rattle.lrp_model.specs.declared.relations.Sort.{Sort}

-- one text more, unless it is there
abbrev pub put_once : List Text → Text → List Text
put_once ts t = if list_any (bytes_eq t) ts then ts else ts ++ t ∷ []

-- the texts of a list, each once, in order of first sight
abbrev pub once : List Text → List Text
once = fold put_once []

-- the texts, without their sorts
abbrev pub texts_among : List (Sort × Text) → List Text
texts_among = map (λ entry. entry.1)

-- the texts that have this sort
abbrev pub texts_with : Sort → List (Sort × Text) → List Text
texts_with s entries = texts_among (filter (λ entry. same_sort entry.0 s) entries)

-- the texts beside a name, where lists of texts stand beside names; none where the name is not among them
abbrev pub texts_beside : List Identifier → List (List Text) → Identifier → List Text
texts_beside (n ∷ ns) (ts ∷ tss) m = if bytes_eq m n then ts else texts_beside ns tss m
texts_beside _ _ m = []
