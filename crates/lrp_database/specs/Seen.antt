-- What the sets of texts hold while the rows of a database are walked.
use Rattle.std.specs.Prelude.{◌≡◌, ◌++◌, List, map, length, if◌then◌else◌}
use Rattle.std.specs.Str.{bytes_eq}
use Rattle.indexmap.specs.IndexSet.{keys}
use Rattle.lrp_model.specs.Texts.{Text, Identifier}
use Rattle.lrp_model.specs.declared.relations.Sort.{Sort}
use Rattle.lrp_model.specs.declared.relations.Sort.TheVariants.{Data, Named}
use Rattle.lrp_database.specs.Once.{once, put_once, texts_among, texts_with, texts_beside}
use Rattle.lrp_database.specs.declared.seen.Seen.{Seen}

-- the texts that were seen of the sort of this name
abbrev pub named_texts : Seen → Identifier → List Text
named_texts seen = texts_beside (keys seen.names) (map keys seen.named.items)

-- each name has a set beside it
abbrev pub IsPaired : Seen → Type 0
IsPaired seen = length (keys seen.names) ≡ length seen.named.items

-- these texts were seen, each with its sort
pub record HasSeen (entries : List (Sort × Text)) (seen : Seen) : Type 0 where
  pub all : keys seen.all ≡ once (texts_among entries)
  pub unnamed : keys seen.unnamed ≡ once (texts_with Data entries)
  pub named : (n : Identifier) → named_texts seen n ≡ once (texts_with (Named n) entries)

-- these further texts, each with its sort, were seen after those before
abbrev pub SeesMore : List (Sort × Text) → Seen → Seen → Type 0
SeesMore more old new = (entries : List (Sort × Text)) → HasSeen entries old → HasSeen (entries ++ more) new

-- a text more of the sort of this name, and all else as before
pub record SeesNamed (name : Identifier) (text : Text) (old : Seen) (new : Seen) : Type 0 where
  pub all : keys new.all ≡ keys old.all
  pub unnamed : keys new.unnamed ≡ keys old.unnamed
  pub named : (n : Identifier) → named_texts new n ≡ (if bytes_eq n name then put_once (named_texts old n) text else named_texts old n)
