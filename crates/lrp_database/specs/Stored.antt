-- What a database holds beside its relations.
use Rattle.std.specs.Prelude.{◌≡◌, List, [], map, length}
use Rattle.indexmap.specs.IndexSet.{keys}
use Rattle.lrp_model.specs.Texts.{Identifier}
use Rattle.lrp_model.specs.Domains.{database_texts}
use Rattle.lrp_model.specs.declared.relations.Sort.TheVariants.{Data, Named}
use Rattle.lrp_model.specs.declared.relations.Relation.{Relation}
use Rattle.lrp_model.specs.Kept.{AreKept}
use Rattle.lrp_database.specs.declared.texts.TextLists.{TextLists}
use Rattle.lrp_database.specs.Once.{once, texts_among, texts_with, texts_beside}

-- the texts of all sorts, of the sort without a name, and of each sort with one are those of the rows
pub record AreTextsOf (relations : List Relation) (texts : TextLists) : Type 0 where
  pub all : texts.all ≡ once (texts_among (database_texts relations))
  pub unnamed : texts.unnamed ≡ once (texts_with Data (database_texts relations))
  pub named : (n : Identifier) → texts_beside (keys texts.names) texts.named n ≡ once (texts_with (Named n) (database_texts relations))
  pub paired : length (keys texts.names) ≡ length texts.named
  pub none : texts.none ≡ []

-- the relations are kept, their names stand in order, and the texts are theirs
pub record IsDatabaseStored (relations : List Relation) (names : List Identifier) (texts : TextLists) : Type 0 where
  pub kept : AreKept relations
  pub order : names ≡ map (λ r. r.name) relations
  pub held : AreTextsOf relations texts
