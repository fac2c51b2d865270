-- Relations of which one has other rows.
use Rattle.std.specs.Prelude.{List, map, if◌then◌else◌}
use Rattle.std.specs.Str.{bytes_eq}
use Rattle.lrp_model.specs.Texts.{Identifier}
use Rattle.lrp_model.specs.declared.relations.Row.{Row}
use Rattle.lrp_model.specs.declared.relations.Relation.{Relation}

-- the relation of this name with these rows, each other one as it is
abbrev pub with_rows : List Row → Identifier → Relation → Relation
with_rows rows name r = if bytes_eq r.name name then record { name = r.name; columns = r.columns; rows = rows } else r

-- the rows of the relation of this name are replaced
abbrev pub replaced : List Relation → Identifier → List Row → List Relation
replaced db name rows = map (with_rows rows name) db
