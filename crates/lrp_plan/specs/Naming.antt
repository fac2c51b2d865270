-- The facts of relations, by the relations' names.
use Rattle.std.specs.Prelude.{Option, Some, None}
use Rattle.lrp_model.specs.declared.relations.Relation.{Relation}
use Rattle.lrp_limits.specs.declared.facts.Facts.{Facts}
use Rattle.lrp_limits.specs.Facts.{AreFacts}

-- the facts of a relation's rows, where there is the relation
abbrev pub IsNamedAs : Option Relation → Option Facts → Type 0
IsNamedAs (Some relation) (Some facts) = AreFacts relation.rows facts
IsNamedAs None None = Unit {0}
IsNamedAs _ _ = ⊥
