use Rattle.std.proofs.Common.{◌≡◌, take, find, None}
use Rattle.std.specs.Str.{bytes_eq}
use Rattle.lrp_model.specs.declared.relations.Column.{Column}
use Rattle.lrp_core.proofs.literals.sort_of_name.Given as goal

-- none of the binders so far has the name
abbrev pub invariant-loop-column : goal.invariant-loop-column
invariant-loop-column l = find (λ (c : Column). bytes_eq c.name l.name) (take l.column-index l.binders) ≡ None
