use Rattle.std.proofs.Common.{take}
use Rattle.std.specs.Str.{bytes_eq}
use Rattle.std.specs.HashMap.{get}
use Rattle.lrp_model.specs.Texts.{Identifier}
use Rattle.lrp_model.specs.Rows.{relation_named}
use Rattle.lrp_plan.specs.Naming.{IsNamedAs}
use Rattle.lrp_plan.proofs.naming.facts_by_name.Given as goal

-- the relations so far were named
abbrev pub invariant-loop-i : goal.invariant-loop-i
invariant-loop-i l = (name : Identifier) → IsNamedAs (relation_named (take l.i l.database) name) (get bytes_eq l.facts name)
