use Rattle.std.proofs.Common.{◌≡◌, take}
use Rattle.std.specs.BTreeSet.{keys}
use Rattle.lrp_model.specs.Texts.{in_order}
use Rattle.lrp_plan.proofs.domains.set_of.Given as goal

-- those so far are in the set
abbrev pub invariant-loop-text : goal.invariant-loop-text
invariant-loop-text l = keys l.set ≡ in_order (take l.text-index l.texts)
