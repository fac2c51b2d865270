-- The choices of the columns so far are counted.
use Rattle.std.proofs.Common.{◌≡◌, take}
use Rattle.lrp_eval.specs.Together.{ways_for}
use Rattle.lrp_eval.proofs.complementing.choices.Given as goal

abbrev pub invariant-loop-name : goal.invariant-loop-name
invariant-loop-name l = l.count ≡ ways_for l.others l.period (take l.name-index l.names)
