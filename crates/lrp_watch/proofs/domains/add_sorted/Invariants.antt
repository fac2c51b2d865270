use Rattle.std.proofs.Common.{◌≡◌, ◌++◌, take}
use Rattle.std.specs.Prelude.{map}
use Rattle.lrp_watch.proofs.domains.add_sorted.Given as goal

-- those of the texts so far were added
abbrev pub invariant-loop-entry : goal.invariant-loop-entry
invariant-loop-entry l = l.all.items ≡ l.fn.all.items ++ map (λ entry. entry.1) (take l.entry-index l.texts)
