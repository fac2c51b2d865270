-- The relations so far.
use Rattle.std.proofs.Common.{◌≡◌, take}
use Rattle.lrp_model.specs.Texts.{Text}
use Rattle.lrp_model.specs.declared.relations.Sort.{Sort}
use Rattle.lrp_lint.specs.Known.{has}
use Rattle.lrp_lint.specs.Mentions.{is_known}
use Rattle.lrp_lint.proofs.known.known_texts.Given as goal

abbrev pub invariant-loop-i : goal.invariant-loop-i
invariant-loop-i l = (s : Sort) (t : Text) → has l.texts s t ≡ is_known (take l.i l.database) s t
