-- The values so far.
use Rattle.std.proofs.Common.{◌≡◌, ◌||◌, take}
use Rattle.std.specs.List.{list_any}
use Rattle.lrp_model.specs.Domains.{row_texts}
use Rattle.lrp_model.specs.Texts.{Text}
use Rattle.lrp_model.specs.declared.relations.Sort.{Sort}
use Rattle.lrp_lint.specs.Known.{has}
use Rattle.lrp_lint.specs.Mentions.{is_entry}
use Rattle.lrp_lint.proofs.known.add_row.Given as goal

abbrev pub invariant-loop-i : goal.invariant-loop-i
invariant-loop-i l = (s : Sort) (t : Text) → has l.texts s t ≡ (has l.fn.texts s t || list_any (is_entry s t) (row_texts l.columns (take l.i l.values)))
