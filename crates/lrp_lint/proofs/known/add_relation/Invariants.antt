-- The rows so far.
use Rattle.std.proofs.Common.{◌≡◌, ◌||◌, take}
use Rattle.std.specs.List.{flat_map, list_any}
use Rattle.lrp_model.specs.Domains.{row_texts}
use Rattle.lrp_model.specs.Texts.{Text}
use Rattle.lrp_model.specs.declared.relations.Row.{Row}
use Rattle.lrp_model.specs.declared.relations.Sort.{Sort}
use Rattle.lrp_lint.specs.Known.{has}
use Rattle.lrp_lint.specs.Mentions.{is_entry}
use Rattle.lrp_lint.proofs.known.add_relation.Given as goal

abbrev pub invariant-loop-row : goal.invariant-loop-row
invariant-loop-row l = (s : Sort) (t : Text) → has l.texts s t ≡ (has l.fn.texts s t || list_any (is_entry s t) (flat_map (λ (row : Row). row_texts l.columns row.values) (take l.row-index l.rows)))
