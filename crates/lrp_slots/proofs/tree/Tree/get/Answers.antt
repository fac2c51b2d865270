-- A chain is found by the key of its cell.
use Rattle.std.proofs.Common.{ap, sym, ◌∙◌}
use Rattle.std.specs.Prelude.{option_copied}
use Rattle.lrp_slots.proofs.Shortened.{all_narrow, found_by_key, not_found}
use Rattle.lrp_slots.proofs.tree.Tree.get.Goals as goal

pub returns-in_err-narrow : goal.returns-in_err-narrow
returns-in_err-narrow c = record {
  value =
      ap option_copied c.from_residual.ensures
      ∙ sym (not_found c.self.inside.narrow.entries c.self.inside.wide.entries c.args.self.now c.args.cell.now
      (all_narrow c.self.inside.narrow.entries c.self.inside.wide.entries c.args.self.now c.is_empty.result c.self.view_is c.is_empty.ensures c.if-not-is_empty.false) c.in_err-narrow.ensures.none);
}

pub returns : goal.returns
returns c = record {
  value =
      c.get-2.ensures.value
      ∙ found_by_key c.self.inside.narrow.entries c.self.inside.wide.entries c.args.self.now c.in_ok-narrow.narrow c.args.cell.now
      (all_narrow c.self.inside.narrow.entries c.self.inside.wide.entries c.args.self.now c.is_empty.result c.self.view_is c.is_empty.ensures c.if-not-is_empty.false) c.in_ok-narrow.ensures.some;
}
