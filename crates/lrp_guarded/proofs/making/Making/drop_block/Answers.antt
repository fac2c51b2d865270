use Rattle.std.proofs.Common.{reverse, ap, ◌∙◌}
use Rattle.lrp_guarded.proofs.Projected.{block_dropped}
use Rattle.lrp_guarded.proofs.making.Making.drop_block.Goals as goal

pub returns : goal.returns
returns c = block_dropped c.args.of c.args.block c.as_slice.result.now c.args.self.now c.drop_each.new.self c.in_ok-drop_each.field-0 (c.as_slice.ensures.value ∙ c.reverse.ensures.items ∙ ap reverse c.into_vec-variables.ensures) c.in_ok-drop_each.ensures
