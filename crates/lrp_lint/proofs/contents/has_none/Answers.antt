-- All solutions were added to a store without cells.
use Rattle.std.proofs.Common.{refl, ap, subst, Ok, OnOk}
use Rattle.lrp_lint.proofs.Emptied.{all_added}
use Rattle.lrp_lint.proofs.contents.has_none.Goals as goal

pub returns-in-Ok : goal.returns-in-Ok
returns-in-Ok c = all_added c.args.times _ c.args.parts.now _ 0 c.add_system.new.out c.new-found.result c.new-found.ensures c.in-Ok.ensures.ok c.is_empty.result c.is_empty.ensures
