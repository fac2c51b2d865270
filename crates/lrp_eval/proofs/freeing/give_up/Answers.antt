-- Both tables that the step reads.
use Rattle.std.proofs.Common.{sym, subst}
use Rattle.lrp_eval.specs.Freeing.{AreLeftOrFreed}
use Rattle.lrp_eval.proofs.FreeingLaws.{left_twice}
use Rattle.lrp_eval.proofs.freeing.give_up.Goals as goal

pub returns : goal.returns
returns c =
    subst (λ made. AreLeftOrFreed c.args.readers.now c.args.tables made) (sym c.from_vec.ensures)
    (left_twice c.args.readers.now c.args.tables c.give_up_one.new.tables.items c.give_up_one-2.new.tables.items (subst (λ old. AreLeftOrFreed c.args.readers.now old c.give_up_one.new.tables.items) c.into_vec-left.ensures c.give_up_one.ensures) c.give_up_one-2.ensures)
