-- The table is after the others.
use Rattle.lrp_watch.proofs.KeptParts.{still_more}
use Rattle.lrp_watch.proofs.keeping.add_still.Goals as goal

pub returns : goal.returns
returns c = λ tables held all. still_more tables c.args.edited.now c.args.old.now c.args.new.now c.args.table _ _ c.in_ok-push.ensures.ok (c.is_still_part.ensures.same c.if-not-is_still_part.false) (c.is_still_part.ensures.alone c.if-not-is_still_part.false) held all
