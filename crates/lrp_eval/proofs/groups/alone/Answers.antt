-- The table that the call made is the one part.
use Rattle.lrp_eval.specs.Grouped.{IsPartAlone, IsOnePart}
use Rattle.lrp_eval.proofs.GroupLaws.{also_ok}
use Rattle.lrp_eval.proofs.groups.alone.Goals as goal

pub returns-in-Ok : goal.returns-in-Ok
returns-in-Ok c = also_ok (IsOnePart c.in-Ok.table) (IsPartAlone c.args.made) c.one_part.result (λ parts one. record { table = c.in-Ok.table; is = c.in-Ok.is; one = one }) c.one_part.ensures
