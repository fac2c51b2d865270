use Rattle.lrp_guarded.proofs.Projected.{none_made}
use Rattle.lrp_guarded.proofs.making.Making.new.Goals as goal

pub returns : goal.returns
returns c = λ over K whole sources database sorts. none_made over K _ c.new.ensures.steps c.new.ensures.number c.new.ensures.period c.new.ensures.reach c.new-2.ensures.items whole sources database sorts
