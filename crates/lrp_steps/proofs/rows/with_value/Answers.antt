-- A point is a test of a time, and a constant one of a text.
use Rattle.lrp_steps.proofs.Conditioned.{ok_map}
use Rattle.lrp_steps.proofs.ReadRows.{point_found, constant_found}
use Rattle.lrp_steps.proofs.rows.with_value.Goals as goal

pub returns-in-Time : goal.returns-in-Time
returns-in-Time c = ok_map c.with_member.result _ _ (λ found h. point_found c.args.domain.now c.args.vars.now.times c.args.vars.now.texts c.args.value.now c.args.term.now c.args.pattern c.in-Point.at c.in-Time.term c.in-Point.is c.in-Time.is found (h c.args.domain.now c.args.vars.now.texts)) c.with_member.ensures

pub returns-in-Data-term : goal.returns-in-Data-term
returns-in-Data-term c = ok_map c.with_constant.result _ _ (λ found h. constant_found c.args.domain.now c.args.vars.now.times c.args.vars.now.texts c.args.value.now c.args.term.now c.args.pattern c.in-Const.text c.in-Data-term.term c.in-Const.is c.in-Data-term.is found (h c.args.vars.now.times)) c.with_constant.ensures
