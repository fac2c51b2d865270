-- The plan is sound, since a well-sorted query is settled.
use Rattle.lrp_model.specs.Formulas.{question_of}
use Rattle.lrp_watch.proofs.Renewals.{settled_query}
use Rattle.lrp_watch.proofs.anew.Renewed.plan.Goals as goal

pub returns-in-Ok-clause-plan : goal.returns-in-Ok-clause-plan
returns-in-Ok-clause-plan c =
    let q = question_of c.args.self.now.query.now in
    let settled = settled_query c.kept_queries_have_periods.ensures c.sorted_queries_are_settled.ensures c.args.database.now q c.relations.ensures.kept.each c.requires in
    record {
      settled = settled;
      sound = c.in-Ok.ensures.sound settled;
      points = c.requires.points;
      is = c.in-Ok.ensures.ok;
      period = c.in-Ok.ensures.limits.period;
      reach = c.in-Ok.ensures.limits.reach;
    }
