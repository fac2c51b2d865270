use Rattle.lrp_core.specs.Cores.{core_of}
use Rattle.lrp_model.specs.Formulas.{question_of}
use Rattle.lrp_plan_laws.specs.GuardedPlans.{guarded_plan}
use Rattle.lrp_guarded.proofs.Ended.{guarded_points, guarded_sound}
use Rattle.lrp_plan.proofs.Promised.{gathered_is, outcome_ok, outcome_limits, outcome_writable, outcome_fault}
use Rattle.lrp_guarded.proofs.planning.plan_guarded.Goals as goal

pub returns-clause-ok : goal.returns-clause-ok
returns-clause-ok c = outcome_ok (guarded_plan c.args.database.now (question_of c.args.query.now)) c.args.database.now (question_of c.args.query.now) c.plan_gathered.result (c.plan_gathered.ensures c.args.database.now (gathered_is c.args.database.now (question_of c.args.query.now) c.has_named_sort.result c.in_ok-sources.sources (core_of c.in_ok-core.core) c.requires.elements c.requires.points c.in_ok-sources.ensures.periods c.has_named_sort.ensures c.in_ok-core.ensures c.in_ok-sources.ensures.sources c.in_ok-sources.ensures.texts) c.in_ok-sources.ensures.database)

pub returns-clause-limits : goal.returns-clause-limits
returns-clause-limits c = outcome_limits (guarded_plan c.args.database.now (question_of c.args.query.now)) c.args.database.now (question_of c.args.query.now) c.plan_gathered.result (c.plan_gathered.ensures c.args.database.now (gathered_is c.args.database.now (question_of c.args.query.now) c.has_named_sort.result c.in_ok-sources.sources (core_of c.in_ok-core.core) c.requires.elements c.requires.points c.in_ok-sources.ensures.periods c.has_named_sort.ensures c.in_ok-core.ensures c.in_ok-sources.ensures.sources c.in_ok-sources.ensures.texts) c.in_ok-sources.ensures.database)

pub returns-clause-writable : goal.returns-clause-writable
returns-clause-writable c = outcome_writable (guarded_plan c.args.database.now (question_of c.args.query.now)) c.args.database.now (question_of c.args.query.now) c.plan_gathered.result (guarded_points c.args.database.now (question_of c.args.query.now) c.requires.elements) c.requires.points (c.plan_gathered.ensures c.args.database.now (gathered_is c.args.database.now (question_of c.args.query.now) c.has_named_sort.result c.in_ok-sources.sources (core_of c.in_ok-core.core) c.requires.elements c.requires.points c.in_ok-sources.ensures.periods c.has_named_sort.ensures c.in_ok-core.ensures c.in_ok-sources.ensures.sources c.in_ok-sources.ensures.texts) c.in_ok-sources.ensures.database)

pub returns-clause-sound : goal.returns-clause-sound
returns-clause-sound c = guarded_sound c.args.database.now (question_of c.args.query.now) c.plan_gathered.result

pub returns-clause-fault : goal.returns-clause-fault
returns-clause-fault c = outcome_fault (guarded_plan c.args.database.now (question_of c.args.query.now)) c.args.database.now (question_of c.args.query.now) c.plan_gathered.result (c.plan_gathered.ensures c.args.database.now (gathered_is c.args.database.now (question_of c.args.query.now) c.has_named_sort.result c.in_ok-sources.sources (core_of c.in_ok-core.core) c.requires.elements c.requires.points c.in_ok-sources.ensures.periods c.has_named_sort.ensures c.in_ok-core.ensures c.in_ok-sources.ensures.sources c.in_ok-sources.ensures.texts) c.in_ok-sources.ensures.database)
