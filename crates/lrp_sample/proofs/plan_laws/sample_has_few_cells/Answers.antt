use Rattle.std.proofs.Common.{◌*◌, arith}
use Rattle.lrp_sample.proofs.PlanCells.{few_at}
use Rattle.lrp_sample.proofs.plan_laws.sample_has_few_cells.Goals as goal

pub returns-clause-few : goal.returns-clause-few
returns-clause-few c = λ seed size h s m. few_at seed size h.some (16 * size) (omega arith) s m

pub returns-clause-default : goal.returns-clause-default
returns-clause-default c = λ seed size h s m. few_at seed size h.some 1000000 (omega (arith, h.most)) s m
