use Rattle.lrp_guarded.proofs.Projected.{project_made}
use Rattle.lrp_guarded.proofs.making.Making.project.Goals as goal

pub returns : goal.returns
returns c = project_made c.drop_each.result c.args.of c.args.wanted.now c.columns_of.result.now c.in_ok-dropped.dropped c.as_slice.result.now c.args.self.now c.drop_each.new.self c.columns_of.ensures c.in_ok-dropped.ensures c.as_slice.ensures c.drop_each.ensures
