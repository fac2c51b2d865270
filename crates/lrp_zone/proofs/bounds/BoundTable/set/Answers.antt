-- The number that is written stands for the bound.
use Rattle.std.proofs.Common.{◌≡◌, ◌∙◌, rules, to_z, of_z}
use Rattle.std.specs.Int.{w64}
use Rattle.lrp_zone.proofs.Stands.{write_bound}
use Rattle.lrp_zone.proofs.bounds.BoundTable.set.Goals as goal

pub returns-clause-value : goal.returns-clause-value
returns-clause-value c =
    let same : to_z w64 (of_z w64 c.number_of.result) ≡ c.number_of.result = search rules in
    write_bound c.self.inside.numbers c.args.self.now c.args.place (to_z w64 (of_z w64 c.number_of.result)) c.args.bound c.self.view_is (same ∙ c.number_of.ensures) c.requires.stands
