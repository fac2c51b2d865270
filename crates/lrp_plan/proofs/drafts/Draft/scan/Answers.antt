use Rattle.std.proofs.Common.{◌≡◌, flat_map, rules}
use Rattle.lrp_model.specs.Reach.{greatest, term_magnitudes}
use Rattle.lrp_plan.proofs.Draws.{scans}
use Rattle.lrp_limits.proofs.Keeping.{joined_number}
use Rattle.lrp_plan.proofs.drafts.Draft.scan.Goals as goal

pub returns : goal.returns
returns c =
    let g : c.greatest_offset.result ≡ greatest (flat_map term_magnitudes c.args.terms) = search rules in
    scans c.add.result c.args.facts c.args.relation c.args.terms c.unwrap_or-period.result.number c.one.result.number c.greatest_offset.result c.scan_reach-reach.result c.args.self.now c.add.new.self
    (joined_number c.args.facts.period c.one.result c.unwrap_or-period.result c.unwrap_or-period.ensures) g c.scan_reach-reach.ensures c.add.ensures
