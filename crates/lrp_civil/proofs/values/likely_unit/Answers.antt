use Rattle.std.proofs.Common.{rules, ◌≡◌, get_or}
use Rattle.lrp_civil.proofs.PaceLemmas.{unit_begun}
use Rattle.lrp_civil.proofs.values.likely_unit.Goals as goal

pub returns-in-109 : goal.returns-in-109
returns-in-109 c = let first : get_or c.args.bytes.now 0 0 ≡ 109 = search rules in unit_begun c.args.bytes.now 109 first

pub returns-in-104 : goal.returns-in-104
returns-in-104 c = let first : get_or c.args.bytes.now 0 0 ≡ 104 = search rules in unit_begun c.args.bytes.now 104 first

pub returns-in-100 : goal.returns-in-100
returns-in-100 c = let first : get_or c.args.bytes.now 0 0 ≡ 100 = search rules in unit_begun c.args.bytes.now 100 first

pub returns-in-119 : goal.returns-in-119
returns-in-119 c = let first : get_or c.args.bytes.now 0 0 ≡ 119 = search rules in unit_begun c.args.bytes.now 119 first
