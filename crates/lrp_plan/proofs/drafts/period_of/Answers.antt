use Rattle.std.proofs.Common.{◌≡◌, ◌∷◌, [], true, option_map, rules}
use Rattle.lrp_model.specs.Conjunctions.{is_test}
use Rattle.lrp_model.specs.Periods.{test_periods}
use Rattle.lrp_plan.proofs.Made.{member_period, no_test_period}
use Rattle.lrp_limits.proofs.Keeping.{joined_number}
use Rattle.lrp_plan.proofs.drafts.period_of.Goals as goal

pub returns-in-Member : goal.returns-in-Member
returns-in-Member c = λ K common whole.
    let m : test_periods c.args.test.now ≡ c.unsigned_abs.result ∷ [] = search rules in
    member_period c.args.test.now c.one.result.number c.unwrap_or.result.number c.one-in-Member.result.number K (option_map (λ p. p.number) c.with.result) c.unsigned_abs.result m c.one.ensures c.with.ensures (joined_number c.with.result c.one-in-Member.result c.unwrap_or.result c.unwrap_or.ensures) common whole

pub returns-in-Compare : goal.returns-in-Compare
returns-in-Compare c = λ K common whole.
    let t : is_test c.args.test.now ≡ true = search rules in
    no_test_period c.args.test.now c.one-in-Compare.result.number t c.one-in-Compare.ensures
