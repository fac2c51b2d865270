use Rattle.std.proofs.Common.{rules, ◌≡◌, get_or, refl}
use Rattle.lrp_civil.proofs.ValueLemmas.{as_usual, match_both, only_daily, only_on, only_paced, only_weekly}
use Rattle.lrp_civil.proofs.values.CivilValue.at.Goals as goal

pub returns-in-100 : goal.returns-in-100
returns-in-100 c =
    let first : get_or c.args.bytes.now 0 0 ≡ 100 = search rules in
    match_both _ _ _ _ c.daily.result (only_daily c.args.kind c.args.bytes.now first) (λ v s. as_usual c.args.kind c.args.bytes.now 100 v first refl s) c.daily.ensures

pub returns-in-119 : goal.returns-in-119
returns-in-119 c =
    let first : get_or c.args.bytes.now 0 0 ≡ 119 = search rules in
    match_both _ _ _ _ c.weekly.result (only_weekly c.args.kind c.args.bytes.now first) (λ v s. as_usual c.args.kind c.args.bytes.now 119 v first refl s) c.weekly.ensures

pub returns-in-111 : goal.returns-in-111
returns-in-111 c =
    let first : get_or c.args.bytes.now 0 0 ≡ 111 = search rules in
    match_both _ _ _ _ c.on.result (only_on c.args.kind c.args.bytes.now first) (λ v s. as_usual c.args.kind c.args.bytes.now 111 v first refl s) c.on.ensures

pub returns-in-101 : goal.returns-in-101
returns-in-101 c =
    let first : get_or c.args.bytes.now 0 0 ≡ 101 = search rules in
    match_both _ _ _ _ c.paced.result (only_paced c.args.kind c.args.bytes.now first) (λ v s. s) c.paced.ensures
