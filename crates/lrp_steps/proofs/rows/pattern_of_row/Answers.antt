-- The values, and then the bounds.
use Rattle.std.proofs.Common.{subst}
use Rattle.std.specs.Prelude.{MatchOption}
use Rattle.lrp_steps.specs.Rows.{IsWithValues, HasNoValues}
use Rattle.lrp_steps.proofs.Conditioned.{matched_some, ok_map}
use Rattle.lrp_steps.proofs.ReadRows.{row_found, row_none}
use Rattle.lrp_steps.proofs.rows.pattern_of_row.Goals as goal

pub with_bounds-requires-clause-known : goal.with_bounds-requires-clause-known
with_bounds-requires-clause-known c =
    let w = matched_some _ _ _ _ c.in-Some.is c.in_ok-pattern.ensures in
    w.size

pub returns-in-Some : goal.returns-in-Some
returns-in-Some c =
    let w = matched_some _ _ _ _ c.in-Some.is c.in_ok-pattern.ensures in
    ok_map c.with_bounds.result _ _ (λ found h. row_found c.args.domain.now c.args.vars.now.times c.args.vars.now.texts c.args.terms.now c.args.row.now c.in-Some.pattern w found h) c.with_bounds.ensures

pub returns-in-None : goal.returns-in-None
returns-in-None c = row_none c.args.domain.now c.args.vars.now.times c.args.vars.now.texts c.args.terms.now c.args.row.now (subst (λ o. MatchOption o (HasNoValues c.args.domain.now c.args.vars.now.times c.args.vars.now.texts c.args.row.now.values c.args.terms.now) (IsWithValues c.args.domain.now c.args.vars.now.times c.args.vars.now.texts c.args.row.now.values c.args.terms.now)) c.in-None.is c.in_ok-pattern.ensures)
