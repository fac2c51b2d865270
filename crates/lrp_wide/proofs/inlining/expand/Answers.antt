use Rattle.std.proofs.Common.{sym, ◌∙◌}
use Rattle.lrp_wide.proofs.Results.{if_ok_then}
use Rattle.lrp_wide.proofs.inlining.expand.Goals as goal

pub returns : goal.returns
returns c =
    if_ok_then c.expand_beside.result _ _ c.expand_beside.ensures (λ made h file w q.
    h file (record { database = sym (c.in_ok-catalog.ensures ∙ c.database.ensures); written = w }) q)
