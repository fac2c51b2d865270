-- One table more has small bounds.
use Rattle.std.proofs.Common.{◌∙◌, ap, subst}
use Rattle.std.specs.Prelude.{◌≤◌}
use Rattle.lrp_zone.specs.Zones.{greatest_of}
use Rattle.lrp_store.specs.Stored.{bounds_of, table_of}
use Rattle.lrp_store.proofs.Reaches.{seen_all, seen_more, seen_none}
use Rattle.lrp_store.proofs.reach.are_within.Goals as goal

pub loop-bounds-init : goal.loop-bounds-init
loop-bounds-init c = seen_none (λ table. greatest_of table ≤ c.args.reach) c.args.tables c.into_iter-bounds-iterator.result c.into_iter-bounds-iterator.ensures.into_iter_gives

pub loop-bounds-preserved : goal.loop-bounds-preserved
loop-bounds-preserved c =
    let listed = c.are_small.ensures c.if-not-are_small.false in
    let small : greatest_of c.in-Some.bounds.now ≤ c.args.reach = subst (λ t. greatest_of t ≤ c.args.reach) (ap (λ es. table_of (bounds_of es)) c.as_slice.ensures ∙ c.bounds.view_is) listed in
    seen_more (λ table. greatest_of table ≤ c.args.reach) c.args.tables c.loop-bounds.bounds-iterator c.next.new.self c.in-Some.bounds.now c.in-Some.ensures.steps c.loop-bounds.invariant small

pub returns : goal.returns
returns c = λ e. seen_all (λ table. greatest_of table ≤ c.args.reach) c.args.tables c.loop-bounds.bounds-iterator c.in-None.ensures.steps.0 c.loop-bounds.invariant
