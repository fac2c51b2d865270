-- The place of one name more was added.
use Rattle.std.proofs.Common.{◌<◌, length, get_or, subst, ap, ◌∙◌}
use Rattle.lrp_tables.proofs.Joining.{one_place_more}
use Rattle.lrp_tables.proofs.names.places_among.Goals as goal

pub loop-name-preserved : goal.loop-name-preserved
loop-name-preserved c =
    one_place_more c.args.all.now c.args.names.now c.loop-name.places.items c.push.new.self.items c.loop-name.name-index c.name-item.result c.column_of.result c.requires
    (subst (λ l. c.loop-name.name-index < length l) c.as_slice-name-items.ensures c.loop-name-test.true)
    (c.name-item.is ∙ ap (λ l. get_or l c.loop-name.name-index c.name-item.result) c.as_slice-name-items.ensures) c.column_of.ensures c.in_ok-push.ensures.items c.loop-name.invariant
