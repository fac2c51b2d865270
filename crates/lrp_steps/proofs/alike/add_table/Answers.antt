-- A table that stands alike is added zone by zone, and any other one as a pattern with it asks.
use Rattle.std.proofs.Common.{rules}
use Rattle.lrp_steps.proofs.Likeness.{same_shapes, alike_added, alike_refused, free_fits, free_known}
use Rattle.lrp_steps.proofs.alike.add_table.Goals as goal
use Rattle.lrp_systems.proofs.Taken.{add_ok}

pub add_zones-requires-clause-shape : goal.add_zones-requires-clause-shape
add_zones-requires-clause-shape c = same_shapes c.args.operand.store.now c.args.out.now c.args.operand.places.now c.requires.stands (c.is_alike.ensures (search rules))

pub add_zones-requires-clause-period : goal.add_zones-requires-clause-period
add_zones-requires-clause-period c = (c.is_alike.ensures (search rules)).period

pub add_store-requires-clause-adds : goal.add_store-requires-clause-adds
add_store-requires-clause-adds c = record { valid = c.requires.valid; fits = record { fits = free_fits c.args.wanted.pattern.now c.requires.free c.args.out.now.shape.times c.args.out.now.period; known = free_known c.args.wanted.pattern.now c.requires.free } }

pub returns-then-is_alike-clause-ok : goal.returns-then-is_alike-clause-ok
returns-then-is_alike-clause-ok c = add_ok c.add_zones.result _ _
    (λ all high b r. alike_added c.args.operand.store.now c.args.out.now c.requires.stands.valid c.requires.valid c.args.operand.places.now (c.is_alike.ensures (search rules)) (same_shapes c.args.operand.store.now c.args.out.now c.args.operand.places.now c.requires.stands (c.is_alike.ensures (search rules))) c.args.wanted.pattern.now c.requires.free c.args.wanted.size c.requires.numbered c.args.wanted.cap c.add_zones.new.out all high b)
    c.add_zones.ensures.ok

pub returns-then-is_alike-clause-too_many : goal.returns-then-is_alike-clause-too_many
returns-then-is_alike-clause-too_many c = λ e high b r.
    alike_refused c.args.operand.store.now c.args.out.now c.requires.stands.valid c.requires.valid c.args.operand.places.now (c.is_alike.ensures (search rules)) (same_shapes c.args.operand.store.now c.args.out.now c.args.operand.places.now c.requires.stands (c.is_alike.ensures (search rules))) c.args.wanted.pattern.now c.requires.free c.args.wanted.size c.requires.numbered c.args.wanted.cap c.add_zones.new.out (c.add_zones.ensures.too_many e) high b
