-- The new row has its label, and the others keep theirs.
use Rattle.std.proofs.Common.{◌<◌, ◌∙◌, length, subst, sym}
use Rattle.lrp_kept.proofs.Labelled.{larger_labelled, longer_labelled, one_labelled}
use Rattle.lrp_kept.proofs.sources.HeldSources.insert.Goals as goal

pub invariant_of-self : goal.invariant_of-self
invariant_of-self c = longer_labelled c.self.inside.rows c.self.inside.labels.items c.make_room.new.labels.items c.make_room.ensures.same c.self.invariant

pub invariant_of-self-in_err-key : goal.invariant_of-self-in_err-key
invariant_of-self-in_err-key c =
    larger_labelled c.self.inside.rows c.insert.new.self c.make_room.new.labels.items c.in_err-key.ensures.err
    (longer_labelled c.self.inside.rows c.self.inside.labels.items c.make_room.new.labels.items c.make_room.ensures.same c.self.invariant)

pub invariant_of-self-2 : goal.invariant_of-self-2
invariant_of-self-2 c =
    one_labelled c.self.inside.rows c.insert.new.self c.make_room.new.labels.items c.in_ok-key.key c.args.source c.label_of-label.result c.in_ok-key.ensures.updates
    (subst (λ k. k < length c.make_room.new.labels.items) (c.vacant_key-next.ensures.value ∙ sym c.in_ok-key.ensures.key) c.in_ok-make_room.ensures.room)
    c.label_of-label.ensures
    (longer_labelled c.self.inside.rows c.self.inside.labels.items c.make_room.new.labels.items c.make_room.ensures.same c.self.invariant)
