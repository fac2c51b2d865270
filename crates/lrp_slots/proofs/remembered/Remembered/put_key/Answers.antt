-- The key takes one place, and the others are as they were.
use Rattle.std.proofs.Common.{◌≡◌, ◌⊎◌, map, slice_set, subst}
use Rattle.std.specs.Prelude.{Contains}
use Rattle.lrp_slots.specs.Narrow.{wide}
use Rattle.lrp_slots.proofs.Places.{all_put, remembered}
use Rattle.lrp_slots.proofs.remembered.Remembered.put_key.Goals as goal

pub returns : goal.returns
returns c = λ other held.
    subst (λ cells. (other ≡ wide c.args.key.now) ⊎ Contains cells other) c.self.view_is
    (remembered (map wide c.self.inside.places.items) (wide c.args.key.now) (slice_set c.self.inside.places.items c.place_of-place.result c.args.key.now)
    (all_put c.self.inside.places.items c.place_of-place.result c.args.key.now) other held)
