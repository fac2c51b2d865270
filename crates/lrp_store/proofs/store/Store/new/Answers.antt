-- A store without cells is a store.
use Rattle.std.proofs.Common.{arith, ◌<◌, ◌≤◌, ◌^◌, to_z, of_z}
use Rattle.std.specs.Int.{w64}
use Rattle.std.specs.Prelude.{nat_abs}
use Rattle.std.proofs.lemmas.Int.{ints}
use Rattle.lrp_store.proofs.Held.{new_store, same_tables}
use Rattle.lrp_store.proofs.Remembered.{none_remembered}
use Rattle.lrp_store.proofs.store.Store.new.Goals as goal

pub invariant_of-result : goal.invariant_of-result
invariant_of-result c =
    let low : 0 < nat_abs (to_z w64 (of_z w64 c.args.period)) = omega (arith, ints, c.requires.period_low, c.requires.period_high) in
    let high : nat_abs (to_z w64 (of_z w64 c.args.period)) ≤ 2 ^ 62 = omega (arith, ints, c.requires.period_low, c.requires.period_high) in
    record {
      valid = same_tables _ c.new.result.lists c.new.result.spare (new_store c.args.shape (nat_abs (to_z w64 (of_z w64 c.args.period))) c.requires.times c.requires.texts low high) c.new.ensures.lists;
      whole = none_remembered c.new.result.lists c.new-2.result c.new-2.ensures;
    }
