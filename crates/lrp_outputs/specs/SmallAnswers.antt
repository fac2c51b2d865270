-- Answers with small zones.
use Rattle.std.specs.Prelude.{◌≤◌, ◌^◌, ◌*◌, ◌+◌, ℕ, Contains}
use Rattle.lrp_model.specs.Sorts.{time_count}
use Rattle.lrp_model.specs.declared.tuples.Cell.{Cell}
use Rattle.lrp_zone.specs.Zones.{ZoneView}
use Rattle.lrp_store.specs.Stores.{zones_at}
use Rattle.lrp_answers.specs.declared.answer.Answer.{Answer}
use Rattle.lrp_cutting.specs.Settling.{IsSmallZone}

-- the period and the bounds of each zone are small enough for this number, and that is for 2^62
pub record IsSmallAnswer (a : Answer) (reach : ℕ) : Type 0 where
  pub period : a.store.period ≤ reach
  pub scaled : 2 ^ (time_count a.head.columns + 1) * reach ≤ 2 ^ 62
  pub small : (cell : Cell) (z : ZoneView) → Contains (zones_at a.store cell) z → IsSmallZone z (time_count a.head.columns * reach)
