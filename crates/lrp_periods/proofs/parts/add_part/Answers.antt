-- With a part of its period the further one becomes one, and is else put after the others.
use Rattle.std.proofs.Common.{subst}
use Rattle.std.specs.Prelude.{pos}
use Rattle.lrp_periods.specs.Combining.{IsPlaceWith}
use Rattle.lrp_periods.proofs.PartLaws.{all_pushed}
use Rattle.lrp_periods.proofs.parts.add_part.Goals as goal

pub join_part-requires-clause-place : goal.join_part-requires-clause-place
join_part-requires-clause-place c = subst (λ ps. IsPlaceWith ps (pos c.args.made.store.period) c.in-Some.place) c.as_slice.ensures c.in-Some.ensures

pub returns-in-None : goal.returns-in-None
returns-in-None c = all_pushed _ _ _ c.push_part.result c.push_part.ensures.few c.push_part.ensures.pushed
