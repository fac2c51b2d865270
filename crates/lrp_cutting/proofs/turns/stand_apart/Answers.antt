-- Each turn compares two zones that stand side by side.
use Rattle.std.proofs.Common.{◌≡◌, ◌-◌, Some, arith}
use Rattle.std.specs.Prelude.{slice_get}
use Rattle.lrp_cutting.proofs.ApartLaws.{apart_to, parted_here, parted_more, turns_more}
use Rattle.lrp_cutting.proofs.Lists.{read}
use Rattle.lrp_cutting.proofs.NearLaws.{read_at}
use Rattle.lrp_cutting.proofs.turns.stand_apart.Goals.{then-have_value_between, else-have_value_between}
use Rattle.lrp_cutting.proofs.turns.stand_apart.Goals as goal

pub comes_before-requires : goal.comes_before-requires
comes_before-requires c = record {
  cell =
      c.requires.cell c.index-zones-place.result c.index-zones-place-in-loop-place.result
      (read c.args.zones.now (c.loop-place.place - 1) c.index-zones-place.result (omega arith) c.index-zones-place.is)
      (read c.args.zones.now c.loop-place.place c.index-zones-place-in-loop-place.result (omega arith) c.index-zones-place-in-loop-place.is);
}

pub have_value_between-requires-clause-cell : goal.have_value_between-requires-clause-cell
have_value_between-requires-clause-cell c =
    c.requires.cell c.index-zones-place.result c.index-zones-place-in-loop-place.result
    (read c.args.zones.now (c.loop-place.place - 1) c.index-zones-place.result (omega arith) c.index-zones-place.is)
    (read c.args.zones.now c.loop-place.place c.index-zones-place-in-loop-place.result (omega arith) c.index-zones-place-in-loop-place.is)

pub loop-place-preserved : goal.loop-place-preserved
loop-place-preserved c =
    let first : slice_get c.args.zones.now (c.loop-place.place - 1) ≡ Some c.index-zones-place.result = read_at c.args.zones.now (c.loop-place.place - 1) c.index-zones-place.result (omega arith) c.index-zones-place.is in
    let second : slice_get c.args.zones.now c.loop-place.place ≡ Some c.index-zones-place-in-loop-place.result = read_at c.args.zones.now c.loop-place.place c.index-zones-place-in-loop-place.result (omega arith) c.index-zones-place-in-loop-place.is in
    record {
      turns = turns_more c.args.zones.now c.loop-place.place c.index-zones-place.result c.index-zones-place-in-loop-place.result (omega arith) first second (c.comes_before.ensures c.if-not-comes_before.false) c.loop-place.invariant.turns;
      parted = λ t. elim c.if-have_value_between.branch [
        | then-have_value_between w ↦ parted_here c.args.zones.now c.loop-place.place c.index-zones-place.result c.index-zones-place-in-loop-place.result (omega arith) first second (c.have_value_between.ensures w.if-have_value_between.true)
        | else-have_value_between w ↦ parted_more c.args.zones.now c.loop-place.place (c.loop-place.invariant.parted (cc (t, w.are_parted-is)))
      ];
    }

pub returns : goal.returns
returns c = λ t. apart_to c.args.zones.now c.loop-place.place (omega arith) c.loop-place.invariant.turns (c.loop-place.invariant.parted t)
