-- One step more is passed.
use Rattle.std.proofs.Common.{rules, ◌≡◌, ◌+◌, suc, inl, inr, sym, subst, arith}
use Rattle.lrp_eval.specs.Freeing.{IsDone}
use Rattle.lrp_cutting.proofs.Lists.{below_or}
use Rattle.lrp_eval.proofs.FreeingLaws.{noted_at}
use Rattle.lrp_eval.proofs.following.are_passed.Goals as goal

pub loop-place-preserved : goal.loop-place-preserved
loop-place-preserved c = λ i low less. elim (below_or i c.loop-place.place) [
  | inl a ↦ c.loop-place.invariant i low a
  | inr b ↦
      let e : i ≡ c.loop-place.place = omega arith in
      subst (λ j. IsDone c.args.readers.now (suc (c.args.at + c.args.count)) j) (sym e) (record {
        before = omega (arith, c.loop-place-test.true);
        reader = _;
        noted = noted_at c.args.readers.now c.loop-place.place 0 (search rules);
        run = search rules;
      })
]
