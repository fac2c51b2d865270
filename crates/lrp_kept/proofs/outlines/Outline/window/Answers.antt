-- The time at the place is in its span.
use Rattle.std.proofs.Common.{◌<◌, arith, get_or, subst, sym}
use Rattle.std.proofs.lemmas.Option.{slice_get-get_or}
use Rattle.lrp_kept.proofs.outlines.Outline.window.Goals as goal

pub returns-then-place-ge8 : goal.returns-then-place-ge8
returns-then-place-ge8 c = λ xs ns i. record { least = tt; most = tt }

pub returns : goal.returns
returns c = λ xs ns i. record {
  least = (i.times.each c.args.place (get_or c.args.self.now.times c.args.place c.index-self-place.result)
      (slice_get-get_or c.args.self.now.times c.args.place c.index-self-place.result (subst (λ n. c.args.place < n) (sym c.requires.times) (omega (arith, c.if-place-ge8.false))))).least;
  most = (i.times.each c.args.place (get_or c.args.self.now.times c.args.place c.index-self-place-2.result)
      (slice_get-get_or c.args.self.now.times c.args.place c.index-self-place-2.result (subst (λ n. c.args.place < n) (sym c.requires.times) (omega (arith, c.if-place-ge8.false))))).most;
}
