-- Two numbers are compared, which stay within a word.
use Rattle.std.proofs.Common.{Some, arith, subst, ◌^◌}
use Rattle.std.proofs.lemmas.Int.{ints}
use Rattle.lrp_theory.specs.Entries.{AtMost}
use Rattle.lrp_store.proofs.LineBounds.{some_near}
use Rattle.lrp_store.proofs.line.are_near.Goals as goal

pub returns-in-Some-Some : goal.returns-in-Some-Some
returns-in-Some-Some c = λ k e yes.
    let h : AtMost (2 ^ 62) (Some c.in-Some-Some.high) = subst (AtMost (2 ^ 62)) c.in-Some-Some.is-0 c.requires.high in
    let l : AtMost (2 ^ 62) (Some c.in-Some-Some.low) = subst (AtMost (2 ^ 62)) c.in-Some-Some.is-1 c.requires.low in
    some_near k c.in-Some-Some.high c.in-Some-Some.low c.args.high c.args.low c.in-Some-Some.is-0 c.in-Some-Some.is-1 (omega (arith, ints, h.0, h.1, l.0, l.1, e, yes, c.requires.period_low.le, c.requires.period_high.le))
