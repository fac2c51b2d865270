-- The turn after the hole.
use Rattle.std.proofs.Common.{◌≡◌, ◌^◌, ◌+◌, Some, arith, refl, subst, to_z, of_z, w64}
use Rattle.std.specs.Prelude.{ℤ, pos, ◌≤ℤ◌, ◌<ℤ◌, neg_ℤ}
use Rattle.std.proofs.lemmas.Int.{ints}
use Rattle.lrp_theory.specs.Entries.{AtMost}
use Rattle.lrp_spans.proofs.SpanLaws.{rest_is}
use Rattle.lrp_spans.proofs.spans.Span.rest.Goals as goal

pub returns-clause-some : goal.returns-clause-some
returns-clause-some c =
    let f : ℤ = c.in_ok-last.last in
    let was : c.args.hole.now.last ≡ Some f = c.in_ok-last.was in
    let small : AtMost (2 ^ 62 + 1) (Some f) = subst (AtMost (2 ^ 62 + 1)) was c.requires.small in
    let low : neg_ℤ (pos (2 ^ 62 + 1)) ≤ℤ f = small.0 in
    let high : f ≤ℤ pos (2 ^ 62 + 1) = small.1 in
    let word : to_z w64 (of_z w64 f) ≡ f = omega (arith, ints) in
    rest_is c.args.self.now c.args.hole.now _ f _ was (omega (arith, ints)) refl refl refl c.requires.meets (subst (λ v. (a : ℤ) → c.args.self.now.last ≡ Some a → v <ℤ a) word (c.ends_by.ensures.no c.if-ends_by.false))
