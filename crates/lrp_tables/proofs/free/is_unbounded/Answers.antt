-- One bound more is none.
use Rattle.std.proofs.Common.{◌≡◌, inl, inr, None, Some, false, refl, sym, subst, ◌∙◌, arith}
use Rattle.std.specs.Prelude.{Option, ℤ}
use Rattle.std.specs.Option.{is_some}
use Rattle.lrp_theory.specs.Entries.{entry}
use Rattle.lrp_theory.proofs.Members.{below_or}
use Rattle.lrp_zone.specs.Zones.{columns_of}
use Rattle.lrp_tables.proofs.free.is_unbounded.Goals as goal

not_some : (o : Option ℤ) → is_some o ≡ false → o ≡ None
not_some None e = refl
not_some (Some x) e = cc

pub bound-requires-clause-column : goal.bound-requires-clause-column
bound-requires-clause-column c = let e : c.columns-columns.result ≡ columns_of c.args.zone.now = c.columns-columns.ensures.value in omega (arith, c.loop-other-test.true, e)

pub loop-other-preserved : goal.loop-other-preserved
loop-other-preserved c = λ j l. elim (below_or j c.loop-other.other) [
  | inl a ↦ c.loop-other.invariant j a
  | inr b ↦
      let e : j ≡ c.loop-other.other = omega arith in
      subst (λ k. entry c.args.zone.now.bounds c.args.column k ≡ None) (sym e) (sym c.bound.ensures ∙ not_some c.bound.result (sym c.is_some.ensures ∙ c.if-is_some.false))
]

pub returns : goal.returns
returns c = λ e j l. c.loop-other.invariant j (let n : c.columns-columns.result ≡ columns_of c.args.zone.now = c.columns-columns.ensures.value in omega (arith, c.loop-other-test.false, l, n))
