-- Where no column has a bound, each tuple of the cell is in the zone.
use Rattle.std.proofs.Common.{◌≡◌, inl, inr, None, sym, subst, arith}
use Rattle.lrp_theory.specs.Entries.{entry}
use Rattle.lrp_theory.proofs.Members.{below_or}
use Rattle.lrp_zone.specs.Zones.{columns_of}
use Rattle.lrp_tables.proofs.FreeZones.{unbounded_zone}
use Rattle.lrp_tables.proofs.free.is_free.Goals as goal

pub is_unbounded-requires : goal.is_unbounded-requires
is_unbounded-requires c = let e : c.columns-columns.result ≡ columns_of c.args.zone.now = c.columns-columns.ensures.value in omega (arith, c.loop-column-test.true, e)

pub loop-column-preserved : goal.loop-column-preserved
loop-column-preserved c = λ i j l k. elim (below_or i c.loop-column.column) [
  | inl a ↦ c.loop-column.invariant i j a k
  | inr b ↦ (let e : i ≡ c.loop-column.column = omega arith in subst (λ n. entry c.args.zone.now.bounds n j ≡ None) (sym e) (c.is_unbounded.ensures c.if-not-is_unbounded.false j k))
]

pub returns : goal.returns
returns c = λ e. unbounded_zone c.args.zone.now (λ i j il jl. c.loop-column.invariant i j (let n : c.columns-columns.result ≡ columns_of c.args.zone.now = c.columns-columns.ensures.value in omega (arith, c.loop-column-test.false, il, n)) jl)
