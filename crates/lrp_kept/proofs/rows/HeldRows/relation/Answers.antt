use Rattle.std.proofs.Common.{◌≡◌, ◌<◌, length, vec_len, arith, rules}
use Rattle.lrp_kept.proofs.Covering.{named_at, not_named, not_named_more}
use Rattle.lrp_kept.proofs.rows.HeldRows.relation.Goals as goal

pub returns-then-eq-clause-some : goal.returns-then-eq-clause-some
returns-then-eq-clause-some c =
    let size : vec_len c.args.self.now.relations ≡ length c.args.self.now.relations.items = search rules in
    let low : c.loop-number.number < length c.args.self.now.relations.items = omega (arith, size, c.loop-number-test.true, c.len-number-end.ensures) in
    named_at c.args.self.now.relations.items c.loop-number.number c.index.result.now c.args.name.now c.eq.result low c.index.ensures c.eq.ensures c.if-eq.true

pub loop-number-preserved : goal.loop-number-preserved
loop-number-preserved c =
    let size : vec_len c.args.self.now.relations ≡ length c.args.self.now.relations.items = search rules in
    let low : c.loop-number.number < length c.args.self.now.relations.items = omega (arith, size, c.loop-number-test.true, c.len-number-end.ensures) in
    not_named_more c.args.self.now.relations.items c.loop-number.number c.index.result.now c.args.name.now c.eq.result low c.index.ensures c.eq.ensures c.if-eq.false c.loop-number.invariant

pub returns-clause-none : goal.returns-clause-none
returns-clause-none c =
    let size : vec_len c.args.self.now.relations ≡ length c.args.self.now.relations.items = search rules in
    not_named c.args.self.now.relations.items c.args.name.now (λ k lt. c.loop-number.invariant k (omega (arith, lt, size, c.loop-number-test.false, c.len-number-end.ensures)))
