use Rattle.std.proofs.Common.{◌≡◌, ◌<◌, ◌≤◌, length, vec_len, arith, rules}
use Rattle.lrp_kept.proofs.FirstEqual.{first_equal, keys_are, none_equal, none_more}
use Rattle.lrp_kept.proofs.rows.HeldRows.place_of.Goals as goal

pub returns-then-is_equal : goal.returns-then-is_equal
returns-then-is_equal c =
    let size : vec_len c.index.result.now.keys ≡ length c.index.result.now.keys.items = search rules in
    let low : c.loop-place.place < length c.index.result.now.keys.items = omega (arith, size, c.loop-place-test.true, c.len-place-end.ensures) in
    first_equal c.args.self.now c.args.relation c.args.row.now c.index.result.now.keys.items c.loop-place.place c.index-in-loop-place.result.now c.is_equal.result (keys_are c.args.self.now.relations.items c.args.relation c.index.result.now c.requires c.index.ensures) low c.index-in-loop-place.ensures c.is_equal.ensures c.if-is_equal.true c.loop-place.invariant

pub loop-place-preserved : goal.loop-place-preserved
loop-place-preserved c =
    let size : vec_len c.index.result.now.keys ≡ length c.index.result.now.keys.items = search rules in
    let low : c.loop-place.place < length c.index.result.now.keys.items = omega (arith, size, c.loop-place-test.true, c.len-place-end.ensures) in
    none_more c.args.self.now c.args.row.now c.index.result.now.keys.items c.loop-place.place c.index-in-loop-place.result.now c.is_equal.result low c.index-in-loop-place.ensures c.is_equal.ensures c.if-is_equal.false c.loop-place.invariant

pub returns : goal.returns
returns c =
    let size : vec_len c.index.result.now.keys ≡ length c.index.result.now.keys.items = search rules in
    let past : length c.index.result.now.keys.items ≤ c.loop-place.place = omega (arith, size, c.loop-place-test.false, c.len-place-end.ensures) in
    none_equal c.args.self.now c.args.relation c.args.row.now c.index.result.now.keys.items c.loop-place.place (keys_are c.args.self.now.relations.items c.args.relation c.index.result.now c.requires c.index.ensures) past c.loop-place.invariant
