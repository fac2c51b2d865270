-- Relation after relation.
use Rattle.std.proofs.Common.{◌<◌, arith, length, false, sym}
use Rattle.std.proofs.lemmas.Option.{get_or_from_slice_get}
use Rattle.lrp_lint.specs.Known.{has, relation_texts}
use Rattle.lrp_lint.proofs.TextSets.{one_more_of}
use Rattle.lrp_lint.proofs.known.known_texts.Goals as goal

pub loop-i-preserved : goal.loop-i-preserved
loop-i-preserved c = λ s t.
    let below : c.loop-i.i < length c.args.database.now = omega (arith, c.relations-i-end.ensures.len) in
    one_more_of s t relation_texts c.args.database.now c.loop-i.i c.at.result.now false (has c.loop-i.texts s t) (has c.add_relation.new.texts s t) below (sym (get_or_from_slice_get c.args.database.now c.loop-i.i c.at.result.now c.at.result.now c.at.ensures.value)) (c.loop-i.invariant s t) (c.in_ok-add_relation.ensures s t)
