use Rattle.std.proofs.Common.{◌∙◌}
use Rattle.lrp_civil.proofs.PushLemmas.{on_ok, point_pieces}
use Rattle.lrp_civil.proofs.plain.push_point.Goals as goal

pub returns : goal.returns
returns c =
    on_ok c.push-4.result _ _
    (λ last. point_pieces c.args.text.now.items c.push.new.text.items c.push-2.new.text.items c.push-3.new.text.items c.push-4.new.text.items c.as_bytes.result.now c.as_bytes-2.result.now c.args.offset c.args.period c.requires
    c.in_ok-push.ensures (c.as_bytes.ensures.value ∙ c.format.ensures.text) c.in_ok-push-2.ensures c.in_ok-push-3.ensures (c.as_bytes-2.ensures.value ∙ c.format-2.ensures.text) last)
    c.push-4.ensures
