-- The one part has the step's period.
use Rattle.std.proofs.Common.{SFits, rules, sym, arith, w64, ◌∙◌}
use Rattle.lrp_eval.proofs.GroupLaws.{one_of, same_word}
use Rattle.lrp_eval.proofs.groups.is_one.Goals as goal

pub returns-in-len1 : goal.returns-in-len1
returns-in-len1 c = λ e.
    let f : SFits w64 c.period.result = search rules in
    let g : SFits w64 c.args.step.now.period = search rules in
    (c.table-item.result, one_of c.args.parts.now c.table-item.result (omega (arith, c.in-len1.len_at_least)) (omega (arith, c.in-len1.len_below)) c.table-item.is, sym c.period.ensures ∙ same_word c.period.result c.args.step.now.period f g e)
