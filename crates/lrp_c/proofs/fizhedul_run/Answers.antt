-- The reply is told.
use Rattle.std.proofs.Common.{to_z-of_z, rules, sym, subst, ℤ}
use mir.Val.{SFits}
use Rattle.std.specs.Int.{w32}
use Rattle.lrp_c.specs.Calls.{IsCall}
use Rattle.lrp_c.proofs.CallLemmas.{call_of}
use Rattle.lrp_c.proofs.fizhedul_run.Goals as goal

pub returns : goal.returns
returns c =
    let fits : SFits w32 c.tell.result = search rules in
    subst (λ (n : ℤ). IsCall c.args.words.now c.args.files.now c.args.out.now c.tell.new.out c.tell.new.count n) (sym (to_z-of_z fits)) (call_of c.reply_to.result c.reply_to.ensures.answered c.reply_to.ensures.unpacked c.tell.ensures)
