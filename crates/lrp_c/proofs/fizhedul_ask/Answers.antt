-- The run over both is told, or that no files are kept.
use Rattle.std.proofs.Common.{Some, ap, ◌∙◌, to_z-of_z, rules, sym, subst, ℤ}
use mir.Val.{SFits}
use Rattle.std.specs.Int.{w32}
use Rattle.lrp_c.specs.Sessions.{IsHandleAsked}
use Rattle.lrp_c.proofs.CallLemmas.{asked_open, call_of}
use Rattle.lrp_c.proofs.fizhedul_ask.Goals as goal

pub returns-in-Some : goal.returns-in-Some
returns-in-Some c =
    let call = call_of c.reply_of-reply.result.0 c.reply_of-reply.ensures.answered c.reply_of-reply.ensures.unpacked c.tell.ensures in
    let fits : SFits w32 c.tell.result = search rules in
    subst (λ (n : ℤ). IsHandleAsked c.args.words.now c.args.files.now c.args.database.now.held.files c.give_back.new.database.held.files c.args.out.now c.tell.new.out c.tell.new.count n) (sym (to_z-of_z fits))
    (asked_open _ _ _ _ _ _ c.args.database.now.held.files c.give_back.new.database.held.files c.in-Some.boxed.value.files c.in-Some.ensures.files (c.give_back.ensures ∙ ap Some c.reply_of-reply.ensures.files) call)
