-- Each piece is read in turn.
use Rattle.std.proofs.Common.{◌≡◌, ◌∙◌, [], ◌∷◌, ◌++◌, length, ap, lit<, arith}
use Rattle.std.specs.Fmt.{signed_decimal}
use Rattle.lrp_token.specs.Parts.{IsSpelling}
use Rattle.lrp_model.specs.PrintedPages.{IsSmall}
use Rattle.lrp_token.proofs.Numbers.{number_lacks, through_word}
use Rattle.std.proofs.lemmas.Iterator.Consumers.{YieldsList-turn, YieldsList-end}
use Rattle.std.proofs.lemmas.Iterator.Splits.{YieldsList-from_str_split}
use Rattle.lrp_token.proofs.Refusals.{some_bytes}
use Rattle.lrp_token.proofs.Lists.{fit_more, list_more, no_list, some_list}
use Rattle.lrp_token.proofs.reading.read_times.Goals as goal

pub returns-in_default : goal.returns-in_default
returns-in_default c =
    let turn = YieldsList-turn (YieldsList-from_str_split 44 c.args.text.now (lit< tt) (cc) (cc) (cc)) c.loop-part.yielded _ c.loop-part.yielded_by _ _ c.in-Some.part c.in-Some.is c.next.ensures.steps in
    let some : c.args.text.now ≡ [] → ⊥ = some_bytes c.args.text.now c.is_empty.result c.is_empty.ensures c.if-is_empty.false in
    no_list IsSmall signed_decimal (number_lacks 44 (omega arith) (λ e. omega (arith, e))) c.args.text.now some (length c.loop-part.yielded) c.in-Some.part.now turn.0 turn.1 c.in_default.ensures

pub loop-part-preserved : goal.loop-part-preserved
loop-part-preserved c =
    let spells : IsSpelling IsSmall signed_decimal c.in-Some.part.now c.in-Some-time_of.time = c.in-Some-time_of.ensures in
    let more : c.push.new.self ≡ c.loop-part.times ++ c.in-Some-time_of.time ∷ [] = c.in_ok-push.ensures.ok ∙ ap (λ x. c.loop-part.times ++ x ∷ []) (through_word c.in-Some-time_of.time spells.fits) in
    record {
      can = tt;
      finite = tt;
      spelled = list_more IsSmall signed_decimal (λ x. x.now) c.loop-part.times c.push.new.self c.in-Some-time_of.time c.loop-part.yielded c.in-Some.part c.loop-part.invariant.spelled more spells.spelled;
      fit = fit_more IsSmall c.loop-part.times c.push.new.self c.in-Some-time_of.time c.loop-part.invariant.fit more spells.fits;
    }

pub returns : goal.returns
returns c =
    let end = YieldsList-end (YieldsList-from_str_split 44 c.args.text.now (lit< tt) (cc) (cc) (cc)) c.loop-part.yielded _ c.loop-part.yielded_by _ _ c.in-None.is c.next.ensures.steps in
    some_list IsSmall signed_decimal c.args.text.now c.loop-part.times c.loop-part.invariant.fit (c.loop-part.invariant.spelled ∙ end.0)
