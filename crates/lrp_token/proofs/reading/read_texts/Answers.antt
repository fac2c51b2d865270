-- Each piece is read in turn.
use Rattle.std.proofs.Common.{◌≡◌, ◌∙◌, [], ◌∷◌, ◌++◌, length, lit<, arith}
use Rattle.lrp_model.specs.PrintedPages.{text_part}
use Rattle.lrp_model.specs.DataTexts.{IsDataText}
use Rattle.lrp_token.specs.Parts.{IsListOf, IsSpelling}
use Rattle.lrp_token.proofs.HexLaws.{text_lacks}
use Rattle.std.proofs.lemmas.Iterator.Consumers.{YieldsList-turn, YieldsList-end}
use Rattle.std.proofs.lemmas.Iterator.Splits.{YieldsList-from_str_split}
use Rattle.lrp_token.proofs.Refusals.{refused, some_bytes}
use Rattle.lrp_token.proofs.Lists.{fit_more, list_more, no_list, some_list}
use Rattle.lrp_token.proofs.reading.read_texts.Goals as goal

pub returns-in_err-text_of : goal.returns-in_err-text_of
returns-in_err-text_of c =
    let turn = YieldsList-turn (YieldsList-from_str_split 44 c.args.text.now (lit< tt) (cc) (cc) (cc)) c.loop-part.yielded _ c.loop-part.yielded_by _ _ c.in-Some.part c.in-Some.is c.next.ensures.steps in
    let some : c.args.text.now ≡ [] → ⊥ = some_bytes c.args.text.now c.is_empty.result c.is_empty.ensures c.if-is_empty.false in
    refused (IsListOf IsDataText text_part c.args.text.now) (IsSpelling IsDataText text_part c.in-Some.part.now) c.from_residual.result c.in_err-text_of.field-0.0 c.from_residual.ensures.1 c.in_err-text_of.ensures
    (no_list IsDataText text_part (λ t h. text_lacks 44 (omega arith) (λ e. omega (arith, e)) t) c.args.text.now some (length c.loop-part.yielded) c.in-Some.part.now turn.0 turn.1)

pub loop-part-preserved : goal.loop-part-preserved
loop-part-preserved c =
    let spells : IsSpelling IsDataText text_part c.in-Some.part.now c.in_ok-text_of.field-0 = c.in_ok-text_of.ensures in
    let more : c.push.new.self ≡ c.loop-part.texts ++ c.in_ok-text_of.field-0 ∷ [] = c.in_ok-push.ensures.ok in
    record {
      can = tt;
      finite = tt;
      spelled = list_more IsDataText text_part (λ x. x.now) c.loop-part.texts c.push.new.self c.in_ok-text_of.field-0 c.loop-part.yielded c.in-Some.part c.loop-part.invariant.spelled more spells.spelled;
      fit = fit_more IsDataText c.loop-part.texts c.push.new.self c.in_ok-text_of.field-0 c.loop-part.invariant.fit more spells.fits;
    }

pub returns : goal.returns
returns c =
    let end = YieldsList-end (YieldsList-from_str_split 44 c.args.text.now (lit< tt) (cc) (cc) (cc)) c.loop-part.yielded _ c.loop-part.yielded_by _ _ c.in-None.is c.next.ensures.steps in
    some_list IsDataText text_part c.args.text.now c.loop-part.texts c.loop-part.invariant.fit (c.loop-part.invariant.spelled ∙ end.0)
