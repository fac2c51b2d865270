use Rattle.std.proofs.Common.{◌≡◌, ◌∙◌, sym, subst, ap}
use Rattle.std.proofs.lemmas.Result.{IfOk-weaker}
use Rattle.std.specs.Str.{IsUtf8}
use Rattle.lrp_model.specs.Lexing.{scan}
use Rattle.lrp_model.specs.Texts.{FitsText}
use Rattle.lrp_model.specs.Tokens.Token.{text_token}
use Rattle.lrp_text.proofs.Meanings.{made_is, slice_fits, slice_utf8}
use Rattle.lrp_text.proofs.texts.text_of.Goals as goal

pub new-requires : goal.new-requires
new-requires c =
    let t = c.requires.text in
    let made : c.loop-b.made.items ≡ t = made_is _ t _ _ c.requires.token c.loop-b.invariant c.in_default.ensures.text in
    let read : c.in-Ok.text.now ≡ t = c.in-Ok.ensures.cases.0 ∙ c.deref.ensures.value ∙ made in
    subst FitsText (sym read) (slice_fits _ t c.requires.token c.requires.short)

pub unreachable-requires : goal.unreachable-requires
unreachable-requires c =
    let t = c.requires.text in
    let made : c.loop-b.made.items ≡ t = made_is _ t _ _ c.requires.token c.loop-b.invariant c.in_default.ensures.text in
    c.in-Err.ensures.cases.0 (subst IsUtf8 (sym (c.deref.ensures.value ∙ made)) (slice_utf8 _ t c.requires.token c.utf8.slice))

pub returns : goal.returns
returns c =
    let t = c.requires.text in
    let made : c.loop-b.made.items ≡ t = made_is _ t _ _ c.requires.token c.loop-b.invariant c.in_default.ensures.text in
    let read : c.in-Ok.text.now ≡ t = c.in-Ok.ensures.cases.0 ∙ c.deref.ensures.value ∙ made in
    IfOk-weaker c.new.result (λ m. m ≡ c.in-Ok.text.now) (λ m. (scan c.args.slice.now).token ≡ text_token m) (λ m is. c.requires.token ∙ ap text_token (sym (is ∙ read))) c.new.ensures
