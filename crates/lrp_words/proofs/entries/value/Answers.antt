-- The first word that gives the key a value.
use Rattle.std.proofs.Common.{◌≡◌, true, false, Option, Some, None, sym, ap, ◌∙◌, ◌+◌, arith}
use Rattle.std.specs.Prelude.{is_some}
use Rattle.std.specs.Borrow.{Bor}
use Rattle.lrp_model.specs.Texts.{Text}
use Rattle.lrp_words.specs.Commands.{after_text}
use Rattle.lrp_words.specs.Entries.{given, value_for, unless}
use Rattle.lrp_words.proofs.EntryLemmas.{value_here, none_more}
use Rattle.lrp_words.proofs.entries.value.Goals as goal

-- a value that is there is kept
kept : (r : Option (Bor Text)) (o p : Option Text) → is_some r ≡ true → after_text r ≡ o → after_text r ≡ unless o p
kept None o p e f = cc
kept (Some t) None p e f = cc
kept (Some t) (Some u) p e f = f

-- and one that is not is none
none : (r : Option (Bor Text)) (o : Option Text) → is_some r ≡ false → after_text r ≡ o → o ≡ None
none None o e f = sym f
none (Some t) o e f = cc

pub returns-then-is_some : goal.returns-then-is_some
returns-then-is_some c =
    let h = value_here c.args.key c.args.words.now c.loop-word.word-index c.word-item.result c.loop-word-test.true c.word-item.is c.loop-word.invariant in
    kept c.given-value.result _ (value_for c.args.key h.0) (sym c.is_some.ensures ∙ c.if-is_some.true) (c.given-value.ensures ∙ ap (given c.args.key) c.as_str.ensures.value) ∙ sym h.1

pub loop-word-preserved : goal.loop-word-preserved
loop-word-preserved c = none_more c.args.key c.args.words.now c.loop-word.word-index (c.loop-word.word-index + 1) c.word-item.result (omega arith) c.loop-word-test.true c.word-item.is c.loop-word.invariant
    (none c.given-value.result _ (sym c.is_some.ensures ∙ c.if-is_some.false) (c.given-value.ensures ∙ ap (given c.args.key) c.as_str.ensures.value))
