use Rattle.std.proofs.Common.{◌≡◌, ◌∙◌, ◌<◌, ◌+◌, ℕ, ap, subst, sym, take, length, get_or, List, [], ◌∷◌, ◌++◌}
use Rattle.std.specs.List.{AllByRecursion}
use Rattle.std.proofs.lemmas.List.{take_more}
use Rattle.lrp_model.specs.Texts.{Text}
use Rattle.lrp_model.specs.DataTexts.{IsDataText}
use Rattle.lrp_model.proofs.domain.are_whole.Goals as goal

-- what holds of each element holds with one more that it holds of
one_more : (P : Text → Type 0) (ts : List Text) (t : Text) → AllByRecursion P ts → P t → AllByRecursion P (ts ++ t ∷ [])
one_more P [] t h p = (p, tt)
one_more P (u ∷ us) t h p = (h.0, one_more P us t h.1 p)

taken : (ts : List Text) (n : ℕ) (t u : Text) → n < length ts → t ≡ get_or ts n t → u ≡ t → AllByRecursion IsDataText (take n ts) → IsDataText u → AllByRecursion IsDataText (take (n + 1) ts)
taken ts n t u lt is e h k = subst (AllByRecursion IsDataText) (sym (take_more ts n t lt ∙ ap (λ x. take n ts ++ x ∷ []) (sym is))) (one_more IsDataText (take n ts) t h (subst IsDataText e k))

pub loop-text-preserved : goal.loop-text-preserved
loop-text-preserved c = taken c.args.texts.now c.loop-text.text-index c.text-item.result c.as_bytes.result.now c.loop-text-test.true c.text-item.is c.as_bytes.ensures.same c.loop-text.invariant c.as_bytes.ensures.whole
