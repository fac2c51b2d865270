-- One name differs from no other.
use Rattle.std.proofs.Common.{◌≡◌, ◌≢◌, List, [], ◌∷◌, ◌++◌, length, sym, ap, subst, ◌∙◌, arith}
use Rattle.std.specs.Prelude.{AllPairs}
use Rattle.std.proofs.lemmas.List.Elements.{All-nil}
use Rattle.std.proofs.lemmas.List.Kept.{AllPairs-cons}
use Rattle.lrp_model.specs.Texts.{Identifier}
use Rattle.lrp_table_tests.proofs.copies.table.Goals as goal

alone : (a : Identifier) → AllPairs {X = Identifier} ◌≢◌ (a ∷ [])
alone a = AllPairs-cons ◌≢◌ a [] (All-nil (◌≢◌ a)) (λ i j d low high. absurd (omega arith))

one_name : (a : Identifier) (times texts : List Identifier) → times ≡ a ∷ [] → texts ≡ [] → AllPairs {X = Identifier} ◌≢◌ (times ++ texts)
one_name a times texts first none = subst (λ l. AllPairs {X = Identifier} ◌≢◌ (l ++ texts)) (sym first) (subst (λ l. AllPairs {X = Identifier} ◌≢◌ (a ∷ l)) (sym none) (alone a))

pub invariant_of-result : goal.invariant_of-result
invariant_of-result g c = record {
  times_named = ap length c.list-times.ensures ∙ sym c.sixths-store.ensures.times;
  texts_named = ap length c.new-texts.ensures ∙ sym c.sixths-store.ensures.texts;
  names_differ = one_name _ _ _ c.list-times.ensures c.new-texts.ensures;
}
