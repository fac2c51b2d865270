-- Files without operators stay as they are.
use Rattle.std.proofs.Common.{◌≡◌, Bool, true, false, ◌&&◌, List, [], ◌∷◌, map, ap, ap₂, refl, sym, arith}
use Rattle.std.specs.List.{AllByRecursion}
use Rattle.lrp_model.specs.RawQueries.{HasNoOperator, RawDefinitionView, RawFileView, RawQuestion, raw_definition_of}
use Rattle.lrp_model.specs.declared.raw.RawDefinition.{RawDefinition}
use Rattle.lrp_tense.specs.Expanding.{expanded_question}
use Rattle.lrp_wide.specs.Inlining.{plain_definition, plain_file}
use Rattle.lrp_wide.specs.Inside.{HasPlainBody}

pub whole_is : (ds es : List RawDefinitionView) (q r : RawQuestion) → ds ≡ es → q ≡ r → ◌≡◌ {A = RawFileView} (record { definitions = ds; query = q }) (record { definitions = es; query = r })
whole_is ds es q r e f = ap₂ (λ x y. record { definitions = x; query = y }) e f

all_plain : ((q : RawQuestion) → HasNoOperator q.body → expanded_question q ≡ q) → (ds : List RawDefinition) → AllByRecursion HasPlainBody ds → map raw_definition_of ds ≡ map plain_definition (map raw_definition_of ds)
all_plain law [] h = refl
all_plain law (d ∷ ds) h =
    let view : RawDefinitionView = raw_definition_of d in
    let as_definition : RawQuestion → RawDefinitionView = λ q. record view { body = q.body } in
    ap₂ (λ x l. x ∷ l) (sym (ap as_definition (law (record { head = view.columns; body = view.body }) h.0))) (all_plain law ds h.1)

-- definitions and a query without operators
pub plain_stays : ((q : RawQuestion) → HasNoOperator q.body → expanded_question q ≡ q) → (ds : List RawDefinition) (q : RawQuestion) → AllByRecursion HasPlainBody ds → HasNoOperator q.body
    → ◌≡◌ {A = RawFileView} (record { definitions = map raw_definition_of ds; query = q }) (plain_file (record { definitions = map raw_definition_of ds; query = q }))
plain_stays law ds q h own = whole_is _ _ _ _ (all_plain law ds h) (sym (law q own))

-- what holds of both holds of each
pub both_true : (a b : Bool) → (a && b) ≡ true → (a ≡ true) × (b ≡ true)
both_true true true h = (refl, refl)
both_true true false h = absurd (grind (arith, h))
both_true false b h = absurd (grind (arith, h))
