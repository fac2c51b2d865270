use Rattle.std.proofs.Common.{◌≡◌, ◌∙◌, ◌<◌, ℕ, zero, suc, List, [], ◌∷◌, map, length, get_or, vec_len, refl, ap, ap₂, sym, subst, arith, rules}
use Rattle.std.specs.List.{AllByRecursion}
use Rattle.std.proofs.lemmas.Iterator.Adapters.{YieldsList-from_vec}
use Rattle.std.proofs.lemmas.Iterator.Consumers.{YieldsList-end, YieldsList-turn}
use Rattle.lrp_model.specs.RawQueries.{HasNoOperator, RawDefinitionView, RawFileView, RawQuestion, raw_definition_of, raw_question_of}
use Rattle.lrp_model.specs.declared.raw.RawDefinition.{RawDefinition}
use Rattle.lrp_tense.specs.Expanding.{expanded_question}
use Rattle.lrp_wide.specs.Inlining.{plain_definition}
use Rattle.lrp_wide.specs.Inside.{HasPlainBody}
use Rattle.lrp_wide.specs.Outcomes.{IsExpandableDefinition}
use Rattle.lrp_wide.proofs.PlainTexts.{whole_is}
use Rattle.lrp_wide.proofs.plain.plain.Goals as goal

-- what holds of all definitions holds of each
each_one : (P : RawDefinitionView → Type 0) (ds : List RawDefinition) (i : ℕ) (d : RawDefinition) → i < length ds → d ≡ get_or ds i d → AllByRecursion P (map raw_definition_of ds) → P (raw_definition_of d)
each_one P [] i d lt e h = absurd (omega (arith, lt))
each_one P (x ∷ xs) zero d lt e h = subst (λ y. P (raw_definition_of y)) (sym e) h.0
each_one P (x ∷ xs) (suc i) d lt e h = each_one P xs i d (omega (arith, lt)) e h.1

map_same : {A : Type 0} (xs : List A) → map (λ y. y) xs ≡ xs
map_same [] = refl
map_same (x ∷ xs) = ap (λ l. x ∷ l) (map_same xs)

map_twice : (ds : List RawDefinition) → map (λ d. plain_definition (raw_definition_of d)) ds ≡ map plain_definition (map raw_definition_of ds)
map_twice [] = refl
map_twice (d ∷ ds) = ap (λ l. plain_definition (raw_definition_of d) ∷ l) (map_twice ds)

pub without_operators-requires : goal.without_operators-requires
without_operators-requires c =
    let written = c.into_parts-written.result.0 in
    let size : vec_len written ≡ length written.items = search rules in
    let road = YieldsList-from_vec written.items c.into_iter-definition-iterator.ensures.into_iter_gives.0 (c.into_iter-definition-iterator.ensures.into_iter_gives.1 ∙ size) in
    let turn = YieldsList-turn road c.loop-definition.yielded c.loop-definition.definition-iterator c.loop-definition.yielded_by c.next.result c.next.new.self c.in-Some.definition c.in-Some.is c.next.ensures.steps in
    let same : written.items ≡ c.args.file.definitions.items = ap (λ q. q.0.items) c.into_parts-written.ensures in
    each_one IsExpandableDefinition written.items (length c.loop-definition.yielded) c.in-Some.definition turn.0 turn.1
    (subst (λ l. AllByRecursion IsExpandableDefinition (map raw_definition_of l)) (sym same) c.requires.definitions)

pub returns-clause-tree : goal.returns-clause-tree
returns-clause-tree c =
    let written = c.into_parts-written.result.0 in
    let size : vec_len written ≡ length written.items = search rules in
    let road = YieldsList-from_vec written.items c.into_iter-definition-iterator.ensures.into_iter_gives.0 (c.into_iter-definition-iterator.ensures.into_iter_gives.1 ∙ size) in
    let end = YieldsList-end road c.loop-definition.yielded c.loop-definition.definition-iterator c.loop-definition.yielded_by c.next.result c.next.new.self c.in-None.is c.next.ensures.steps in
    let all : c.loop-definition.yielded ≡ c.args.file.definitions.items = sym (map_same c.loop-definition.yielded) ∙ end.0 ∙ ap (λ q. q.0.items) c.into_parts-written.ensures in
    whole_is _ _ _ _
    (c.loop-definition.invariant.trees ∙ ap (map (λ d. plain_definition (raw_definition_of d))) all ∙ map_twice c.args.file.definitions.items)
    (c.in_ok-query.ensures.tree ∙ ap (λ q. expanded_question (raw_question_of q.1)) c.into_parts-written.ensures)
