use Rattle.std.proofs.Common.{◌≡◌, ◌∙◌, ◌<◌, ◌^◌, [], map, length, ap, subst}
use Rattle.std.specs.List.{AllByRecursion}
use Rattle.lrp_model.specs.RawQueries.{raw_form_of}
use Rattle.lrp_tense.specs.Expanding.{operators}
use Rattle.lrp_tense.specs.Counting.{position_of, HasSmallColumn}
use Rattle.lrp_tense.specs.Scopes.{past, expanded_in}
use Rattle.lrp_tense.proofs.Along.{met_all}
use Rattle.lrp_tense.proofs.expansion.expand_counting.Goals as goal

pub returns : goal.returns
returns c =
    let f = raw_form_of c.args.f.now in
    let met_places = ap (λ a. a.numbers) (c.in_ok-of.ensures.scope ∙ ap (λ a. past a f) c.counting-scope.ensures) ∙ met_all [] (operators f) in
    let places : c.as_slice.result.now ≡ operators f = c.as_slice.ensures.value ∙ c.into_places-places.ensures (operators f) met_places in
    record {
      tree = c.in_ok-of.ensures.tree ∙ ap (λ a. expanded_in a f) c.counting-scope.ensures;
      positions = record {
        same = c.in_ok-positions.ensures.items ∙ ap (map position_of) places;
        small = subst (AllByRecursion HasSmallColumn) places c.in_ok-positions.ensures.small;
        few = subst (λ l. length l < 2 ^ 64) places c.in_ok-positions.ensures.few;
      };
    }
