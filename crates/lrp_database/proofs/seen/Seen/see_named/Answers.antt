-- A set that is there takes the text, and a new name gets a set of its own.
use Rattle.std.proofs.Common.{◌≡◌, ◌∷◌, [], ◌++◌, ◌∙◌, ap, sym, refl, map, false, if◌then◌else◌}
use Rattle.std.specs.List.{list_any}
use Rattle.std.specs.Option.{is_some}
use Rattle.std.specs.Str.{bytes_eq}
use Rattle.std.proofs.lemmas.List.{map-set, map-append, length-map}
use Rattle.std.proofs.Math.ListN.{get_or-map}
use Rattle.indexmap.specs.IndexSet.{keys}
use Rattle.lrp_database.specs.Once.{texts_beside, put_once}
use Rattle.lrp_database.proofs.SeenLemmas.{on_ok, found_first, put_found, put_new}
use Rattle.lrp_database.proofs.seen.Seen.see_named.Goals as goal

pub returns-in-Some-clause-seen : goal.returns-in-Some-clause-seen
returns-in-Some-clause-seen c =
    let names = keys c.args.self.now.names in
    let sets = c.args.self.now.named.items in
    let name = c.args.name.now in
    let i = c.in-Some.i in
    let old = c.index_mut.result.now in
    on_ok c.see.result (λ e. record {
      all = refl;
      unnamed = refl;
      named = λ n. ap (λ l. texts_beside names l n) (map-set keys sets i c.see.new.texts)
          ∙ put_found names (map keys sets) i name c.args.text.now (keys c.see.new.texts) (keys old)
          (found_first (bytes_eq name) names i name (sym c.get_index_of.ensures.index ∙ c.in-Some.is))
          (c.requires ∙ sym (length-map sets keys))
          (e ∙ ap (λ s. put_once s c.args.text.now) (ap keys c.index_mut.ensures.value ∙ sym (get_or-map keys sets i old)))
          n;
    }) c.see.ensures

pub returns-in_ok-push-in-None-clause-seen : goal.returns-in_ok-push-in-None-clause-seen
returns-in_ok-push-in-None-clause-seen c =
    let names = keys c.args.self.now.names in
    let sets = c.args.self.now.named.items in
    let name = c.args.name.now in
    let made = c.in_ok-set_of-in-None.field-0 in
    let none : list_any (bytes_eq name) names ≡ false = sym c.get_index_of.ensures.found ∙ ap is_some c.in-None.is in
    let more : keys c.insert.new.self ≡ names ++ name ∷ [] =
    c.in_ok-insert-in-None.ensures.keys ∙ ap (λ k. if list_any (bytes_eq k) names then names else names ++ k ∷ []) c.in_ok-copy-in-None.ensures ∙ ap (λ b. if b then names else names ++ name ∷ []) none in
    record {
      all = refl;
      unnamed = refl;
      named = λ n. ap (λ l. texts_beside l (map keys c.push.new.self.items) n) more
          ∙ ap (λ l. texts_beside (names ++ name ∷ []) l n) (ap (map keys) c.in_ok-push-in-None.ensures.items ∙ map-append keys sets (made ∷ []) ∙ ap (λ t. map keys sets ++ t ∷ []) c.in_ok-set_of-in-None.ensures)
          ∙ put_new names (map keys sets) name c.args.text.now none (c.requires ∙ sym (length-map sets keys)) n;
    }
