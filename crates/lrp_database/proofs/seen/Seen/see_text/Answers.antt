-- A text of a sort with a name is one of all texts, and one beside the name.
use Rattle.std.proofs.Common.{◌∷◌, [], sym, subst, ◌∙◌}
use Rattle.lrp_model.specs.declared.relations.Sort.{Sort}
use Rattle.lrp_database.specs.Seen.{SeesMore}
use Rattle.lrp_database.proofs.SeenLemmas.{on_ok, seen_named}
use Rattle.lrp_database.proofs.seen.Seen.see_text.Goals as goal

pub returns-in-Named-clause-seen : goal.returns-in-Named-clause-seen
returns-in-Named-clause-seen c =
    let old = c.args.self.now in
    let new = c.see_named.new.self in
    let P : Sort → Type 0 = λ s. SeesMore ((s, c.args.text.now) ∷ []) old new in
    on_ok c.see_named.result (λ h. subst P (sym c.in-Named.is) (seen_named c.in-Named.name c.args.text.now old new (h.all ∙ c.in_ok-see.ensures) h.unnamed h.named)) c.see_named.ensures.seen
