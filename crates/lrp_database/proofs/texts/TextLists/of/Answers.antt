-- What was seen of the rows of all relations, set by set.
use Rattle.std.proofs.Common.{◌∙◌, [], ap, sym, length}
use Rattle.std.proofs.lemmas.List.{length-map}
use Rattle.indexmap.specs.IndexSet.{keys}
use Rattle.lrp_model.specs.Domains.{database_texts}
use Rattle.lrp_database.specs.Once.{texts_beside}
use Rattle.lrp_database.specs.Seen.{HasSeen}
use Rattle.lrp_database.proofs.texts.TextLists.of.Goals as goal

pub returns : goal.returns
returns c =
    let seen = c.see_all.new.self in
    let h : HasSeen (database_texts c.args.relations.now) seen = c.in_ok-see_all.ensures.seen [] c.new-seen.ensures.seen in
    record {
      all = c.in_ok-list_of.ensures ∙ h.all;
      unnamed = c.in_ok-list_of-2.ensures ∙ h.unnamed;
      named = λ n. ap (λ s. texts_beside (keys s) c.in_ok-lists_of.field-0 n) c.names.view_is ∙ ap (λ l. texts_beside (keys seen.names) l n) c.in_ok-lists_of.ensures ∙ h.named n;
      paired = ap (λ s. length (keys s)) c.names.view_is ∙ c.in_ok-see_all.ensures.paired ∙ sym (length-map seen.named.items keys) ∙ sym (ap length c.in_ok-lists_of.ensures);
      none = c.new.ensures;
    }
