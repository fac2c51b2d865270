-- The set has the text exactly where the database does.
use Rattle.std.proofs.Common.{◌∙◌, ap}
use Rattle.lrp_lint.specs.Mentions.{is_known}
use Rattle.lrp_lint.proofs.TextSets.{entry_itself, looked_up}
use Rattle.lrp_lint.proofs.known.TextCatalog.is_known.Goals as goal

pub returns : goal.returns
returns c =
    let s = c.args.sort.now in
    let t = c.args.text.now in
    c.contains.ensures ∙ looked_up c.sorted_text.result s t (c.sorted_text.ensures s t ∙ entry_itself s t) c.self.inside.texts
    ∙ c.self.invariant s t ∙ ap (λ db. is_known db s t) c.self.view_is
