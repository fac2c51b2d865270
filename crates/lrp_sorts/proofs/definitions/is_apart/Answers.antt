use Rattle.std.proofs.Common.{◌≡◌, false, map, not, ap, sym, ◌∙◌, arith}
use Rattle.std.specs.Option.{is_some}
use Rattle.lrp_sorts.proofs.Firsts.{copied_some, is_found}
use Rattle.lrp_sorts.proofs.Marked.{unmarked_apart}
use Rattle.lrp_sorts.proofs.Numbered.{turned}
use Rattle.lrp_sorts.proofs.definitions.is_apart.Goals as goal

pub returns-then-not-may_begin : goal.returns-then-not-may_begin
returns-then-not-may_begin c =
    let none : c.may_begin.result ≡ false = grind (arith, c.if-not-may_begin.true) in
    unmarked_apart c.args.relations.initials.now (map (λ r. r.name) c.args.relations.db.now) c.args.name.now c.requires (sym c.may_begin.ensures ∙ none)

pub returns : goal.returns
returns c =
    turned (is_some c.relation.result) c.is_none.result c.is_none.ensures
    ∙ ap not (sym (copied_some c.relation.result) ∙ ap is_some c.relation.ensures.named ∙ is_found (λ r. r.name) c.args.relations.db.now c.args.name.now)
