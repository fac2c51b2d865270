use Rattle.std.proofs.Common.{◌≡◌, ap, sym, ◌∙◌}
use Rattle.lrp_model.specs.Rows.{relation_named}
use Rattle.lrp_sorts.proofs.Catalogs.{beside_alone, beside_defined, beside_related, copied_now}
use Rattle.lrp_sorts.proofs.catalog.Catalog.relation.Goals as goal
use Rattle.lrp_sorts.proofs.catalog.Catalog.relation.Goals.{in-Some+in_default-number, in_default}

pub returns-in-Some-number : goal.returns-in-Some-number
returns-in-Some-number c =
    let n = c.args.name.now in
    let i = c.in-Some-number.number in
    beside_defined c.self.inside.db.now c.self.inside.beside c.in-Some.first n i c.at.result.now c.in-Some.is c.self.invariant.database (sym c.in-Some-number.ensures.number) c.at.ensures ∙ ap (λ l. relation_named l n) c.self.view_is

pub returns : goal.returns
returns c =
    let n = c.args.name.now in
    let db = c.self.inside.db.now in
    let found = copied_now c.relation.result ∙ c.relation.ensures.named in
    let whole = ap (λ l. relation_named l n) c.self.view_is in
    elim c.match-self.branch [
      | in-Some+in_default-number w ↦ found ∙ beside_related db c.self.inside.beside w.in-Some.first n w.in-Some.is c.self.invariant.database (sym w.in_default-number.ensures.number) ∙ whole
      | in_default w ↦ found ∙ beside_alone db c.self.inside.beside n w.in_default.is ∙ whole
    ]
