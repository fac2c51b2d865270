use Rattle.std.proofs.Common.{◌≡◌, ◌<◌, true, length, ap, sym, ◌∙◌, arith}
use Rattle.std.specs.Str.{bytes_eq}
use Rattle.lrp_sorts.specs.Definitions.{Defined, definition_number}
use Rattle.lrp_sorts.proofs.Near.{near_number}
use Rattle.lrp_sorts.proofs.definitions.Definitions.is_meant.Goals as goal

pub returns-clause-number : goal.returns-clause-number
returns-clause-number c = λ holds.
    let n = c.args.name.now in
    let i = c.args.number in
    let d : Defined = record { relations = c.self.inside.db.now; definitions = c.self.inside.all.items } in
    let lt : i < c.args.before = omega (arith, c.if-number-before.false) in
    let low : i < length c.self.inside.all.items = omega (arith, c.if-number-len.false, c.len.ensures) in
    let are_new : c.self.inside.are_new ≡ true = grind (arith, c.if-not-self.false) in
    let same : bytes_eq c.index.result.now.name n ≡ true = sym c.eq.ensures ∙ holds in
    near_number d c.args.before i c.index.result.now n (c.self.invariant.new are_new) low c.index.ensures same lt ∙ ap (λ e. definition_number e c.args.before n) c.self.view_is
