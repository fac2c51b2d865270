use Rattle.std.proofs.Common.{◌≡◌, true, false, rules}
use Rattle.std.specs.Str.{bytes_eq}
use Rattle.lrp_core.proofs.Literal.{sort_found, none_yet}
use Rattle.lrp_core.proofs.literals.sort_of_name.Goals as goal

pub returns-then-eq : goal.returns-then-eq
returns-then-eq c =
    let t : bytes_eq c.column-item.result.name c.args.name.now ≡ true = search rules in
    sort_found c.copy.result c.args.binders.now c.args.name.now c.loop-column.column-index c.column-item.result c.loop-column-test.true c.column-item.is c.loop-column.invariant t c.copy.ensures

pub loop-column-preserved : goal.loop-column-preserved
loop-column-preserved c =
    let f : bytes_eq c.column-item.result.name c.args.name.now ≡ false = search rules in
    none_yet c.args.binders.now c.args.name.now c.loop-column.column-index c.column-item.result c.loop-column-test.true c.column-item.is c.loop-column.invariant f
