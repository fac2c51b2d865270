use Rattle.std.proofs.Common.{◌≡◌, ◌++◌, subst, OnOk}
use Rattle.lrp_model.specs.RawTerms.{said_term}
use Rattle.lrp_core.proofs.Literal.{column_there, column_past}
use Rattle.lrp_core.proofs.literals.add_at.Goals as goal

pub returns-then-i-columns : goal.returns-then-i-columns
returns-then-i-columns c =
    subst (λ ys. OnOk c.add_term.result (c.add_term.new.all.items ≡ c.args.all.now.items ++ ys)) (column_there c.args.columns.now c.args.i c.index-columns-i.result (said_term c.args.term.now) c.if-i-columns.true c.index-columns-i.is) c.add_term.ensures

pub returns : goal.returns
returns c = column_past c.args.columns.now c.args.i (said_term c.args.term.now) c.args.all.now.items c.if-i-columns.false
