-- A chain is put in by the key of its cell, and a cell that has no key was not there.
use Rattle.std.proofs.Common.{sym, ◌∙◌}
use Rattle.lrp_slots.proofs.Lines.{on_err}
use Rattle.lrp_slots.proofs.Shortened.{all_narrow, found_by_key, not_found, put_by_key}
use Rattle.lrp_slots.proofs.tree.Tree.insert.Goals as goal

pub returns-in_err-held-clause-absent : goal.returns-in_err-held-clause-absent
returns-in_err-held-clause-absent c =
    on_err c.from_residual.result _
    (sym (found_by_key c.self.inside.narrow.entries c.self.inside.wide.entries c.args.self.now c.in-Some.narrow c.args.cell.now
    (all_narrow c.self.inside.narrow.entries c.self.inside.wide.entries c.args.self.now c.is_empty.result c.self.view_is c.is_empty.ensures c.if-is_empty.true) c.in-Some.ensures.some)
    ∙ c.in_err-held.ensures.absent)

pub returns-in-Some-clause-held : goal.returns-in-Some-clause-held
returns-in-Some-clause-held c =
    c.in_ok-held.ensures.old
    ∙ found_by_key c.self.inside.narrow.entries c.self.inside.wide.entries c.args.self.now c.in-Some.narrow c.args.cell.now
    (all_narrow c.self.inside.narrow.entries c.self.inside.wide.entries c.args.self.now c.is_empty.result c.self.view_is c.is_empty.ensures c.if-is_empty.true) c.in-Some.ensures.some

pub returns-in-Some-clause-entries : goal.returns-in-Some-clause-entries
returns-in-Some-clause-entries c =
    put_by_key c.self.inside.narrow.entries c.insert.new.self.entries c.self.inside.wide.entries c.args.self.now c.in-Some.narrow c.args.cell.now c.args.chain
    (all_narrow c.self.inside.narrow.entries c.self.inside.wide.entries c.args.self.now c.is_empty.result c.self.view_is c.is_empty.ensures c.if-is_empty.true) c.in-Some.ensures.some c.in_ok-held.ensures.entries

pub returns-in_err-wide-clause-absent : goal.returns-in_err-wide-clause-absent
returns-in_err-wide-clause-absent c =
    on_err c.from_residual-in_err-wide.result _
    (not_found c.self.inside.narrow.entries c.self.inside.wide.entries c.args.self.now c.args.cell.now
    (all_narrow c.self.inside.narrow.entries c.self.inside.wide.entries c.args.self.now c.is_empty.result c.self.view_is c.is_empty.ensures c.if-is_empty.true) c.in_default.ensures.none)

pub returns-in_err-insert-clause-absent : goal.returns-in_err-insert-clause-absent
returns-in_err-insert-clause-absent c =
    on_err c.from_residual-in_err-insert.result _
    (not_found c.self.inside.narrow.entries c.self.inside.wide.entries c.args.self.now c.args.cell.now
    (all_narrow c.self.inside.narrow.entries c.self.inside.wide.entries c.args.self.now c.is_empty.result c.self.view_is c.is_empty.ensures c.if-is_empty.true) c.in_default.ensures.none)

pub returns-then-is_empty-clause-held : goal.returns-then-is_empty-clause-held
returns-then-is_empty-clause-held c =
    sym (not_found c.self.inside.narrow.entries c.self.inside.wide.entries c.args.self.now c.args.cell.now
    (all_narrow c.self.inside.narrow.entries c.self.inside.wide.entries c.args.self.now c.is_empty.result c.self.view_is c.is_empty.ensures c.if-is_empty.true) c.in_default.ensures.none)
