-- A cell is taken out by its key, and one that has no key was not there.
use Rattle.std.proofs.Common.{sym}
use Rattle.lrp_slots.proofs.Lines.{none_taken}
use Rattle.lrp_slots.proofs.Shortened.{all_narrow, not_found, taken_by_key}
use Rattle.lrp_slots.proofs.tree.Tree.remove.Goals as goal

pub returns-in-Some : goal.returns-in-Some
returns-in-Some c =
    taken_by_key c.self.inside.narrow.entries c.remove-in-Some.new.self.entries c.self.inside.wide.entries c.args.self.now c.in-Some.narrow c.args.cell.now
    (all_narrow c.self.inside.narrow.entries c.self.inside.wide.entries c.args.self.now c.is_empty.result c.self.view_is c.is_empty.ensures c.if-not-is_empty.false) c.in-Some.ensures.some c.remove-in-Some.ensures.entries

pub returns-in_default : goal.returns-in_default
returns-in_default c =
    sym (none_taken c.args.self.now c.args.cell.now
    (not_found c.self.inside.narrow.entries c.self.inside.wide.entries c.args.self.now c.args.cell.now
    (all_narrow c.self.inside.narrow.entries c.self.inside.wide.entries c.args.self.now c.is_empty.result c.self.view_is c.is_empty.ensures c.if-not-is_empty.false) c.in_default.ensures.none))
