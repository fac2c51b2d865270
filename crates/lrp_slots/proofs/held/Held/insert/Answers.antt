-- A cell goes into the tree, after the line, to its place in line, or with the line into a tree.
use Rattle.std.proofs.Common.{◌++◌, ap, subst, ◌∙◌}
use Rattle.std.specs.BTreeMap.{insert_entry}
use Rattle.lrp_slots.specs.Lists.{cell_cmp}
use Rattle.lrp_slots.specs.Lines.{IsLine}
use Rattle.lrp_slots.proofs.Lines.{IsInLine, IsInTree, in_line, in_tree, new_tree, put_in_line, put_line, stands_in_tree, is_put}
use Rattle.lrp_slots.proofs.held.Held.insert.Goals as goal

pub invariant_of-self-then-not-is_empty : goal.invariant_of-self-then-not-is_empty
invariant_of-self-then-not-is_empty c =
    let t : IsInTree c.self.inside.line c.self.inside.tree c.args.self.now =
    in_tree c.self.inside.line c.self.inside.tree c.args.self.now c.is_empty.result c.self.invariant c.self.view_is c.is_empty.ensures c.if-not-is_empty.true in
    stands_in_tree c.self.inside.line c.insert.new.self (insert_entry cell_cmp c.self.inside.tree c.args.cell.now c.args.chain) t.empty c.in_ok-held.ensures.entries (put_line c.self.inside.tree c.args.cell.now c.args.chain t.ordered)

pub returns-then-not-is_empty-clause-ok : goal.returns-then-not-is_empty-clause-ok
returns-then-not-is_empty-clause-ok c =
    let t : IsInTree c.self.inside.line c.self.inside.tree c.args.self.now =
    in_tree c.self.inside.line c.self.inside.tree c.args.self.now c.is_empty.result c.self.invariant c.self.view_is c.is_empty.ensures c.if-not-is_empty.true in
    is_put c.args.self.now (c.self.inside.line ++ c.insert.new.self) c.args.cell.now c.args.chain (subst IsLine t.view t.ordered)
    (new_tree c.self.inside.line c.self.inside.tree c.args.self.now c.insert.new.self _ t (c.in_ok-held.ensures.entries ∙ ap (λ es. insert_entry cell_cmp es c.args.cell.now c.args.chain) t.view))

pub invariant_of-self-in-Some : goal.invariant_of-self-in-Some
invariant_of-self-in-Some c =
    let l : IsInLine c.self.inside.line c.self.inside.tree c.args.self.now = in_line c.self.inside.line c.self.inside.tree c.args.self.now c.is_empty.result c.self.invariant c.self.view_is c.is_empty.ensures c.if-not-is_empty.false in
    (put_in_line c.self.inside.line c.self.inside.tree c.args.self.now c.replace.new.self c.args.cell.now c.args.chain l c.in-Some.ensures.some).0

pub returns-in-Some-clause-ok : goal.returns-in-Some-clause-ok
returns-in-Some-clause-ok c =
    let l : IsInLine c.self.inside.line c.self.inside.tree c.args.self.now = in_line c.self.inside.line c.self.inside.tree c.args.self.now c.is_empty.result c.self.invariant c.self.view_is c.is_empty.ensures c.if-not-is_empty.false in
    is_put c.args.self.now (c.replace.new.self ++ c.self.inside.tree) c.args.cell.now c.args.chain (subst IsLine l.view l.ordered)
    (put_in_line c.self.inside.line c.self.inside.tree c.args.self.now c.replace.new.self c.args.cell.now c.args.chain l c.in-Some.ensures.some).1
