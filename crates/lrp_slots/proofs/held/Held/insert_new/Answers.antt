-- A cell goes into the tree, into the line, or with the line into a tree.
use Rattle.std.proofs.Common.{◌++◌, Ok, ap, subst, ◌∙◌}
use Rattle.std.specs.BTreeMap.{insert_entry}
use Rattle.lrp_slots.specs.Lists.{cell_cmp}
use Rattle.lrp_slots.specs.Lines.{IsLine}
use Rattle.lrp_slots.proofs.Lines.{IsInLine, IsInTree, in_line, in_tree, new_tree, put_in_line, put_moved, put_line, stands_in_tree, is_put}
use Rattle.lrp_slots.proofs.held.Held.insert_new.Goals as goal

pub invariant_of-self-then-not-is_empty : goal.invariant_of-self-then-not-is_empty
invariant_of-self-then-not-is_empty c =
    let t : IsInTree c.self.inside.line c.self.inside.tree c.args.self.now = in_tree c.self.inside.line c.self.inside.tree c.args.self.now c.is_empty.result c.self.invariant c.self.view_is c.is_empty.ensures c.if-not-is_empty.true in
    stands_in_tree c.self.inside.line c.insert.new.self (insert_entry cell_cmp c.self.inside.tree c.args.cell.now c.args.chain) t.empty c.in_ok-insert.ensures.entries (put_line c.self.inside.tree c.args.cell.now c.args.chain t.ordered)

pub returns-then-not-is_empty-clause-ok : goal.returns-then-not-is_empty-clause-ok
returns-then-not-is_empty-clause-ok c =
    let t : IsInTree c.self.inside.line c.self.inside.tree c.args.self.now = in_tree c.self.inside.line c.self.inside.tree c.args.self.now c.is_empty.result c.self.invariant c.self.view_is c.is_empty.ensures c.if-not-is_empty.true in
    is_put c.args.self.now (c.self.inside.line ++ c.insert.new.self) c.args.cell.now c.args.chain (subst IsLine t.view t.ordered)
    (new_tree c.self.inside.line c.self.inside.tree c.args.self.now c.insert.new.self _ t (c.in_ok-insert.ensures.entries ∙ ap (λ es. insert_entry cell_cmp es c.args.cell.now c.args.chain) t.view))

pub invariant_of-self-then-branch : goal.invariant_of-self-then-branch
invariant_of-self-then-branch c =
    (put_in_line c.self.inside.line c.self.inside.tree c.args.self.now c.insert-2.new.self c.args.cell.now c.args.chain (in_line c.self.inside.line c.self.inside.tree c.args.self.now c.is_empty.result c.self.invariant c.self.view_is c.is_empty.ensures c.if-not-is_empty.false) (c.in_ok-insert-2.ensures.put (ap (λ b. Ok b) c.if-branch.true))).0

pub returns-then-branch-clause-ok : goal.returns-then-branch-clause-ok
returns-then-branch-clause-ok c =
    let l : IsInLine c.self.inside.line c.self.inside.tree c.args.self.now = in_line c.self.inside.line c.self.inside.tree c.args.self.now c.is_empty.result c.self.invariant c.self.view_is c.is_empty.ensures c.if-not-is_empty.false in
    is_put c.args.self.now (c.insert-2.new.self ++ c.self.inside.tree) c.args.cell.now c.args.chain (subst IsLine l.view l.ordered)
    (put_in_line c.self.inside.line c.self.inside.tree c.args.self.now c.insert-2.new.self c.args.cell.now c.args.chain l (c.in_ok-insert-2.ensures.put (ap (λ b. Ok b) c.if-branch.true))).1

pub invariant_of-self-2 : goal.invariant_of-self-2
invariant_of-self-2 c =
    let l : IsInLine c.self.inside.line c.self.inside.tree c.args.self.now = in_line c.self.inside.line c.self.inside.tree c.args.self.now c.is_empty.result c.self.invariant c.self.view_is c.is_empty.ensures c.if-not-is_empty.false in
    stands_in_tree c.new.result c.insert-3.new.self (insert_entry cell_cmp c.self.inside.line c.args.cell.now c.args.chain) c.new.ensures
    (c.in_ok-insert-3.ensures.entries ∙ ap (λ es. insert_entry cell_cmp es c.args.cell.now c.args.chain) (c.in_ok-tree.ensures ∙ c.in_ok-insert-2.ensures.left (ap (λ b. Ok b) c.if-branch.false)))
    (put_line c.self.inside.line c.args.cell.now c.args.chain l.ordered)

pub returns-clause-ok : goal.returns-clause-ok
returns-clause-ok c =
    let l : IsInLine c.self.inside.line c.self.inside.tree c.args.self.now = in_line c.self.inside.line c.self.inside.tree c.args.self.now c.is_empty.result c.self.invariant c.self.view_is c.is_empty.ensures c.if-not-is_empty.false in
    is_put c.args.self.now (c.new.result ++ c.insert-3.new.self) c.args.cell.now c.args.chain (subst IsLine l.view l.ordered)
    (put_moved c.self.inside.line c.self.inside.tree c.args.self.now c.new.result c.insert-3.new.self c.args.cell.now c.args.chain l c.new.ensures
    (c.in_ok-insert-3.ensures.entries ∙ ap (λ es. insert_entry cell_cmp es c.args.cell.now c.args.chain) (c.in_ok-tree.ensures ∙ c.in_ok-insert-2.ensures.left (ap (λ b. Ok b) c.if-branch.false))))
