-- A cell that is begun in the tree stands in it.
use Rattle.std.proofs.Common.{◌≡◌, ◌++◌, ap, subst, ◌∙◌}
use Rattle.std.specs.BTreeMap.{insert_entry}
use Rattle.lrp_slots.specs.Lists.{cell_cmp}
use Rattle.lrp_slots.specs.Lines.{IsLine, StandOnce}
use Rattle.lrp_slots.proofs.Lines.{IsInTree, in_tree, new_tree, put_line, stands_in_tree, is_put}
use Rattle.std.proofs.Common.{None}
use Rattle.lrp_slots.specs.Links.{extended}
use Rattle.lrp_slots.proofs.Lengthened.{of_begun}
use Rattle.lrp_slots.proofs.held.Held.begin.Goals as goal

pub invariant_of-self : goal.invariant_of-self
invariant_of-self c =
    let t : IsInTree c.self.inside.line c.self.inside.tree c.args.self.now = in_tree c.self.inside.line c.self.inside.tree c.args.self.now c.is_empty.result c.self.invariant c.self.view_is c.is_empty.ensures c.if-not-is_empty.true in
    of_begun c.begin.result (c.begin.new.self ≡ insert_entry cell_cmp c.self.inside.tree c.args.cell.now (extended None c.args.key)) (c.begin.new.self ≡ c.self.inside.tree) (StandOnce c.self.inside.line c.begin.new.self) c.begin.ensures.put c.begin.ensures.left
    (λ made. stands_in_tree c.self.inside.line c.begin.new.self (insert_entry cell_cmp c.self.inside.tree c.args.cell.now (extended None c.args.key)) t.empty made (put_line c.self.inside.tree c.args.cell.now (extended None c.args.key) t.ordered))
    (λ kept. stands_in_tree c.self.inside.line c.begin.new.self c.self.inside.tree t.empty kept t.ordered)

pub returns-then-not-is_empty-clause-put : goal.returns-then-not-is_empty-clause-put
returns-then-not-is_empty-clause-put c = λ begun.
    let t : IsInTree c.self.inside.line c.self.inside.tree c.args.self.now = in_tree c.self.inside.line c.self.inside.tree c.args.self.now c.is_empty.result c.self.invariant c.self.view_is c.is_empty.ensures c.if-not-is_empty.true in
    is_put c.args.self.now (c.self.inside.line ++ c.begin.new.self) c.args.cell.now (extended None c.args.key) (subst IsLine t.view t.ordered)
    (new_tree c.self.inside.line c.self.inside.tree c.args.self.now c.begin.new.self (insert_entry cell_cmp c.args.self.now c.args.cell.now (extended None c.args.key)) t (c.begin.ensures.put begun ∙ ap (λ es. insert_entry cell_cmp es c.args.cell.now (extended None c.args.key)) t.view))
