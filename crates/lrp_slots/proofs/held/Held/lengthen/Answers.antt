-- A chain is made longer in the tree, or at its place in line.
use Rattle.std.proofs.Common.{Some, ◌≡◌, ◌++◌, ap, subst, ◌∙◌}
use Rattle.std.specs.BTreeMap.{insert_entry}
use Rattle.lrp_slots.specs.Lists.{cell_cmp}
use Rattle.lrp_slots.specs.Links.{extended, IsLengthened}
use Rattle.lrp_slots.specs.Lines.{IsLine, StandOnce}
use Rattle.lrp_slots.proofs.Lengthened.{of_ok, of_both}
use Rattle.lrp_slots.proofs.Lines.{IsInLine, IsInTree, in_line, in_tree, new_tree, put_in_line, put_line, stands_in_tree, is_put}
use Rattle.lrp_slots.proofs.held.Held.lengthen.Goals as goal

pub invariant_of-self : goal.invariant_of-self
invariant_of-self c =
    let t : IsInTree c.self.inside.line c.self.inside.tree c.args.self.now =
    in_tree c.self.inside.line c.self.inside.tree c.args.self.now c.is_empty.result c.self.invariant c.self.view_is c.is_empty.ensures c.if-not-is_empty.true in
    of_both c.lengthen.result (λ held. c.lengthen.new.self ≡ insert_entry cell_cmp c.self.inside.tree c.args.cell.now (extended held c.args.key)) (c.lengthen.new.self ≡ c.self.inside.tree) (StandOnce c.self.inside.line c.lengthen.new.self)
    (λ held made. stands_in_tree c.self.inside.line c.lengthen.new.self (insert_entry cell_cmp c.self.inside.tree c.args.cell.now (extended held c.args.key)) t.empty made (put_line c.self.inside.tree c.args.cell.now (extended held c.args.key) t.ordered))
    (λ kept. stands_in_tree c.self.inside.line c.lengthen.new.self c.self.inside.tree t.empty kept t.ordered) c.lengthen.ensures.entries c.lengthen.ensures.err

pub returns-then-not-is_empty-clause-lengthened : goal.returns-then-not-is_empty-clause-lengthened
returns-then-not-is_empty-clause-lengthened c =
    let t : IsInTree c.self.inside.line c.self.inside.tree c.args.self.now =
    in_tree c.self.inside.line c.self.inside.tree c.args.self.now c.is_empty.result c.self.invariant c.self.view_is c.is_empty.ensures c.if-not-is_empty.true in
    of_ok c.lengthen.result (λ held. c.lengthen.new.self ≡ insert_entry cell_cmp c.self.inside.tree c.args.cell.now (extended held c.args.key))
    (λ held. IsLengthened c.args.self.now (c.self.inside.line ++ c.lengthen.new.self) c.args.cell.now (extended held c.args.key))
    (λ held made.
    is_put c.args.self.now (c.self.inside.line ++ c.lengthen.new.self) c.args.cell.now (extended held c.args.key) (subst IsLine t.view t.ordered)
    (new_tree c.self.inside.line c.self.inside.tree c.args.self.now c.lengthen.new.self (insert_entry cell_cmp c.args.self.now c.args.cell.now (extended held c.args.key)) t (made ∙ ap (λ es. insert_entry cell_cmp es c.args.cell.now (extended held c.args.key)) t.view)))
    c.lengthen.ensures.entries

pub invariant_of-self-in-Some : goal.invariant_of-self-in-Some
invariant_of-self-in-Some c =
    let l : IsInLine c.self.inside.line c.self.inside.tree c.args.self.now = in_line c.self.inside.line c.self.inside.tree c.args.self.now c.is_empty.result c.self.invariant c.self.view_is c.is_empty.ensures c.if-not-is_empty.false in
    (put_in_line c.self.inside.line c.self.inside.tree c.args.self.now c.lengthen-2.new.self c.args.cell.now (extended (Some c.in-Some.held) c.args.key) l c.in-Some.ensures.some).0

pub returns-in-Some-clause-lengthened : goal.returns-in-Some-clause-lengthened
returns-in-Some-clause-lengthened c =
    let l : IsInLine c.self.inside.line c.self.inside.tree c.args.self.now = in_line c.self.inside.line c.self.inside.tree c.args.self.now c.is_empty.result c.self.invariant c.self.view_is c.is_empty.ensures c.if-not-is_empty.false in
    is_put c.args.self.now (c.lengthen-2.new.self ++ c.self.inside.tree) c.args.cell.now (extended (Some c.in-Some.held) c.args.key) (subst IsLine l.view l.ordered)
    (put_in_line c.self.inside.line c.self.inside.tree c.args.self.now c.lengthen-2.new.self c.args.cell.now (extended (Some c.in-Some.held) c.args.key) l c.in-Some.ensures.some).1
