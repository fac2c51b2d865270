-- A chain is made longer under the keys that the cells have.
use Rattle.std.proofs.Common.{◌≡◌, ◌++◌, ap, subst, ◌∙◌}
use Rattle.std.specs.BTreeMap.{insert_entry}
use Rattle.lrp_slots.specs.Lists.{cell_cmp}
use Rattle.lrp_slots.specs.Links.{extended}
use Rattle.lrp_slots.specs.Lines.{StandOnce}
use Rattle.lrp_slots.proofs.Lengthened.{of_found, on_some}
use Rattle.lrp_slots.proofs.Lines.{IsInLine, IsInTree, in_line, in_tree, new_tree, put_in_line, left_in_line, put_line, stands_in_tree}
use Rattle.lrp_slots.proofs.in_line.Lines.lengthen.Goals as goal

pub invariant_of-self : goal.invariant_of-self
invariant_of-self c =
    let t : IsInTree c.self.inside.narrow c.self.inside.medium c.args.self.now = in_tree c.self.inside.narrow c.self.inside.medium c.args.self.now c.is_empty.result c.self.invariant c.self.view_is c.is_empty.ensures c.if-not-is_empty.true in
    of_found c.lengthen.result (c.lengthen.new.self ≡ insert_entry cell_cmp c.self.inside.medium c.args.cell.now (extended c.lengthen.result c.args.slot)) (c.lengthen.new.self ≡ c.self.inside.medium) (StandOnce c.self.inside.narrow c.lengthen.new.self)
    (λ made. stands_in_tree c.self.inside.narrow c.lengthen.new.self (insert_entry cell_cmp c.self.inside.medium c.args.cell.now (extended c.lengthen.result c.args.slot)) t.empty made (put_line c.self.inside.medium c.args.cell.now (extended c.lengthen.result c.args.slot) t.ordered))
    (λ kept. stands_in_tree c.self.inside.narrow c.lengthen.new.self c.self.inside.medium t.empty kept t.ordered) c.lengthen.ensures.some c.lengthen.ensures.none

pub returns-then-not-is_empty-clause-some : goal.returns-then-not-is_empty-clause-some
returns-then-not-is_empty-clause-some c =
    let t : IsInTree c.self.inside.narrow c.self.inside.medium c.args.self.now = in_tree c.self.inside.narrow c.self.inside.medium c.args.self.now c.is_empty.result c.self.invariant c.self.view_is c.is_empty.ensures c.if-not-is_empty.true in
    on_some c.lengthen.result (c.lengthen.new.self ≡ insert_entry cell_cmp c.self.inside.medium c.args.cell.now (extended c.lengthen.result c.args.slot)) (c.self.inside.narrow ++ c.lengthen.new.self ≡ insert_entry cell_cmp c.args.self.now c.args.cell.now (extended c.lengthen.result c.args.slot))
    (λ made. new_tree c.self.inside.narrow c.self.inside.medium c.args.self.now c.lengthen.new.self _ t (made ∙ ap (λ es. insert_entry cell_cmp es c.args.cell.now (extended c.lengthen.result c.args.slot)) t.view)) c.lengthen.ensures.some

pub invariant_of-self-2 : goal.invariant_of-self-2
invariant_of-self-2 c =
    let l : IsInLine c.self.inside.narrow c.self.inside.medium c.args.self.now = in_line c.self.inside.narrow c.self.inside.medium c.args.self.now c.is_empty.result c.self.invariant c.self.view_is c.is_empty.ensures c.if-not-is_empty.false in
    of_found c.lengthen-2.result (c.lengthen-2.new.self ≡ insert_entry cell_cmp c.self.inside.narrow c.args.cell.now (extended c.lengthen-2.result c.args.slot)) (c.lengthen-2.new.self ≡ c.self.inside.narrow) (StandOnce c.lengthen-2.new.self c.self.inside.medium)
    (λ made. (put_in_line c.self.inside.narrow c.self.inside.medium c.args.self.now c.lengthen-2.new.self c.args.cell.now (extended c.lengthen-2.result c.args.slot) l made).0)
    (λ kept. (left_in_line c.self.inside.narrow c.self.inside.medium c.args.self.now c.lengthen-2.new.self l kept).0) c.lengthen-2.ensures.some c.lengthen-2.ensures.none

pub returns-clause-some : goal.returns-clause-some
returns-clause-some c =
    let l : IsInLine c.self.inside.narrow c.self.inside.medium c.args.self.now = in_line c.self.inside.narrow c.self.inside.medium c.args.self.now c.is_empty.result c.self.invariant c.self.view_is c.is_empty.ensures c.if-not-is_empty.false in
    on_some c.lengthen-2.result (c.lengthen-2.new.self ≡ insert_entry cell_cmp c.self.inside.narrow c.args.cell.now (extended c.lengthen-2.result c.args.slot)) (c.lengthen-2.new.self ++ c.self.inside.medium ≡ insert_entry cell_cmp c.args.self.now c.args.cell.now (extended c.lengthen-2.result c.args.slot))
    (λ made. (put_in_line c.self.inside.narrow c.self.inside.medium c.args.self.now c.lengthen-2.new.self c.args.cell.now (extended c.lengthen-2.result c.args.slot) l made).1) c.lengthen-2.ensures.some
