-- A chain is replaced under the keys that the cells have.
use Rattle.std.proofs.Common.{◌≡◌, ◌++◌, ap, subst, ◌∙◌}
use Rattle.std.specs.BTreeMap.{insert_entry}
use Rattle.lrp_slots.specs.Lists.{cell_cmp}
use Rattle.lrp_slots.specs.Lines.{StandOnce}
use Rattle.lrp_slots.proofs.Lengthened.{of_found, on_some}
use Rattle.lrp_slots.proofs.Lines.{IsInLine, IsInTree, in_line, in_tree, new_tree, put_in_line, left_in_line, put_line, stands_in_tree}
use Rattle.lrp_slots.proofs.in_line.Lines.replace.Goals as goal

pub invariant_of-self : goal.invariant_of-self
invariant_of-self c =
    let t : IsInTree c.self.inside.narrow c.self.inside.medium c.args.self.now = in_tree c.self.inside.narrow c.self.inside.medium c.args.self.now c.is_empty.result c.self.invariant c.self.view_is c.is_empty.ensures c.if-not-is_empty.true in
    of_found c.replace.result (c.replace.new.self ≡ insert_entry cell_cmp c.self.inside.medium c.args.cell.now c.args.chain) (c.replace.new.self ≡ c.self.inside.medium) (StandOnce c.self.inside.narrow c.replace.new.self)
    (λ made. stands_in_tree c.self.inside.narrow c.replace.new.self (insert_entry cell_cmp c.self.inside.medium c.args.cell.now c.args.chain) t.empty made (put_line c.self.inside.medium c.args.cell.now c.args.chain t.ordered))
    (λ kept. stands_in_tree c.self.inside.narrow c.replace.new.self c.self.inside.medium t.empty kept t.ordered) c.replace.ensures.some c.replace.ensures.none

pub returns-then-not-is_empty-clause-some : goal.returns-then-not-is_empty-clause-some
returns-then-not-is_empty-clause-some c =
    let t : IsInTree c.self.inside.narrow c.self.inside.medium c.args.self.now = in_tree c.self.inside.narrow c.self.inside.medium c.args.self.now c.is_empty.result c.self.invariant c.self.view_is c.is_empty.ensures c.if-not-is_empty.true in
    on_some c.replace.result (c.replace.new.self ≡ insert_entry cell_cmp c.self.inside.medium c.args.cell.now c.args.chain) (c.self.inside.narrow ++ c.replace.new.self ≡ insert_entry cell_cmp c.args.self.now c.args.cell.now c.args.chain)
    (λ made. new_tree c.self.inside.narrow c.self.inside.medium c.args.self.now c.replace.new.self _ t (made ∙ ap (λ es. insert_entry cell_cmp es c.args.cell.now c.args.chain) t.view)) c.replace.ensures.some

pub invariant_of-self-2 : goal.invariant_of-self-2
invariant_of-self-2 c =
    let l : IsInLine c.self.inside.narrow c.self.inside.medium c.args.self.now = in_line c.self.inside.narrow c.self.inside.medium c.args.self.now c.is_empty.result c.self.invariant c.self.view_is c.is_empty.ensures c.if-not-is_empty.false in
    of_found c.replace-2.result (c.replace-2.new.self ≡ insert_entry cell_cmp c.self.inside.narrow c.args.cell.now c.args.chain) (c.replace-2.new.self ≡ c.self.inside.narrow) (StandOnce c.replace-2.new.self c.self.inside.medium)
    (λ made. (put_in_line c.self.inside.narrow c.self.inside.medium c.args.self.now c.replace-2.new.self c.args.cell.now c.args.chain l made).0)
    (λ kept. (left_in_line c.self.inside.narrow c.self.inside.medium c.args.self.now c.replace-2.new.self l kept).0) c.replace-2.ensures.some c.replace-2.ensures.none

pub returns-clause-some : goal.returns-clause-some
returns-clause-some c =
    let l : IsInLine c.self.inside.narrow c.self.inside.medium c.args.self.now = in_line c.self.inside.narrow c.self.inside.medium c.args.self.now c.is_empty.result c.self.invariant c.self.view_is c.is_empty.ensures c.if-not-is_empty.false in
    on_some c.replace-2.result (c.replace-2.new.self ≡ insert_entry cell_cmp c.self.inside.narrow c.args.cell.now c.args.chain) (c.replace-2.new.self ++ c.self.inside.medium ≡ insert_entry cell_cmp c.args.self.now c.args.cell.now c.args.chain)
    (λ made. (put_in_line c.self.inside.narrow c.self.inside.medium c.args.self.now c.replace-2.new.self c.args.cell.now c.args.chain l made).1) c.replace-2.ensures.some
