-- A cell goes into the line of longer keys, where all are, or with the others.
use Rattle.std.proofs.Common.{◌≡◌, ◌++◌, Ok, ap, subst, ◌∙◌}
use Rattle.std.specs.BTreeMap.{insert_entry}
use Rattle.lrp_slots.specs.Lists.{cell_cmp}
use Rattle.lrp_slots.specs.Links.{chain_at}
use Rattle.lrp_slots.specs.Lines.{StandOnce}
use Rattle.lrp_slots.specs.Medium.{medium_cell}
use Rattle.lrp_slots.proofs.Lengthened.{of_put}
use Rattle.lrp_slots.proofs.Lines.{IsInLine, IsInTree, none_in_line, some_in_line, new_tree, put_line, put_moved, stands_in_tree}
use Rattle.lrp_slots.proofs.in_line.Lines.insert_longer.Goals as goal

pub insert-requires : goal.insert-requires
insert-requires c =
    let t : IsInTree c.self.inside.narrow c.self.inside.medium c.args.self.now = none_in_line c.self.inside.narrow c.self.inside.medium c.args.self.now c.is_empty.result c.self.invariant c.self.view_is c.is_empty.ensures c.if-is_empty.true in
    ap (λ es. chain_at es (medium_cell c.args.key)) t.view ∙ c.requires

pub invariant_of-self : goal.invariant_of-self
invariant_of-self c =
    let t : IsInTree c.self.inside.narrow c.self.inside.medium c.args.self.now = none_in_line c.self.inside.narrow c.self.inside.medium c.args.self.now c.is_empty.result c.self.invariant c.self.view_is c.is_empty.ensures c.if-is_empty.true in
    of_put c.insert.result (c.insert.new.self ≡ insert_entry cell_cmp c.self.inside.medium (medium_cell c.args.key) c.args.chain) (c.insert.new.self ≡ c.self.inside.medium) (StandOnce c.self.inside.narrow c.insert.new.self)
    c.insert.ensures.put c.insert.ensures.left c.insert.ensures.err
    (λ made. stands_in_tree c.self.inside.narrow c.insert.new.self (insert_entry cell_cmp c.self.inside.medium (medium_cell c.args.key) c.args.chain) t.empty made (put_line c.self.inside.medium (medium_cell c.args.key) c.args.chain t.ordered))
    (λ kept. stands_in_tree c.self.inside.narrow c.insert.new.self c.self.inside.medium t.empty kept t.ordered)

pub returns-then-is_empty-clause-put : goal.returns-then-is_empty-clause-put
returns-then-is_empty-clause-put c = λ put.
    let t : IsInTree c.self.inside.narrow c.self.inside.medium c.args.self.now = none_in_line c.self.inside.narrow c.self.inside.medium c.args.self.now c.is_empty.result c.self.invariant c.self.view_is c.is_empty.ensures c.if-is_empty.true in
    new_tree c.self.inside.narrow c.self.inside.medium c.args.self.now c.insert.new.self _ t (c.insert.ensures.put put ∙ ap (λ es. insert_entry cell_cmp es (medium_cell c.args.key) c.args.chain) t.view)
