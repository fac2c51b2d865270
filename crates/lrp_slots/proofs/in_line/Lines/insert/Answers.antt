-- A narrow cell goes into the line of such cells, where all are narrow.
use Rattle.std.proofs.Common.{◌≡◌, ap, subst, ◌∙◌}
use Rattle.std.specs.BTreeMap.{insert_entry}
use Rattle.lrp_slots.specs.Lists.{cell_cmp}
use Rattle.lrp_slots.specs.Links.{chain_at}
use Rattle.lrp_slots.specs.Lines.{StandOnce}
use Rattle.lrp_slots.specs.Narrow.{wide}
use Rattle.lrp_slots.proofs.Lengthened.{of_put}
use Rattle.lrp_slots.proofs.Lines.{IsInLine, in_line, put_in_line, left_in_line}
use Rattle.lrp_slots.proofs.in_line.Lines.insert.Goals as goal

pub insert-requires : goal.insert-requires
insert-requires c =
    let l : IsInLine c.self.inside.narrow c.self.inside.medium c.args.self.now = in_line c.self.inside.narrow c.self.inside.medium c.args.self.now c.is_empty.result c.self.invariant c.self.view_is c.is_empty.ensures c.if-is_empty.true in
    ap (λ k. chain_at c.self.inside.narrow k) c.in-Some.ensures.some ∙ ap (λ es. chain_at es c.args.cell.now) l.view ∙ c.requires

pub invariant_of-self : goal.invariant_of-self
invariant_of-self c =
    let l : IsInLine c.self.inside.narrow c.self.inside.medium c.args.self.now = in_line c.self.inside.narrow c.self.inside.medium c.args.self.now c.is_empty.result c.self.invariant c.self.view_is c.is_empty.ensures c.if-is_empty.true in
    of_put c.insert.result (c.insert.new.self ≡ insert_entry cell_cmp c.self.inside.narrow (wide c.in-Some.key) c.args.chain) (c.insert.new.self ≡ c.self.inside.narrow) (StandOnce c.insert.new.self c.self.inside.medium)
    c.insert.ensures.put c.insert.ensures.left c.insert.ensures.err
    (λ made. (put_in_line c.self.inside.narrow c.self.inside.medium c.args.self.now c.insert.new.self (wide c.in-Some.key) c.args.chain l made).0)
    (λ kept. (left_in_line c.self.inside.narrow c.self.inside.medium c.args.self.now c.insert.new.self l kept).0)

pub returns-in-Some-clause-put : goal.returns-in-Some-clause-put
returns-in-Some-clause-put c = λ put.
    let l : IsInLine c.self.inside.narrow c.self.inside.medium c.args.self.now = in_line c.self.inside.narrow c.self.inside.medium c.args.self.now c.is_empty.result c.self.invariant c.self.view_is c.is_empty.ensures c.if-is_empty.true in
    (put_in_line c.self.inside.narrow c.self.inside.medium c.args.self.now c.insert.new.self (wide c.in-Some.key) c.args.chain l (c.insert.ensures.put put)).1
    ∙ ap (λ k. insert_entry cell_cmp c.args.self.now k c.args.chain) c.in-Some.ensures.some
