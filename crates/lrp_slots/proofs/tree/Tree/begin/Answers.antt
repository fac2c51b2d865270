-- A cell is begun by its key, and one that has no key was not there.
use Rattle.std.proofs.Common.{◌∙◌, None, sym, subst}
use Rattle.std.specs.Prelude.{IsSome}
use Rattle.lrp_slots.specs.Links.{extended}
use Rattle.lrp_slots.proofs.Shortened.{all_narrow, found_by_key, not_found, put_by_key}
use Rattle.lrp_slots.proofs.tree.Tree.begin.Goals as goal

pub returns-in-Some-clause-absent : goal.returns-in-Some-clause-absent
returns-in-Some-clause-absent c = λ new.
    sym (found_by_key c.self.inside.narrow.entries c.self.inside.wide.entries c.args.self.now c.in-Some.narrow c.args.cell.now
    (all_narrow c.self.inside.narrow.entries c.self.inside.wide.entries c.args.self.now c.is_empty.result c.self.view_is c.is_empty.ensures c.if-not-is_empty.false) c.in-Some.ensures.some)
    ∙ c.begin_at-in-Some.ensures.absent new

pub returns-in-Some-clause-put : goal.returns-in-Some-clause-put
returns-in-Some-clause-put c = λ new.
    put_by_key c.self.inside.narrow.entries c.begin_at-in-Some.new.chains.entries c.self.inside.wide.entries c.args.self.now c.in-Some.narrow c.args.cell.now (extended None c.args.key)
    (all_narrow c.self.inside.narrow.entries c.self.inside.wide.entries c.args.self.now c.is_empty.result c.self.view_is c.is_empty.ensures c.if-not-is_empty.false) c.in-Some.ensures.some (c.begin_at-in-Some.ensures.put new)

pub returns-in-Some-clause-held : goal.returns-in-Some-clause-held
returns-in-Some-clause-held c = λ old.
    subst IsSome
    (found_by_key c.self.inside.narrow.entries c.self.inside.wide.entries c.args.self.now c.in-Some.narrow c.args.cell.now
    (all_narrow c.self.inside.narrow.entries c.self.inside.wide.entries c.args.self.now c.is_empty.result c.self.view_is c.is_empty.ensures c.if-not-is_empty.false) c.in-Some.ensures.some)
    (c.begin_at-in-Some.ensures.held old)

pub returns-clause-absent : goal.returns-clause-absent
returns-clause-absent c = λ _.
    not_found c.self.inside.narrow.entries c.self.inside.wide.entries c.args.self.now c.args.cell.now
    (all_narrow c.self.inside.narrow.entries c.self.inside.wide.entries c.args.self.now c.is_empty.result c.self.view_is c.is_empty.ensures c.if-not-is_empty.false) c.in_default.ensures.none
