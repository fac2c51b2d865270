-- A chain is made longer by the key of its cell, and a cell that has no key was not there.
use Rattle.std.proofs.Common.{◌≡◌, ◌+◌, ◌<◌, ◌^◌, ◌++◌, None, sym, subst}
use Rattle.std.specs.Prelude.{IfSome, IfOk, OnErr}
use Rattle.std.specs.BTreeMap.{insert_entry}
use Rattle.lrp_slots.specs.Lists.{cell_cmp}
use Rattle.lrp_slots.specs.Links.{extended}
use Rattle.lrp_slots.specs.Narrow.{narrow_cmp, wide_entries}
use Rattle.lrp_slots.proofs.Lengthened.{of_ok}
use Rattle.lrp_slots.proofs.Shortened.{all_narrow, found_by_key, not_found, put_by_key}
use Rattle.lrp_slots.proofs.tree.Tree.lengthen.Goals as goal

pub lengthen_at-requires-in-Some : goal.lengthen_at-requires-in-Some
lengthen_at-requires-in-Some c =
    subst (λ o. IfSome o (λ chain. chain.count + 1 < 2 ^ 64))
    (sym (found_by_key c.self.inside.narrow.entries c.self.inside.wide.entries c.args.self.now c.in-Some.narrow c.args.cell.now
    (all_narrow c.self.inside.narrow.entries c.self.inside.wide.entries c.args.self.now c.is_empty.result c.self.view_is c.is_empty.ensures c.if-not-is_empty.false) c.in-Some.ensures.some))
    c.requires

pub returns-in-Some-clause-held : goal.returns-in-Some-clause-held
returns-in-Some-clause-held c =
    subst (λ o. IfOk c.lengthen_at-in-Some.result (λ held. held ≡ o))
    (found_by_key c.self.inside.narrow.entries c.self.inside.wide.entries c.args.self.now c.in-Some.narrow c.args.cell.now
    (all_narrow c.self.inside.narrow.entries c.self.inside.wide.entries c.args.self.now c.is_empty.result c.self.view_is c.is_empty.ensures c.if-not-is_empty.false) c.in-Some.ensures.some)
    c.lengthen_at-in-Some.ensures.held

pub returns-in-Some-clause-entries : goal.returns-in-Some-clause-entries
returns-in-Some-clause-entries c =
    of_ok c.lengthen_at-in-Some.result (λ held. c.lengthen_at-in-Some.new.chains.entries ≡ insert_entry narrow_cmp c.self.inside.narrow.entries c.in-Some.narrow (extended held c.args.key))
    (λ held. wide_entries c.lengthen_at-in-Some.new.chains.entries ++ c.self.inside.wide.entries ≡ insert_entry cell_cmp c.args.self.now c.args.cell.now (extended held c.args.key))
    (λ held made.
    put_by_key c.self.inside.narrow.entries c.lengthen_at-in-Some.new.chains.entries c.self.inside.wide.entries c.args.self.now c.in-Some.narrow c.args.cell.now (extended held c.args.key)
    (all_narrow c.self.inside.narrow.entries c.self.inside.wide.entries c.args.self.now c.is_empty.result c.self.view_is c.is_empty.ensures c.if-not-is_empty.false) c.in-Some.ensures.some made)
    c.lengthen_at-in-Some.ensures.entries

pub returns-in-Some-clause-absent : goal.returns-in-Some-clause-absent
returns-in-Some-clause-absent c =
    subst (λ o. OnErr c.lengthen_at-in-Some.result (o ≡ None))
    (found_by_key c.self.inside.narrow.entries c.self.inside.wide.entries c.args.self.now c.in-Some.narrow c.args.cell.now
    (all_narrow c.self.inside.narrow.entries c.self.inside.wide.entries c.args.self.now c.is_empty.result c.self.view_is c.is_empty.ensures c.if-not-is_empty.false) c.in-Some.ensures.some)
    c.lengthen_at-in-Some.ensures.absent

pub returns-clause-held : goal.returns-clause-held
returns-clause-held c =
    sym (not_found c.self.inside.narrow.entries c.self.inside.wide.entries c.args.self.now c.args.cell.now
    (all_narrow c.self.inside.narrow.entries c.self.inside.wide.entries c.args.self.now c.is_empty.result c.self.view_is c.is_empty.ensures c.if-not-is_empty.false) c.in_default.ensures.none)
