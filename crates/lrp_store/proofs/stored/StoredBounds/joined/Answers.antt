-- The zone of the bounds of both holds both.
use Rattle.std.proofs.Common.{◌≡◌, arith, ap, subst, ◌∙◌}
use Rattle.lrp_theory.specs.Entries.{entry}
use Rattle.lrp_store.specs.Joined.{GoesOn, line_table}
use Rattle.lrp_store.proofs.Listed.{place_small}
use Rattle.lrp_store.proofs.Unions.{are_joined}
use Rattle.lrp_store.proofs.stored.StoredBounds.joined.Goals as goal

pub goes_on-requires : goal.goes_on-requires
goes_on-requires c = record { high = place_small (record c.args.zone.now { bounds = c.args.self.now }) c.requires.valid 9 _ (omega arith) c.bound.ensures }

pub line_bounds-requires-clause-low : goal.line_bounds-requires-clause-low
line_bounds-requires-clause-low c = place_small (record c.args.zone.now { bounds = c.args.self.now }) c.requires.valid 1 _ (omega arith) c.bound-low.ensures

pub line_bounds-requires-clause-high : goal.line_bounds-requires-clause-high
line_bounds-requires-clause-high c = c.bound_of.ensures.small

pub returns : goal.returns
returns c =
    let low : c.bound-low.result ≡ entry c.args.self.now 0 1 = c.bound-low.ensures in
    let high : c.bound.result ≡ entry c.args.self.now 1 0 = c.bound.ensures in
    let next : c.bound_of.result ≡ entry c.args.zone.now.bounds 1 0 = c.bound_of.ensures.value in
    are_joined c.args.zone.now c.bound_of.ensures.valid c.requires.column c.args.self.now c.requires.valid
    (subst (λ e. GoesOn e (entry c.args.self.now 1 0) c.args.zone.now) low (subst (λ e. GoesOn c.bound-low.result e c.args.zone.now) high (c.goes_on.ensures c.if-not-goes_on.false)))
    c.line_bounds.result (c.line_bounds.ensures ∙ ap (λ e. line_table e c.bound_of.result) low ∙ ap (line_table (entry c.args.self.now 0 1)) next)
