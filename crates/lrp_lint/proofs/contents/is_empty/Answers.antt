-- The row holds nothing exactly where no times lie in each of its parts.
use Rattle.std.proofs.Common.{rules, to_z, of_z, ◌∙◌}
use Rattle.std.specs.Int.{w64}
use Rattle.std.proofs.lemmas.Option.{MatchOption-at_some}
use Rattle.lrp_lint.proofs.Holding.{empty_ok, fits_by}
use Rattle.lrp_lint.proofs.contents.is_empty.Goals as goal

pub has_none-requires-clause-fits : goal.has_none-requires-clause-fits
has_none-requires-clause-fits c =
    fits_by c.args.row.now c.args.times c.in-Some.placed.items c.deref-in-Some.result.now c.args.period (to_z w64 (of_z w64 c.args.period)) (MatchOption-at_some _ _ c.in-Some.placed c.in-Some.is c.in_ok-placed.ensures) (c.deref-in-Some.ensures.value ∙ c.in_ok-parts-in-Some.ensures ∙ c.deref.ensures.value) (search rules) c.requires.room

pub returns-in_ok-parts-in-Some : goal.returns-in_ok-parts-in-Some
returns-in_ok-parts-in-Some c =
    empty_ok c.args.row.now c.args.times c.in-Some.placed.items c.deref-in-Some.result.now c.has_none.result (MatchOption-at_some _ _ c.in-Some.placed c.in-Some.is c.in_ok-placed.ensures) (c.deref-in-Some.ensures.value ∙ c.in_ok-parts-in-Some.ensures ∙ c.deref.ensures.value) c.has_none.ensures
