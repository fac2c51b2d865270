use Rattle.std.proofs.Common.{◌++◌, ◌∙◌, ap, sym, refl}
use Rattle.lrp_civil.specs.CivilValues.{unit_name}
use Rattle.lrp_calendar.proofs.PartLemmas.{none_is}
use Rattle.lrp_civil.proofs.values.unit_at.Goals as goal

pub returns-in_err-unit : goal.returns-in_err-unit
returns-in_err-unit c = none_is _ _ c.from_residual.result c.from_residual.ensures (λ unit rest k. c.in_err-unit.ensures unit rest k.whole)

pub returns-in_err-rest : goal.returns-in_err-rest
returns-in_err-rest c =
    none_is _ _ c.from_residual-in_err-rest.result c.from_residual-in_err-rest.ensures
    (λ unit rest k. c.in_err-rest.ensures rest (k.whole ∙ ap (λ u. unit_name u ++ rest) (c.in_ok-unit.ensures unit rest k.whole) ∙ ap (λ x. x ++ rest) (sym c.name.ensures)))

pub returns : goal.returns
returns c = record { is = refl; whole = c.in_ok-rest.ensures ∙ ap (λ x. x ++ c.in_ok-rest.rest.now) c.name.ensures }
