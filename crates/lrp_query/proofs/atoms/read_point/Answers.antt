use Rattle.std.proofs.Common.{◌≡◌, ◌∙◌, SFits, w64, to_z, of_z, ap, ap₂, sym, Ok, rules}
use Rattle.std.proofs.lemmas.Int.{to_z-of_z}
use Rattle.lrp_model.specs.declared.relations.RowPoint.{RowPoint}
use Rattle.lrp_query.specs.Rules.{point, point_of}
use Rattle.lrp_query.proofs.atoms.read_point.Goals as goal

pub returns-clause-value : goal.returns-clause-value
unfolding point
returns-clause-value c =
    let offset_fits : SFits w64 c.signed.result = search rules in
    let period_fits : SFits w64 c.signed-2.result = search rules in
    let same : ◌≡◌ {A = RowPoint} (record { offset = to_z w64 (of_z w64 c.signed.result); period = to_z w64 (of_z w64 c.signed-2.result) }) (point_of c.in_ok-offset.offset c.in_ok-period.period) =
    ap₂ (λ o k. record { offset = o; period = k }) (to_z-of_z w64 c.signed.result offset_fits ∙ c.signed.ensures) (to_z-of_z w64 c.signed-2.result period_fits ∙ c.signed-2.ensures) in
    rw (c.in_ok-offset.ensures.value, c.in_ok-expect.ensures.value, c.in_ok-period.ensures.value, c.in_ok-expect_word.ensures.value) (ap (λ f. Ok (f, c.expect_word.new.self)) (sym (c.membership.ensures c.in_ok-offset.offset c.in_ok-period.period same)))
