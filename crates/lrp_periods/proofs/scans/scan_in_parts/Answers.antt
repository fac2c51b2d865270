-- Rows of one period are one part.
use Rattle.std.proofs.Common.{◌++◌, [], ◌∷◌, ◌∙◌, ap, refl, sym, subst, to_z, of_z, w64}
use Rattle.std.specs.Prelude.{Contains, nat_abs}
use Rattle.lrp_tables.specs.Columns.{scan_times, scan_texts}
use Rattle.lrp_tables.specs.Steps.{CanScan}
use Rattle.lrp_tables.specs.Tables.{IsScanned, IsTableOf}
use Rattle.lrp_periods.specs.Periods.{RowHasPeriods, IsOwnPeriod, IsRowPeriod}
use Rattle.lrp_periods.proofs.PartLaws.{part_of_table}
use Rattle.lrp_periods.proofs.PeriodLaws.{in_word, of_word, own_word}
use Rattle.lrp_periods.proofs.ScanParts.{all_rows, can_scan_rows, has_periods}
use Rattle.lrp_periods.proofs.TakenApart.{one_part}
use Rattle.lrp_periods.proofs.scans.scan_in_parts.Goals as goal

pub first_period-own-requires-clause-rows : goal.first_period-own-requires-clause-rows
first_period-own-requires-clause-rows c = λ row k. in_word c.requires.period_is (λ p. RowHasPeriods p row) (has_periods c.requires.scan row (subst (λ rs. Contains rs row) c.as_slice-rows.ensures k))

pub have_period-requires-clause-rows : goal.have_period-requires-clause-rows
have_period-requires-clause-rows c = λ row k. in_word c.requires.period_is (λ p. RowHasPeriods p row) (has_periods c.requires.scan row (subst (λ rs. Contains rs row) c.as_slice-rows.ensures k))

pub scan-requires : goal.scan-requires
scan-requires c =
    let own = of_word c.requires.period_is (λ p. IsOwnPeriod p c.first_period-own.result) c.first_period-own.ensures in
    subst (λ p. CanScan c.args.setting.now.domain.now p c.args.relation.now c.args.terms.now) (sym (own_word c.requires.period_is own))
    (can_scan_rows (all_rows {source = record { relation = c.args.relation; terms = c.args.terms; period = c.args.period }} (record { period_is = c.requires.period_is; scan = c.requires.scan }) own
    (λ row k. subst (IsRowPeriod c.args.period row) (own_word c.requires.period_is own) (of_word c.requires.period_is (λ p. IsRowPeriod p row (to_z w64 (of_z w64 c.first_period-own.result))) (c.have_period.ensures c.if-have_period.true row (subst (λ rs. Contains rs row) (sym c.as_slice-rows.ensures) k)))))
    c.args.relation.now refl refl)

pub returns-then-have_period : goal.returns-then-have_period
returns-then-have_period c =
    let own = of_word c.requires.period_is (λ p. IsOwnPeriod p c.first_period-own.result) c.first_period-own.ensures in
    let word = own_word c.requires.period_is own in
    one_part (c.in_ok-push.ensures.ok ∙ ap (λ ps. ps ++ c.in_ok-part.part ∷ []) c.new-parts.ensures)
    (part_of_table {k = c.first_period-own.result} (subst (λ z. IsTableOf c.args.setting.now.domain.now (scan_times c.args.terms.now) (scan_texts c.args.terms.now) (nat_abs z) (IsScanned c.args.setting.now.domain.now c.args.relation.now c.args.terms.now) c.in_ok-part.part) word
    (subst (IsTableOf c.args.setting.now.domain.now (scan_times c.args.terms.now) (scan_texts c.args.terms.now) (nat_abs (to_z w64 (of_z w64 c.first_period-own.result))) (IsScanned c.args.setting.now.domain.now c.args.relation.now c.args.terms.now)) (sym c.in_ok-part.ensures.same) c.in_ok-made.ensures.table))
    c.in_ok-part.ensures.valid c.in_ok-part.ensures.reach own.low own.divides)
