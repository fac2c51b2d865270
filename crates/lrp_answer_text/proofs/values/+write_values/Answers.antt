use Rattle.std.proofs.Common.{◌++◌, ◌-◌, ◌∙◌, sym, take, drop, length, get_or}
use Rattle.std.specs.Prelude.{pos}
use Rattle.std.proofs.lemmas.Result.{err_from_is_err_and}
use Rattle.lrp_model.specs.Printed.{quoted}
use Rattle.lrp_model.specs.Tuples.{in_head_order, text_at, texts_at}
use Rattle.lrp_io.proofs.PieceLemmas.{written_after, written_err, front_before}
use Rattle.lrp_print.proofs.Lines.{written_as, front_as}
use Rattle.lrp_answer_text.specs.Lines.{values_after}
use Rattle.lrp_answer_text.proofs.LineLaws.{time_first, text_first}
use Rattle.lrp_answer_text.proofs.values.+write_values.Goals as goal

pub returns-in_err-write_time-clause-text : goal.returns-in_err-write_time-clause-text
returns-in_err-write_time-clause-text g t c =
    let spelling = c.args.spelling.now in
    let spell = g.T.Notation.bytes spelling.times.now in
    let before = c.args.before.now in
    let between = c.args.between.now in
    let columns = c.args.values.columns.now in
    let times = c.args.values.times.now in
    let texts = texts_at c.args.values.domain.now c.args.values.numbers.now in
    let p = err_from_is_err_and c.from_residual.result c.from_residual.ensures.1 in
    written_err _ _ (values_after spell before between (in_head_order columns times texts)) _ p.0 p.1
    (front_as _ _ _ _ (time_first spell before between columns c.column-item.result times (pos 0) texts c.in-len1-up.len_at_least c.column-item.is (sym c.is_time.ensures ∙ c.if-is_time.true) c.in-len1-up-times.len_at_least)
    (front_before _ _ (before ++ spell (get_or times 0 (pos 0))) (values_after spell between between (in_head_order (take (length columns - 1) (drop 1 columns)) (take (length times - 1) (drop 1 times)) texts)) c.in_err-write_time.ensures.text))

pub returns-in_ok-write_time-clause-text : goal.returns-in_ok-write_time-clause-text
returns-in_ok-write_time-clause-text g t c =
    let spelling = c.args.spelling.now in
    let spell = g.T.Notation.bytes spelling.times.now in
    let before = c.args.before.now in
    let between = c.args.between.now in
    let columns = c.args.values.columns.now in
    let times = c.args.values.times.now in
    let texts = texts_at c.args.values.domain.now c.args.values.numbers.now in
    written_as _ _ _ _ _ (time_first spell before between columns c.column-item.result times (pos 0) texts c.in-len1-up.len_at_least c.column-item.is (sym c.is_time.ensures ∙ c.if-is_time.true) c.in-len1-up-times.len_at_least)
    (written_after _ _ _ (before ++ spell (get_or times 0 (pos 0))) (values_after spell between between (in_head_order (take (length columns - 1) (drop 1 columns)) (take (length times - 1) (drop 1 times)) texts)) _ c.in_ok-write_time.ensures.text c.write_values.ensures.text)

pub returns-in_err-write_text-clause-text : goal.returns-in_err-write_text-clause-text
returns-in_err-write_text-clause-text g t c =
    let spelling = c.args.spelling.now in
    let domain = c.args.values.domain.now in
    let spell = g.T.Notation.bytes spelling.times.now in
    let before = c.args.before.now in
    let between = c.args.between.now in
    let columns = c.args.values.columns.now in
    let times = c.args.values.times.now in
    let numbers = c.args.values.numbers.now in
    let p = err_from_is_err_and c.from_residual-in_err-write_text.result c.from_residual-in_err-write_text.ensures.1 in
    written_err _ _ (values_after spell before between (in_head_order columns times (texts_at domain numbers))) _ p.0 p.1
    (front_as _ _ _ _ (text_first spell domain before between columns c.column-item.result times numbers c.in-len1-up.len_at_least c.column-item.is (sym c.is_time.ensures ∙ c.if-is_time.false) c.in-len1-up-numbers.len_at_least)
    (front_before _ _ (before ++ quoted (text_at domain (get_or numbers 0 0))) (values_after spell between between (in_head_order (take (length columns - 1) (drop 1 columns)) times (texts_at domain (take (length numbers - 1) (drop 1 numbers))))) c.in_err-write_text.ensures.text))

pub returns-in_ok-write_text-clause-text : goal.returns-in_ok-write_text-clause-text
returns-in_ok-write_text-clause-text g t c =
    let spelling = c.args.spelling.now in
    let domain = c.args.values.domain.now in
    let spell = g.T.Notation.bytes spelling.times.now in
    let before = c.args.before.now in
    let between = c.args.between.now in
    let columns = c.args.values.columns.now in
    let times = c.args.values.times.now in
    let numbers = c.args.values.numbers.now in
    written_as _ _ _ _ _ (text_first spell domain before between columns c.column-item.result times numbers c.in-len1-up.len_at_least c.column-item.is (sym c.is_time.ensures ∙ c.if-is_time.false) c.in-len1-up-numbers.len_at_least)
    (written_after _ _ _ (before ++ quoted (text_at domain (get_or numbers 0 0))) (values_after spell between between (in_head_order (take (length columns - 1) (drop 1 columns)) times (texts_at domain (take (length numbers - 1) (drop 1 numbers))))) _ c.in_ok-write_text.ensures.text c.write_values-else-is_time.ensures.text)
