use Rattle.std.proofs.Common.{refl, sym}
use Rattle.lrp_model.specs.RawQueries.{raw_question_of}
use Rattle.lrp_wide.proofs.InlineFile.{file-is}
use Rattle.lrp_wide.proofs.Results.{if_ok_both}
use Rattle.lrp_wide.proofs.inlining.expand_beside.Goals as goal

pub returns : goal.returns
returns c =
    if_ok_both c.written_in_place.result _ _ _ c.written_in_place.ensures.head c.written_in_place.ensures.body (λ made h b file w q.
    file-is c.args.written file w.written _ (raw_question_of c.args.query) (raw_question_of made) c.in_ok-own_numbers.field-0 _ q (sym w.database) refl c.in_ok-own_numbers.ensures h (b.is file w))
