-- No operator stands in an answer that is the expanded query.
use Rattle.std.proofs.Common.{◌≡◌, List, Result, Ok, Err, IfOk, ap, sym, subst}
use Rattle.lrp_model.specs.RawQueries.{HasNoOperator, RawFileView, raw_form_of, raw_question_of}
use Rattle.lrp_model.specs.declared.relations.Relation.{Relation}
use Rattle.lrp_model.specs.declared.raw.RawQuery.{RawQuery}
use Rattle.lrp_wide.specs.Inlining.{expanded_file}
use Rattle.lrp_wide.proofs.LawfulFiles.{nothing_left}

pub plain_answer : {E : Type 0} (db : List Relation) (f : RawFileView) (r : Result RawQuery E) → IfOk r (λ made. raw_question_of made ≡ expanded_file db f) → IfOk r (λ made. HasNoOperator (raw_form_of made.body))
plain_answer {E} db f (Ok made) h = subst HasNoOperator (sym (ap (λ q. q.body) h)) (nothing_left db f)
plain_answer {E} db f (Err e) h = h
