use Rattle.std.proofs.Common.{◌++◌, ◌∙◌, ap₂}
use Rattle.lrp_answer_text.specs.AnswerText.{bound_between}
use Rattle.lrp_answer_text.proofs.OneColumn.{one_column}
use Rattle.lrp_answer_text.proofs.closures.bounds_of_one.Goals as goal

pub returns-clause-bounds : goal.returns-clause-bounds
returns-clause-bounds c =
    let z = c.args.zone.now in
    c.push_stored-2.ensures.bounds
    ∙ ap₂ (λ bs e. bs ++ bound_between 1 0 e) (c.push_stored.ensures.bounds ∙ ap₂ (λ bs e. bs ++ bound_between 0 1 e) c.new-bounds.ensures c.bound.ensures) c.bound-2.ensures
    ∙ one_column z c.requires.valid c.requires.column
