-- The answers of that name, or want of memory for it.
use Rattle.std.proofs.Common.{ℕ, Bool, true, false, List, Err, refl, subst, sym}
use Rattle.lrp_model.specs.Names.{IsName}
use Rattle.lrp_model.specs.Texts.{Identifier}
use Rattle.lrp_model.specs.Formulas.{Question}
use Rattle.lrp_model.specs.declared.plans.Plan.{Plan}
use Rattle.lrp_model.specs.declared.plans.Planning.{Planning}
use Rattle.lrp_model.specs.declared.relations.Relation.{Relation}
use Rattle.lrp_outputs.specs.Outputs.{told}
use Rattle.lrp_outputs.specs.declared.refusal.Refusal.TheVariants.{Memory}
use Rattle.lrp_top.specs.Due.{IsAnswered}
use Rattle.lrp_top.specs.Questions.{database_source, query_source}
use Rattle.lrp_top.specs.Sources.{Source}
use Rattle.lrp_top.proofs.serving.named_answer.Goals as goal

-- where no memory is had for the name of the answers, that is told
unnamed : (way : Planning) (canon : Bool) (called : Identifier) (cap : ℕ) (d : Source (List Relation)) (q : Source Question) (p : Plan) → IsAnswered way canon called cap d q p (Err Memory)
unnamed way false called cap d q p = record { first = Err Memory; is = tt; next = refl }
unnamed way true called cap d q p = record { first = Err Memory; is = tt; next = refl }

pub whole_answer-requires-clause-name : goal.whole_answer-requires-clause-name
whole_answer-requires-clause-name c = subst IsName (sym c.in-Ok.ensures) c.requires.name

pub returns-in-Ok : goal.returns-in-Ok
returns-in-Ok c =
    let question = c.args.question.now in
    record { due = subst (λ (n : Identifier). IsAnswered question.planning c.args.canon n c.args.cap (database_source question.database) (query_source question.query) question.plan (told c.whole_answer.result)) c.in-Ok.ensures c.whole_answer.ensures.due }

pub returns-in-Err : goal.returns-in-Err
returns-in-Err c =
    let question = c.args.question.now in
    record { due = unnamed question.planning c.args.canon c.args.name.now c.args.cap (database_source question.database) (query_source question.query) question.plan }
