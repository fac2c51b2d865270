-- A table is one part; parts are answers side by side.
use Rattle.std.proofs.Common.{◌≡◌, ℕ, List, sym, subst}
use Rattle.std.specs.List.{AllByRecursion, AllZip}
use Rattle.lrp_model.specs.DataTexts.{IsDomain}
use Rattle.lrp_model.specs.Formulas.{Question}
use Rattle.lrp_model.specs.Steps.{Steps}
use Rattle.lrp_model.specs.declared.relations.Relation.{Relation}
use Rattle.lrp_store.specs.Stores.{IsStore}
use Rattle.lrp_tables.specs.declared.table.Table.{Table}
use Rattle.lrp_answers.specs.declared.answer.Answer.{Answer}
use Rattle.lrp_eval.specs.Answered.{AreAnswersInParts, HaveFirstAnswer}
use Rattle.lrp_eval.specs.Ending.{IsAnswerUnder, IsEnding, IsLastNearest, IsOneUnder, IsWanted}
use Rattle.lrp_eval.specs.Planned.{HasAnswers, IsPlanOf}
use Rattle.lrp_eval.specs.declared.endings.Ending.{Ending}
use Rattle.lrp_eval.specs.declared.endings.Wanted.TheVariants.{Answers, First}
use Rattle.lrp_eval.proofs.EndLaws.{all_stand, part_stands, parts_answer, parts_known, parts_valid}
use Rattle.lrp_eval.proofs.GroupLaws.{also_ok}
use Rattle.lrp_eval.proofs.NearestLaws.{all_first, first_answer}
use Rattle.lrp_eval.proofs.answering.ending_answers.Goals as goal

pub part_answers-requires : goal.part_answers-requires
part_answers-requires c = all_stand c.requires.is (subst (λ (x : Ending). IsEnding c.requires.planned c.requires.database c.requires.query c.requires.cap x) c.in-Parts.is c.requires.ends)

pub returns-in-Whole-clause-answers : goal.returns-in-Whole-clause-answers
returns-in-Whole-clause-answers c =
    also_ok
    (λ parts. (planned : Steps) (db : List Relation) (q : Question) (cap : ℕ) → IsPlanOf planned db q c.args.plan.now → HasAnswers planned db q cap c.in-Whole.table → AreAnswersInParts planned db q cap parts)
    (λ parts. (planned : Steps) (db : List Relation) (q : Question) (cap : ℕ) → IsPlanOf planned db q c.args.plan.now → IsEnding planned db q cap c.args.ending → IsWanted Answers c.args.ending → AreAnswersInParts planned db q cap parts)
    c.one_answer.result (λ parts told planned db q cap h e every. told planned db q cap h (subst (λ (x : Ending). IsEnding planned db q cap x) c.in-Whole.is e).1) c.one_answer.ensures.answers

pub returns-in-Parts-clause-answers : goal.returns-in-Parts-clause-answers
returns-in-Parts-clause-answers c =
    also_ok (AllZip (λ (table : Table). IsAnswerUnder c.args.plan.now table.store) c.in-Parts.parts)
    (λ parts. (planned : Steps) (db : List Relation) (q : Question) (cap : ℕ) → IsPlanOf planned db q c.args.plan.now → IsEnding planned db q cap c.args.ending → IsWanted Answers c.args.ending → AreAnswersInParts planned db q cap parts)
    c.part_answers.result (λ parts are planned db q cap h e every. parts_answer h (subst (λ (x : Ending). IsEnding planned db q cap x) c.in-Parts.is e) parts are) c.part_answers.ensures

pub returns-in-Parts-clause-valid : goal.returns-in-Parts-clause-valid
returns-in-Parts-clause-valid c =
    also_ok (AllZip (λ (table : Table). IsAnswerUnder c.args.plan.now table.store) c.in-Parts.parts) (AllByRecursion (λ (part : Answer). IsStore part.store)) c.part_answers.result
    (λ parts are. parts_valid c.requires.is (subst (λ (x : Ending). IsEnding c.requires.planned c.requires.database c.requires.query c.requires.cap x) c.in-Parts.is c.requires.ends) parts are) c.part_answers.ensures

pub returns-in-Parts-clause-domain : goal.returns-in-Parts-clause-domain
returns-in-Parts-clause-domain c =
    also_ok (AllZip (λ (table : Table). IsAnswerUnder c.args.plan.now table.store) c.in-Parts.parts) (AllByRecursion (λ (part : Answer). IsDomain part.domain)) c.part_answers.result
    (λ parts are. parts_known c.requires.is (subst (λ (x : Ending). IsEnding c.requires.planned c.requires.database c.requires.query c.requires.cap x) c.in-Parts.is c.requires.ends) parts are) c.part_answers.ensures

pub returns-in-Whole-clause-first : goal.returns-in-Whole-clause-first
returns-in-Whole-clause-first c =
    also_ok
    (λ parts. (planned : Steps) (db : List Relation) (q : Question) (cap : ℕ) → IsPlanOf planned db q c.args.plan.now → HasAnswers planned db q cap c.in-Whole.table → AreAnswersInParts planned db q cap parts)
    (λ parts. (planned : Steps) (db : List Relation) (q : Question) (cap : ℕ) → IsPlanOf planned db q c.args.plan.now → IsEnding planned db q cap c.args.ending → HaveFirstAnswer planned db q cap parts)
    c.one_answer.result (λ parts told planned db q cap h e. all_first (told planned db q cap h (subst (λ (x : Ending). IsEnding planned db q cap x) c.in-Whole.is e).1)) c.one_answer.ensures.answers

pub returns-in-Parts-clause-first : goal.returns-in-Parts-clause-first
returns-in-Parts-clause-first c =
    also_ok (AllZip (λ (table : Table). IsAnswerUnder c.args.plan.now table.store) c.in-Parts.parts)
    (λ parts. (planned : Steps) (db : List Relation) (q : Question) (cap : ℕ) → IsPlanOf planned db q c.args.plan.now → IsEnding planned db q cap c.args.ending → HaveFirstAnswer planned db q cap parts)
    c.part_answers.result (λ parts are planned db q cap h e. all_first (parts_answer h (subst (λ (x : Ending). IsEnding planned db q cap x) c.in-Parts.is e) parts are)) c.part_answers.ensures

pub nearest_answer-requires : goal.nearest_answer-requires
nearest_answer-requires c =
    let n : IsLastNearest c.requires.planned c.requires.database c.requires.query c.requires.cap c.in-Nearest.table = subst (λ (x : Ending). IsEnding c.requires.planned c.requires.database c.requires.query c.requires.cap x) c.in-Nearest.is c.requires.ends in
    part_stands c.requires.is n.part

pub returns-in-Nearest-clause-answers : goal.returns-in-Nearest-clause-answers
returns-in-Nearest-clause-answers c =
    also_ok (IsOneUnder c.args.plan.now c.in-Nearest.table.store)
    (λ parts. (planned : Steps) (db : List Relation) (q : Question) (cap : ℕ) → IsPlanOf planned db q c.args.plan.now → IsEnding planned db q cap c.args.ending → IsWanted Answers c.args.ending → AreAnswersInParts planned db q cap parts)
    c.nearest_answer.result (λ parts u planned db q cap h e every. absurd (let e : Answers ≡ First = subst (IsWanted Answers) c.in-Nearest.is every in cc)) c.nearest_answer.ensures

pub returns-in-Nearest-clause-first : goal.returns-in-Nearest-clause-first
returns-in-Nearest-clause-first c =
    also_ok (IsOneUnder c.args.plan.now c.in-Nearest.table.store)
    (λ parts. (planned : Steps) (db : List Relation) (q : Question) (cap : ℕ) → IsPlanOf planned db q c.args.plan.now → IsEnding planned db q cap c.args.ending → HaveFirstAnswer planned db q cap parts)
    c.nearest_answer.result (λ parts u planned db q cap h e. first_answer h (subst (λ (x : Ending). IsEnding planned db q cap x) c.in-Nearest.is e) parts u) c.nearest_answer.ensures

pub returns-in-Nearest-clause-valid : goal.returns-in-Nearest-clause-valid
returns-in-Nearest-clause-valid c =
    also_ok (IsOneUnder c.args.plan.now c.in-Nearest.table.store) (AllByRecursion (λ (part : Answer). IsStore part.store)) c.nearest_answer.result
    (λ parts u. subst (AllByRecursion (λ (part : Answer). IsStore part.store)) (sym u.alone) (u.under.valid, tt)) c.nearest_answer.ensures

pub returns-in-Nearest-clause-domain : goal.returns-in-Nearest-clause-domain
returns-in-Nearest-clause-domain c =
    also_ok (IsOneUnder c.args.plan.now c.in-Nearest.table.store) (AllByRecursion (λ (part : Answer). IsDomain part.domain)) c.nearest_answer.result
    (λ parts u. subst (AllByRecursion (λ (part : Answer). IsDomain part.domain)) (sym u.alone) (u.under.known, tt)) c.nearest_answer.ensures
