-- The rows of the canonical answer are those of the answers' set. It is settled, and its text is an answer text in rows of the
-- least period.
use Rattle.std.proofs.Common.{◌≡◌, ◌≤◌, ◌∙◌, Ok, Err, ap, refl, subst, sym}
use Rattle.std.specs.Prelude.{IfNone, IfSome}
use Rattle.std.specs.List.{AllByRecursion}
use Rattle.lrp_model.specs.AnswerTexts.{IsAnswerTextOf}
use Rattle.lrp_model.specs.DataTexts.{IsDataText}
use Rattle.lrp_model.specs.Formulas.{question_of}
use Rattle.lrp_model.specs.Texts.{Ascends, Identifier}
use Rattle.lrp_answer_text.specs.AnswerText.{named_answer_text}
use Rattle.lrp_spans.specs.Groups.{HoldsNumber}
use Rattle.lrp_store.specs.Stores.{zone_count}
use Rattle.lrp_canon.specs.Canonical.{HasCanonicalZones as HasStoredRows, HasMoreRows, IsCanonicalOf}
use Rattle.lrp_canon.specs.Answers.{HasNumber}
use Rattle.lrp_outputs.specs.declared.refusal.Refusal.TheVariants.{CanonRows, Memory}
use Rattle.lrp_top.specs.Questions.{question_steps}
use Rattle.lrp_top.proofs.Answered.{can_be_canonical, last_wide, one_column}
use Rattle.lrp_top.proofs.CanonSets.{count_named, period_named, same_sets}
use Rattle.lrp_top.proofs.CanonTuples.{answers_moved, numbered}
use Rattle.lrp_top.proofs.serving.canonical_text.Goals as goal

pub canonical_within-requires : goal.canonical_within-requires
canonical_within-requires c =
    let db = c.args.question.now.database.relations in
    let q = question_of c.args.question.now.query.query in
    let steps = question_steps c.args.question.now in
    let planned = c.requires.ready.planned in
    can_be_canonical steps db q c.args.cap c.args.answer c.requires.answers planned.reach (last_wide steps db q planned.sound) c.requires.head

pub new-requires : goal.new-requires
new-requires c =
    let is : IsCanonicalOf c.args.answer.store c.in-Ok-Some.answer.store = subst (λ found. IfSome found (λ made. IsCanonicalOf c.args.answer.store made.store)) c.in-Ok-Some.field-0-is c.in-Ok-Some.ensures.store in
    is.room

pub returns-in-Ok-Some : goal.returns-in-Ok-Some
returns-in-Ok-Some c =
    let db = c.args.question.now.database.relations in
    let q = question_of c.args.question.now.query.query in
    let a = c.args.answer in
    let made = c.in-Ok-Some.answer in
    let called = c.args.name in
    let is : IsCanonicalOf a.store made.store = subst (λ found. IfSome found (λ new. IsCanonicalOf a.store new.store)) c.in-Ok-Some.field-0-is c.in-Ok-Some.ensures.store in
    let head : made.head ≡ a.head = subst (λ found. IfSome found (λ new. new.head ≡ a.head)) c.in-Ok-Some.field-0-is c.in-Ok-Some.ensures.head in
    let domain : made.domain ≡ a.domain = subst (λ found. IfSome found (λ new. new.domain ≡ a.domain)) c.in-Ok-Some.field-0-is c.in-Ok-Some.ensures.domain in
    let counted : HasStoredRows a.store (zone_count made.store) = subst (λ found. IfSome found (λ new. HasStoredRows a.store (zone_count new.store))) c.in-Ok-Some.field-0-is c.in-Ok-Some.ensures.counted in
    let few : zone_count made.store ≤ c.args.cap = subst (λ found. IfSome found (λ new. zone_count new.store ≤ c.args.cap)) c.in-Ok-Some.field-0-is c.in-Ok-Some.ensures.few in
    let one = one_column (question_steps c.args.question.now) db q c.args.cap a c.requires.answers c.requires.head in
    let same = same_sets (HoldsNumber made.store) (HoldsNumber a.store) (λ x ns h. is.same.sound _ ns h) (λ x ns h. is.same.whole _ ns h) in
    let least = period_named (HoldsNumber made.store) (HoldsNumber a.store) same made.store.period is.canonical.period in
    let sets = numbered (question_steps c.args.question.now) db q c.args.cap a c.requires.answers c.requires.valid c.requires.domain.ascends one in
    record {
      due = record {
        first = Ok tt;
        is = (zone_count made.store, count_named (HoldsNumber a.store) (HasNumber db q) sets c.floors_keep_bounds.ensures.some (zone_count made.store) counted.rows, few);
        next = record {
          column = c.requires.head;
          period = made.store.period;
          least = period_named (HoldsNumber a.store) (HasNumber db q) sets made.store.period least;
          text = subst (λ (n : Identifier). IsAnswerTextOf called made.store.period db q (named_answer_text n c.new.result.answer)) (sym c.new.ensures.name)
              (subst (λ of. IsAnswerTextOf called made.store.period db q (named_answer_text called of)) (sym c.new.ensures.answer) (c.answers_are_texts.ensures called db q made c.requires.name (record {
                store = is.canonical.valid;
                ascends = subst Ascends (sym domain) c.requires.domain.ascends;
                head = ap (λ h. h.columns) head ∙ c.requires.answers.head;
                answers = answers_moved (question_steps c.args.question.now) db q c.args.cap a c.requires.answers made head domain is.same;
                settled = is.canonical.settled;
                room = is.room;
                texts = subst (AllByRecursion IsDataText) (sym domain) c.requires.domain.whole;
                columns = c.requires.ready.head;
              })));
        };
      };
    }

pub returns-in-Ok-None : goal.returns-in-Ok-None
returns-in-Ok-None c =
    let db = c.args.question.now.database.relations in
    let q = question_of c.args.question.now.query.query in
    let a = c.args.answer in
    let one = one_column (question_steps c.args.question.now) db q c.args.cap a c.requires.answers c.requires.head in
    let more : HasMoreRows a.store c.args.cap = subst (λ found. IfNone found (HasMoreRows a.store c.args.cap)) c.in-Ok-None.field-0-is c.in-Ok-None.ensures.none in
    record {
      due = record {
        first = Err (CanonRows c.args.cap);
        is = (refl, (more.0, count_named (HoldsNumber a.store) (HasNumber db q) (numbered (question_steps c.args.question.now) db q c.args.cap a c.requires.answers c.requires.valid c.requires.domain.ascends one) c.floors_keep_bounds.ensures.some more.0 more.2.rows, more.1));
        next = refl;
      };
    }

pub returns-in-Err : goal.returns-in-Err
returns-in-Err c = record { due = record { first = Err Memory; is = tt; next = refl } }
