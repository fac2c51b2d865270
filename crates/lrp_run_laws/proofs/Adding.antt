-- The numbers of two windows add up to that of the window that they make up.
use Rattle.std.proofs.Common.{◌≡◌, ℕ, ◌+◌, List, subst}
use Rattle.std.specs.Prelude.{ℤ, pos, ◌≤ℤ◌, ◌+ℤ◌}
use Rattle.lrp_words.specs.Commands.Task.{count}
use Rattle.lrp_count.specs.Numbers.{HasSize}
use Rattle.lrp_count.specs.Ranges.{InWindowOf}
use Rattle.lrp_model.specs.Formulas.{Question}
use Rattle.lrp_model.specs.Satisfaction.{IsAnswer}
use Rattle.lrp_model.specs.Sorts.{time_count}
use Rattle.lrp_model.specs.declared.relations.Relation.{Relation}
use Rattle.lrp_outputs.specs.RangeLines.{count_line}
use Rattle.lrp_top.specs.Telling.{TellsNumber}
use Rattle.lrp_top.specs.Languages.{language_by}
use Rattle.lrp_top.specs.declared.language.QueryLanguage.{QueryLanguage}
use Rattle.lrp_run_laws.specs.Contents.{contents_at}
use Rattle.lrp_run_laws.specs.Numbers.{HasToldNumber, HaveAddedUp}
use Rattle.lrp_run_laws.specs.Reasons.{HasReasonFor, HasTaskReason, IsReason}
use Rattle.lrp_run_laws.specs.Runs.{Run, task_asked, WroteAll, WroteOutput}
use Rattle.lrp_run_laws.proofs.Alike.{OneSize}
use Rattle.lrp_run_laws.proofs.Causes.{run_cause}
use Rattle.lrp_run_laws.proofs.Complete.{DatabaseTexts, QueryTexts}
use Rattle.lrp_run_laws.proofs.Told.{asks_one}

-- the number of two windows side by side is the sum
abbrev SizesAdd : Type 0
SizesAdd = (db : List Relation) (q : Question) (from middle to : ℤ) (size other : ℕ) → time_count q.head ≡ 1 → from ≤ℤ middle → middle ≤ℤ to
    → HasSize (InWindowOf (IsAnswer db q) from middle) size → HasSize (InWindowOf (IsAnswer db q) (middle +ℤ pos 1) to) other → HasSize (InWindowOf (IsAnswer db q) from to) (size + other)

-- the number that a run told
record Number (run : Run) (db : List Relation) (q : Question) (from to : ℤ) : Type 0 where
  number : ℕ
  is : HasSize (InWindowOf (IsAnswer db q) from to) number
  whole : WroteAll run.taken (count_line number)

number_told : DatabaseTexts → ((language : QueryLanguage) → QueryTexts language) → (run : Run) (db : List Relation) (q : Question) (from to : ℤ) → HasToldNumber run db q from to → Number run db q from to
number_told texts queries run db q from to h =
    let task = count h.of from to h.cap in
    let files = contents_at h.held h.of in
    let cause : HasTaskReason task run = subst (λ t. HasReasonFor t run) h.is.spelled (run_cause (task_asked run) run h.is.may_happen.outcome h.is.may_happen.due h.is.may_happen.ends) in
    let output : WroteOutput task files run.taken =
    subst (λ ended. IsReason ended task files run.seen run.taken) h.done (subst (λ contents. IsReason run.ended task contents run.seen run.taken) (cause.told h.held h.is.told) cause.is) in
    let told : TellsNumber db q from to output.output = asks_one texts h.of (queries (language_by h.of)) files db q h.relations h.question (λ r s. TellsNumber r s from to output.output) output.is in
    record { number = told.number; is = told.is; whole = subst (WroteAll run.taken) told.spelled output.whole }

pub added_up : DatabaseTexts → ((language : QueryLanguage) → QueryTexts language) → OneSize → SizesAdd → (one next whole : Run) (db : List Relation) (q : Question) (from middle to : ℤ) → time_count q.head ≡ 1 → from ≤ℤ middle → middle ≤ℤ to
    → HasToldNumber one db q from middle → HasToldNumber next db q (middle +ℤ pos 1) to → HasToldNumber whole db q from to → HaveAddedUp one next whole
added_up texts queries unique add one next whole db q from middle to column low high h k l =
    let a = number_told texts queries one db q from middle h in
    let b = number_told texts queries next db q (middle +ℤ pos 1) to k in
    let c = number_told texts queries whole db q from to l in
    let same : c.number ≡ a.number + b.number = unique db q from to c.number (a.number + b.number) c.is (add db q from middle to a.number b.number column low high a.is b.is) in
    record { first = a.number; second = b.number; written = a.whole; written_next = b.whole; written_whole = subst (λ n. WroteAll whole.taken (count_line n)) same c.whole }
