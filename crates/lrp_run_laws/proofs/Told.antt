-- Runs that told the canonical answers of queries with the same answers wrote the same bytes.
use Rattle.std.proofs.Common.{◌≡◌, ℕ, List, true, subst}
use Rattle.lrp_words.specs.Commands.{FilesAsked}
use Rattle.lrp_words.specs.Commands.Task.{ask}
use Rattle.lrp_model.specs.Formulas.{Question}
use Rattle.lrp_model.specs.declared.relations.Relation.{Relation}
use Rattle.lrp_top.specs.Canonical.{IsCanonicalText}
use Rattle.lrp_top.specs.Written.{plain_by}
use Rattle.lrp_top.specs.Languages.{civil_by, language_by}
use Rattle.lrp_top.specs.declared.language.QueryLanguage.{QueryLanguage}
use Rattle.lrp_model.specs.Texts.{Identifier}
use Rattle.lrp_run_laws.specs.Contents.{Asking, Contents, contents_at, SaysQuestion, SaysRelations}
use Rattle.lrp_run_laws.specs.Reasons.{HasReasonFor, HasTaskReason, IsReason}
use Rattle.lrp_run_laws.specs.Runs.{Run, task_asked, WroteAll, WroteOutput}
use Rattle.lrp_run_laws.specs.SameAnswers.{HasToldCanonical, HaveSameAnswers, WroteAlike}
use Rattle.lrp_run_laws.proofs.Canonical.{OneAnswerText, one_canonical}
use Rattle.lrp_run_laws.proofs.Causes.{run_cause}
use Rattle.lrp_run_laws.proofs.Complete.{DatabaseTexts, QueryTexts}

-- what two files ask is one
pub asks_one : DatabaseTexts → (of : FilesAsked) → QueryTexts (language_by of) → (files : Contents) (db : List Relation) (q : Question) → SaysRelations (civil_by of) files db → SaysQuestion (language_by of) files db q → (Holds : List Relation → Question → Type 0) → Asking of files Holds → Holds db q
asks_one texts of queries files db q says said Holds h =
    let one : h.db ≡ db = texts.one (plain_by (civil_by of) files.database) h.db db h.says.is says.is in
    let again : SaysQuestion (language_by of) files db h.holds.q = subst (λ r. SaysQuestion (language_by of) files r h.holds.q) one h.holds.says in
    let same : h.holds.q ≡ q = queries.one db files.query h.holds.q q again.is said.is in
    subst (λ r. Holds r q) one (subst (Holds h.db) same h.holds.holds.holds)

-- the text of a run that told a canonical answer
record Text (run : Run) (called : Identifier) (db : List Relation) (q : Question) : Type 0 where
  bytes : List ℕ
  is : IsCanonicalText called db q bytes
  whole : WroteAll run.taken bytes

text_told : DatabaseTexts → ((language : QueryLanguage) → QueryTexts language) → (run : Run) (called : Identifier) (db : List Relation) (q : Question) → HasToldCanonical run called db q → Text run called db q
text_told texts queries run called db q h =
    let task = ask h.of h.cap true called in
    let files = contents_at h.held h.of in
    let cause : HasTaskReason task run = subst (λ t. HasReasonFor t run) h.is.spelled (run_cause (task_asked run) run h.is.may_happen.outcome h.is.may_happen.due h.is.may_happen.ends) in
    let output : WroteOutput task files run.taken =
    subst (λ ended. IsReason ended task files run.seen run.taken) h.done (subst (λ contents. IsReason run.ended task contents run.seen run.taken) (cause.told h.held h.is.told) cause.is) in
    record { bytes = output.output; is = asks_one texts h.of (queries (language_by h.of)) files db q h.relations h.question (λ r s. IsCanonicalText called r s output.output) output.is; whole = output.whole }

pub told_alike : DatabaseTexts → ((language : QueryLanguage) → QueryTexts language) → OneAnswerText → (run other : Run) (called : Identifier) (db further : List Relation) (q r : Question) → HasToldCanonical run called db q → HasToldCanonical other called further r → HaveSameAnswers db further q r → WroteAlike run other
told_alike texts queries one run other called db further q r h k same =
    let a = text_told texts queries run called db q h in
    let b = text_told texts queries other called further r k in
    let equal : a.bytes ≡ b.bytes = one_canonical one called db further q r same a.bytes b.bytes a.is b.is in
    record { text = b.bytes; written = subst (WroteAll run.taken) equal a.whole; written_again = b.whole }
