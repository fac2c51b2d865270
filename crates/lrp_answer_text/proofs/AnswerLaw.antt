-- The text of a settled answer is an answer text of its query.
use Rattle.std.proofs.Common.{◌≡◌, ◌∙◌, ℕ, List, [], ◌∷◌, Bool, true, false, refl, sym, ap, subst, arith}
use Rattle.std.specs.Prelude.{◌==◌, codes, AllPairs, if◌then◌else◌}
use Rattle.std.specs.FinMap as finite
use Rattle.std.specs.FinMap.{empty_of_len}
use Rattle.std.specs.List.{AllByRecursion}
use Rattle.std.proofs.lemmas.Bool.Decides.{nat_tests}
use Rattle.lrp_model.specs.AnswerTexts.{IsAnswerRelation, IsAnswerRow, IsAnswerTextOf, MayStandBeside, OfOneCell}
use Rattle.lrp_model.specs.DatabaseReading.{IsDatabase}
use Rattle.lrp_model.specs.Formulas.{Question}
use Rattle.lrp_model.specs.Names.{IsName}
use Rattle.lrp_model.specs.Sorts.{time_count}
use Rattle.lrp_model.specs.Texts.{Identifier}
use Rattle.lrp_model.specs.Printed.{relation_bytes}
use Rattle.lrp_model.specs.Rows.{Datum, times_of}
use Rattle.lrp_model.specs.Satisfaction.{IsAnswer}
use Rattle.lrp_model.specs.declared.relations.Relation.{Relation}
use Rattle.lrp_store.specs.Tables.{InAnswer}
use Rattle.lrp_answers.specs.declared.answer.Answer.{Answer}
use Rattle.lrp_store.proofs.Aligning.{nothing_held}
use Rattle.lrp_store.proofs.Emptiness.{something_held}
use Rattle.lrp_answer_text.specs.AnswerText.{named_answer_text, named_relation}
use Rattle.lrp_answer_text.specs.Answering.{AreAnswerColumns, IsSettledAnswer}
use Rattle.lrp_answer_text.proofs.AnswerBeside.{answer_beside}
use Rattle.lrp_answer_text.proofs.AnswerHolds.{answer_holds, cells_in_order, in_answer, rows_are}
use Rattle.lrp_answer_text.proofs.AnswerRead.{answer_reads}
use Rattle.lrp_answer_text.proofs.AnswerRows.{row, row_tuple}

module _ (called : Identifier) (db : List Relation) (q : Question) (a : Answer) (named : IsName called) (h : IsSettledAnswer db q a) where
  times_same : a.store.shape.times ≡ time_count q.head
  times_same = sym a.times_are ∙ ap time_count h.head

  is_relation : IsAnswerRelation called a.store.period db q (named_relation called a)
  is_relation = record {
    name = refl;
    columns = h.head;
    holds = λ tuple. (λ w. (answer_holds a h.store h.ascends called tuple).0 ((h.answers tuple).1 w), λ w. (h.answers tuple).0 ((answer_holds a h.store h.ascends called tuple).1 w));
    rows = subst (λ m. AllByRecursion (IsAnswerRow a.store.period m) (named_relation called a).rows) times_same (rows_are a h.store h.ascends);
    cells = cells_in_order a h.store h.ascends;
    beside = subst (λ m. AllPairs (λ r s. OfOneCell r s → MayStandBeside (IsAnswer db q) a.store.period m r s) (named_relation called a).rows) times_same (answer_beside a h.store h.ascends h.room (IsAnswer db q) h.answers h.settled);
  }

  kept : AreAnswerColumns a.head.columns
  kept = subst AreAnswerColumns (sym h.head) h.columns

  reads : IsDatabase (relation_bytes (named_relation called a)) (named_relation called a ∷ [])
  reads = answer_reads a h.store h.ascends h.room h.texts called named kept

  -- no cell
  empty : (finite.len a.store.tables == 0) ≡ true → named_answer_text called a ≡ codes "Empty\n"
  empty e = ap (λ b. if b then codes "Empty\n" else relation_bytes (named_relation called a)) e

  -- some cell
  full : (finite.len a.store.tables == 0) ≡ false → named_answer_text called a ≡ relation_bytes (named_relation called a)
  full e = ap (λ b. if b then codes "Empty\n" else relation_bytes (named_relation called a)) e

  -- ---- which of them it is

  zero_of : (n : ℕ) → (n == 0) ≡ true → n ≡ 0
  zero_of n e = grind (arith, nat_tests)

  some_of : (n : ℕ) → (n == 0) ≡ false → n ≡ 0 → ⊥
  some_of n e z = grind (arith, nat_tests)

  -- where no cell is held nothing is in the answer
  none_held : (finite.len a.store.tables == 0) ≡ true → (tuple : List Datum) → InAnswer a.head.columns a.domain a.store tuple → ⊥
  none_held e tuple w = nothing_held a.store (empty_of_len a.store.tables (zero_of (finite.len a.store.tables) e)) (times_of tuple) w.held.0 w.held.2

  -- where a cell is held something is
  some_held : (finite.len a.store.tables == 0) ≡ false → ((tuple : List Datum) → InAnswer a.head.columns a.domain a.store tuple → ⊥) → ⊥
  some_held e none =
      something_held a.store h.store (some_of (finite.len a.store.tables) e) (λ xs ns i.
      let r = row_tuple a h.store h.ascends i.cell i.table i.held xs i.inside in
      none r.0 (in_answer a h.store h.ascends r.0 i.cell (row a h.store h.ascends i.cell i.table i.held) (record { table = i.table; held = i.held; is = refl }) r.1))

  pub is_text : IsAnswerTextOf called a.store.period db q (named_answer_text called a)
  is_text = by (finite.len a.store.tables == 0) refl
    where
      by : (b : Bool) → (finite.len a.store.tables == 0) ≡ b → IsAnswerTextOf called a.store.period db q (named_answer_text called a)
      by true e = record { none = λ _. empty e; some = λ tuple w. absurd (none_held e tuple ((h.answers tuple).1 w)) }
      by false e = record {
        none = λ none. absurd (some_held e (λ tuple w. none tuple ((h.answers tuple).0 w)));
        some = λ tuple w. record { answer = named_relation called a; is = is_relation; layout = full e; read = subst (λ bytes. IsDatabase bytes (named_relation called a ∷ [])) (sym (full e)) reads };
      }
