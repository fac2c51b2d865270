-- The bytes of a canonical answer depend on the head and the answers alone.
use Rattle.std.proofs.Common.{◌≡◌, ◌↔◌, ◌≤◌, ℕ, List, refl, sym, subst, arith}
use Rattle.std.specs.Prelude.{ℤ}
use Rattle.lrp_model.specs.AnswerTexts.{IsAnswerTextOf}
use Rattle.lrp_model.specs.Formulas.{Question}
use Rattle.lrp_model.specs.Rows.{Tuple}
use Rattle.lrp_model.specs.Sorts.{time_count}
use Rattle.lrp_model.specs.Satisfaction.{IsAnswer}
use Rattle.lrp_model.specs.Texts.{Identifier, Text}
use Rattle.lrp_model.specs.declared.relations.Relation.{Relation}
use Rattle.lrp_canon.specs.Rows.{IsLeastPeriod, IsSetOfRows}
use Rattle.lrp_canon.specs.Answers.{HasNumber}
use Rattle.lrp_top.specs.Canonical.{HasCanonicalRows, IsCanonicalText}
use Rattle.lrp_run_laws.specs.SameAnswers.{HaveSameAnswers}

-- ---- what is known of canonical answers

-- a query has one number of canonical rows
abbrev pub OneRowCount : Type 0
OneRowCount = (db : List Relation) (q : Question) (n m : ℕ) → HasCanonicalRows db q n → HasCanonicalRows db q m → n ≡ m

-- queries with one head, one time column and the same answers have one text in rows of a period
abbrev pub OneAnswerText : Type 0
OneAnswerText = (K : ℕ) (called : Identifier) (db further : List Relation) (q r : Question) (bytes other : List ℕ) → q.head ≡ r.head → time_count q.head ≡ 1 → ((tuple : Tuple) → IsAnswer db q tuple ↔ IsAnswer further r tuple)
    → IsAnswerTextOf called K db q bytes → IsAnswerTextOf called K further r other → bytes ≡ other

-- ---- queries with the same answers

-- a query has the answers that it has
pub own_answers : (db : List Relation) (q : Question) → HaveSameAnswers db db q q
own_answers db q = record { head = refl; answers = λ tuple. (λ a. a, λ a. a) }

turned : (db further : List Relation) (q r : Question) → HaveSameAnswers db further q r → HaveSameAnswers further db r q
turned db further q r same = record { head = sym same.head; answers = λ tuple. ((same.answers tuple).1, (same.answers tuple).0) }

number_moved : (db further : List Relation) (q r : Question) → HaveSameAnswers db further q r → (x : ℤ) (ts : List Text) → HasNumber db q x ts → HasNumber further r x ts
number_moved db further q r same x ts h = record { tuple = h.tuple; is = (same.answers h.tuple).0 h.is; time = h.time; named = h.named }

rows_moved : (db further : List Relation) (q r : Question) → HaveSameAnswers db further q r → (period : ℕ) → IsSetOfRows (HasNumber db q) period → IsSetOfRows (HasNumber further r) period
rows_moved db further q r same period h = record {
  positive = h.positive;
  rows = h.rows;
  sound = λ x ts s. number_moved db further q r same x ts (h.sound x ts s);
  whole = λ x ts n. h.whole x ts (number_moved further db r q (turned db further q r same) x ts n);
}

-- ---- their texts

one_period : (db further : List Relation) (q r : Question) → HaveSameAnswers db further q r → (period other : ℕ) → IsLeastPeriod (HasNumber db q) period → IsLeastPeriod (HasNumber further r) other → period ≡ other
one_period db further q r same period other h k =
    let low : period ≤ other = h.least other (rows_moved further db r q (turned db further q r same) other k.is) in
    let high : other ≤ period = k.least period (rows_moved db further q r same period h.is) in
    omega arith

pub one_canonical : OneAnswerText → (called : Identifier) (db further : List Relation) (q r : Question) → HaveSameAnswers db further q r → (bytes other : List ℕ) → IsCanonicalText called db q bytes → IsCanonicalText called further r other → bytes ≡ other
one_canonical one called db further q r same bytes other h k =
    let period : h.period ≡ k.period = one_period db further q r same h.period k.period h.least k.least in
    one k.period called db further q r bytes other same.head h.column same.answers (subst (λ K. IsAnswerTextOf called K db q bytes) period h.text) k.text
