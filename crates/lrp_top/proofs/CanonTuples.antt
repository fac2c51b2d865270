-- What a store of answers holds with one time column: numbers with texts, which are the answers' own.
use Rattle.std.proofs.Common.{◌≡◌, ℕ, zero, suc, ◌+◌, ◌<◌, ◌≤◌, List, [], ◌∷◌, length, map, take, Option, Some, None, true, false, cond, Bool, bytes_eq, Less, Equal, arith, refl, sym, ap, ap₂, subst, ◌∙◌, IsSome, unwrap_or}
use Rattle.std.specs.Prelude.{ℤ, ◌↔◌, Contains, slice_get, slice_index}
use Rattle.std.specs.Cmp.Lexicographic.{bytes_decides}
use Rattle.std.specs.FinMap as finite
use Rattle.std.specs.List.{AllByRecursion}
use Rattle.std.proofs.lemmas.Cmp.{tied_itself, nat_list_cmp_total}
use Rattle.std.proofs.lemmas.List.{get_or-take, length-take-le}
use Rattle.lrp_model.specs.Formulas.{Question}
use Rattle.lrp_model.specs.Rows.{Datum, times_of, texts_of}
use Rattle.lrp_model.specs.Satisfaction.{HasShape, IsAnswer}
use Rattle.lrp_model.specs.Texts.{Text, Ascends, text_cmp}
use Rattle.lrp_model.specs.declared.relations.Relation.{Relation}
use Rattle.lrp_model.specs.declared.tuples.Cell.{Cell}
use Rattle.lrp_model.specs.declared.formulas.Head.{Head}
use Rattle.lrp_store.specs.Stores.{StoreView, HoldsJust, IsStore, InStore, tables_at}
use Rattle.lrp_store.specs.Tables.{AreTexts, InAnswer}
use Rattle.lrp_answers.specs.declared.answer.Answer.{Answer}
use Rattle.lrp_spans.specs.Groups.{HoldsNumber}
use Rattle.lrp_model.specs.Steps.{Steps}
use Rattle.lrp_eval.specs.Answered.{IsAnswerOf}
use Rattle.lrp_canon.specs.Answers.{HasNumber}
use Rattle.lrp_top.proofs.CanonSets.{IsRenamed}
use Rattle.lrp_answers.proofs.AnswerFirst.{texts_exist, length_texts, tuple_of}

-- ---- numbers of texts

-- the texts that numbers name
abbrev text_at : List Text → ℕ → Text
text_at domain n = unwrap_or (slice_get domain n) []

abbrev texts_at : List Text → List ℕ → List Text
texts_at domain ns = map (text_at domain) ns

texts_named : (domain : List Text) (ns : List ℕ) (ts : List Text) → AreTexts domain ns ts → texts_at domain ns ≡ ts
texts_named domain [] [] h = refl
texts_named domain [] (t ∷ ts) h = absurd h
texts_named domain (n ∷ ns) [] h = absurd h
texts_named domain (n ∷ ns) (t ∷ ts) h = ap₂ (λ u us. u ∷ us) (ap (λ o. unwrap_or o []) h.0) (texts_named domain ns ts h.1)

-- the numbers that texts have
abbrev number_of : List Text → Text → ℕ
number_of [] t = 0
number_of (d ∷ ds) t = cond (bytes_eq d t) 0 (suc (number_of ds t))

abbrev numbers_of : List Text → List Text → List ℕ
numbers_of domain ts = map (number_of domain) ts

-- a text comes before those after it
before_all : (d : Text) (ds : List Text) → AllByRecursion (λ u. text_cmp d u ≡ Less) ds → (m : ℕ) (t : Text) → slice_get ds m ≡ Some t → text_cmp d t ≡ Less
before_all d [] h m t e = cc
before_all d (u ∷ us) h zero t e = let same : u ≡ t = cc in subst (λ v. text_cmp d v ≡ Less) same h.0
before_all d (u ∷ us) h (suc m) t e = before_all d us h.1 m t e

-- and not before itself
not_before : (d t : Text) → d ≡ t → text_cmp d t ≡ Less → ⊥
not_before d t same less = let tied : text_cmp d t ≡ Equal = subst (λ v. text_cmp d v ≡ Equal) same (tied_itself nat_list_cmp_total d) in cc

-- so a text stands at one place
one_number : (domain : List Text) → Ascends domain → (n : ℕ) (t : Text) → slice_get domain n ≡ Some t → number_of domain t ≡ n
one_number [] a n t e = cc
one_number (d ∷ ds) a zero t e = let same : d ≡ t = cc in first (bytes_eq d t) ((bytes_decides d t).1 same)
  where
    first : (b : Bool) → b ≡ true → cond b 0 (suc (number_of ds t)) ≡ 0
    first b e = ap (λ c. cond c 0 (suc (number_of ds t))) e
one_number (d ∷ ds) a (suc n) t e = later (bytes_eq d t) refl (one_number ds a.1 n t e)
  where
    later : (b : Bool) → bytes_eq d t ≡ b → number_of ds t ≡ n → cond b 0 (suc (number_of ds t)) ≡ suc n
    later true same rest = absurd (not_before d t ((bytes_decides d t).0 same) (before_all d ds a.0 n t e))
    later false other rest = ap suc rest

numbers_are : (domain : List Text) → Ascends domain → (ns : List ℕ) (ts : List Text) → AreTexts domain ns ts → numbers_of domain ts ≡ ns
numbers_are domain a [] [] h = refl
numbers_are domain a [] (t ∷ ts) h = absurd h
numbers_are domain a (n ∷ ns) [] h = absurd h
numbers_are domain a (n ∷ ns) (t ∷ ts) h = ap₂ (λ m ms. m ∷ ms) (one_number domain a n t h.0) (numbers_are domain a ns ts h.1)

-- ---- a tuple in head order

-- ---- the numbers of a held cell

-- a cell with some table is held, with tables
held_some : (s : StoreView) (cell : Cell) (table : List (Option ℤ)) → Contains (tables_at s cell) table → (tables : List (List (Option ℤ))) × (finite.get s.tables cell ≡ Some tables)
held_some s cell table held = by (finite.get s.tables cell) refl held
  where
    by : (o : Option (List (List (Option ℤ)))) → finite.get s.tables cell ≡ o → Contains (unwrap_or o []) table → (tables : List (List (Option ℤ))) × (finite.get s.tables cell ≡ Some tables)
    by None e c = absurd (omega (arith, c.1))
    by (Some tables) e c = (tables, e)

module _ (steps : Steps) (db : List Relation) (q : Question) (cap : ℕ) (a : Answer) (answered : IsAnswerOf steps db q cap a) (valid : IsStore a.store) (ascends : Ascends a.domain) (column : a.store.shape.times ≡ 1) where
  -- what the store holds has texts
  held_texts : (x : ℤ) (ns : List ℕ) → HoldsNumber a.store x ns → (ts : List Text) × AreTexts a.domain ns ts
  held_texts x ns h =
      let s = a.store in
      let found = held_some s h.cell h.table h.held in
      let proper = (valid.cells h.cell found.0 found.1).proper in
      let few : s.shape.texts ≤ 8 = valid.texts in
      let size : length h.cell.texts ≡ 8 = proper.texts.size in
      let counted : length (take s.shape.texts h.cell.texts) ≡ s.shape.texts = length-take-le s.shape.texts h.cell.texts (omega arith) in
      let count : length ns ≡ s.shape.texts = ap length (sym h.named) ∙ counted in
      let some : IsSome (finite.get s.tables h.cell) = subst (λ o. IsSome o) (sym found.1) refl in
      texts_exist a.domain ns (λ i l.
      let low : i < s.shape.texts = omega arith in
      subst (λ n. n < length a.domain) (sym (get_or-take s.shape.texts h.cell.texts i 0 low) ∙ ap (λ ms. slice_index ms i) h.named) (a.numbered h.cell i some low))

  held_count : (x : ℤ) (ns : List ℕ) → HoldsNumber a.store x ns → length ns ≡ a.store.shape.texts
  held_count x ns h =
      let s = a.store in
      let found = held_some s h.cell h.table h.held in
      let few : s.shape.texts ≤ 8 = valid.texts in
      let size : length h.cell.texts ≡ 8 = (valid.cells h.cell found.0 found.1).proper.texts.size in
      ap length (sym h.named) ∙ length-take-le s.shape.texts h.cell.texts (omega arith)

  -- and is the number of an answer
  number_to : (x : ℤ) (ns : List ℕ) → HoldsNumber a.store x ns → HasNumber db q x (texts_at a.domain ns)
  number_to x ns h =
      let texts = held_texts x ns h in
      let many : length texts.0 ≡ length ns = length_texts a.domain ns texts.0 texts.1 in
      let count : length ns ≡ a.store.shape.texts = held_count x ns h in
      let columns : length a.head.columns ≡ a.store.shape.times + a.store.shape.texts = a.columns_are in
      let made = tuple_of a.head.columns (x ∷ []) texts.0 (a.times_are ∙ column) (omega arith) in
      record {
        tuple = made.0;
        is = (answered.answers made.0).0 (record {
          shape = made.1.shape;
          held = (ns, subst (AreTexts a.domain ns) (sym made.1.texts) texts.1, subst (λ xs. InStore a.store xs ns) (sym made.1.times) h);
        });
        time = made.1.times;
        named = made.1.texts ∙ sym (texts_named a.domain ns texts.0 texts.1);
      }

  -- an answer has numbers that name its texts
  held_numbers : (x : ℤ) (ts : List Text) → HasNumber db q x ts → (ns : List ℕ) × AreTexts a.domain ns ts × HoldsNumber a.store x ns
  held_numbers x ts h =
      let held = ((answered.answers h.tuple).1 h.is).held in
      (held.0, subst (AreTexts a.domain held.0) h.named held.1, subst (λ xs. InStore a.store xs held.0) h.time held.2)

  number_from : (x : ℤ) (ts : List Text) → HasNumber db q x ts → HoldsNumber a.store x (numbers_of a.domain ts)
  number_from x ts h = let held = held_numbers x ts h in subst (HoldsNumber a.store x) (sym (numbers_are a.domain ascends held.0 ts held.1)) held.2

  -- so the store's set is that of the answers, with numbers for texts
  pub numbered : IsRenamed (HoldsNumber a.store) (HasNumber db q)
  numbered = record {
    named = texts_at a.domain;
    back = numbers_of a.domain;
    to = number_to;
    from = number_from;
    again = λ x ns h. let texts = held_texts x ns h in ap (numbers_of a.domain) (texts_named a.domain ns texts.0 texts.1) ∙ numbers_are a.domain ascends ns texts.0 texts.1;
    there = λ x ts h. let held = held_numbers x ts h in ap (texts_at a.domain) (numbers_are a.domain ascends held.0 ts held.1) ∙ texts_named a.domain held.0 ts held.1;
  }

-- a store of the same set has the same answers
pub answers_moved : (steps : Steps) (db : List Relation) (q : Question) (cap : ℕ) (a : Answer) → IsAnswerOf steps db q cap a → (made : Answer) → made.head ≡ a.head → made.domain ≡ a.domain → HoldsJust (InStore a.store) made.store → (tuple : List Datum) → InAnswer made.head.columns made.domain made.store tuple ↔ IsAnswer db q tuple
answers_moved steps db q cap a answered made head domain same tuple = (
  (λ h. (answered.answers tuple).0 (record {
    shape = subst (λ (k : Head). HasShape k.columns tuple) head h.shape;
    held = (h.held.0, subst (λ (d : List Text). AreTexts d h.held.0 (texts_of tuple)) domain h.held.1, same.sound (times_of tuple) h.held.0 h.held.2);
  })),
  (λ w.
      let h = (answered.answers tuple).1 w in
      record {
        shape = subst (λ (k : Head). HasShape k.columns tuple) (sym head) h.shape;
        held = (h.held.0, subst (λ (d : List Text). AreTexts d h.held.0 (texts_of tuple)) (sym domain) h.held.1, same.whole (times_of tuple) h.held.0 h.held.2);
      }),
)
