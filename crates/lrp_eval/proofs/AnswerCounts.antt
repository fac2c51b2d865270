-- The number of answers in a window is the length of its page that has no more left.
use Rattle.std.proofs.Common.{◌≡◌, ◌≤◌, ◌<◌, ◌+◌, ℕ, true, false, List, [], ◌∷◌, length, None, Ordering, Less, Equal, Greater, refl, sym, ap, ◌∙◌, inl, inr, arith}
use Rattle.std.specs.Prelude.{ℤ}
use Rattle.std.specs.Ordering.{ordering_reverse}
use Rattle.std.proofs.lemmas.Bool.{cases_lt}
use Rattle.lrp_model.specs.Steps.{Steps}
use Rattle.lrp_model.specs.Formulas.{Question}
use Rattle.lrp_model.specs.Satisfaction.{IsAnswer}
use Rattle.lrp_model.specs.Order.{tuple_cmp, Before}
use Rattle.lrp_model.specs.Pages.{ComesAfter, last_of, AfterAll, Rises, IsAhead, IsPage}
use Rattle.lrp_model.specs.Rows.{Tuple}
use Rattle.lrp_model.specs.declared.relations.Relation.{Relation}
use Rattle.lrp_model.proofs.Resume.{tuples_total, before_trans}
use Rattle.lrp_model.proofs.Unique.{one_page, exact_answers}
use Rattle.lrp_eval.specs.Counts.{HasCells, HasAnswerCount}
use Rattle.lrp_eval.proofs.Named.{all_of}
use Rattle.lrp_plan_laws.proofs.Members.{all_by}

not_before : (o : Ordering) → o ≡ ordering_reverse o → o ≡ Less → ⊥
not_before Less e h = cc
not_before Equal e h = cc
not_before Greater e h = cc

itself : (t : Tuple) → Before t t → ⊥
itself t h = not_before (tuple_cmp t t) (tuples_total.antisymm t t) h

-- what comes after the last entry of a page comes after each
after_all : (page : List Tuple) (t : Tuple) → Rises page → ComesAfter (last_of page) t → AfterAll page t
after_all [] t rises later = tt
after_all (u ∷ []) t rises later = (later, tt)
after_all (u ∷ v ∷ vs) t rises later = let rest = after_all (v ∷ vs) t rises.1 later in (before_trans u v t rises.0.0 rest.0, rest)

module _ (db : List Relation) (q : Question) (from to : ℤ) where
  -- a page with no more left has all answers of the window
  pub page_counts : (limit : ℕ) (page : List Tuple) → IsPage (IsAnswer db q) from to None limit page false → HasAnswerCount db q from to (length page)
  page_counts limit page is = record {
    listed = page;
    rises = is.rises;
    just = λ t. (
      (λ c. let due : IsAhead (IsAnswer db q) from to None t = all_of (IsAhead (IsAnswer db q) from to None) page t is.due c in (due.is, due.inside)),
      λ a. let due : IsAhead (IsAnswer db q) from to None t = record { is = a.0; inside = a.1; later = tt } in is.whole t due (λ later. let more : false ≡ true = is.more_is.1 (t, due, after_all page t is.rises later) in cc),
    );
    size = refl;
  }

  -- and a count is that of such a page
  page_of : (count : ℕ) (h : HasAnswerCount db q from to count) (limit : ℕ) → count ≤ limit → IsPage (IsAnswer db q) from to None limit h.listed false
  page_of count h limit low = record {
    rises = h.rises;
    due = all_by (IsAhead (IsAnswer db q) from to None) h.listed (λ t c. let a = (h.just t).0 c in record { is = a.0; inside = a.1; later = tt });
    whole = λ t due n. (h.just t).1 (due.is, due.inside);
    more_is = ((λ more. cc), λ x. absurd (itself x.0 (all_of (λ u. Before u x.0) h.listed x.0 x.2 ((h.just x.0).1 (x.1.is, x.1.inside)))));
    short = let n = h.size in omega (arith, n);
    full = λ more. cc;
  }

  -- there is one number of answers
  pub one_answer_count : (m n : ℕ) → HasAnswerCount db q from to m → HasAnswerCount db q from to n → m ≡ n
  one_answer_count m n a b =
      let same : a.listed ≡ b.listed = (one_page (IsAnswer db q) from to (exact_answers db q) None (m + n) a.listed b.listed false false (page_of m a (m + n) (omega arith)) (page_of n b (m + n) (omega arith))).0 in
      sym a.size ∙ ap length same ∙ b.size

-- and one number of cells
pub one_cell_count : (planned : Steps) (db : List Relation) (q : Question) (s m n : ℕ) → HasCells planned db q s m → HasCells planned db q s n → m ≡ n
one_cell_count planned db q s m n a b =
    let low : m ≤ n = no_more m n a b in
    let high : n ≤ m = no_more n m b a in
    omega arith
  where
    no_more : (m n : ℕ) → HasCells planned db q s m → HasCells planned db q s n → m ≤ n
    no_more m n a b = elim (cases_lt n m) [
      | inl more ↦ absurd (let l : n < n = (b n).0 ((a n).1 more) in omega (arith, l))
      | inr le ↦ le
    ]
