-- What the terms of a use bring, column by column.
use Rattle.std.proofs.Common.{◌≡◌, ℕ, zero, suc, ◌+◌, ◌≤◌, min, Bool, true, false, cond, Option, Some, None, List, [], ◌∷◌, ◌++◌, map, length, drop, refl, ap, ap₂, sym, subst, ◌∙◌, append-nil, arith, rules, tests, leb, ◌<◌}
use Rattle.std.proofs.lemmas.List.{drop_all}
use Rattle.lrp_model.specs.RawQueries.{RawForm, raw_compare, raw_form_of}
use Rattle.lrp_model.specs.Texts.{Identifier}
use Rattle.lrp_model.specs.declared.formulas.Op.TheVariants.{Eq}
use Rattle.lrp_model.specs.declared.raw.RawColumn.{RawColumn}
use Rattle.lrp_model.specs.declared.raw.RawTerm.{RawTerm}
use Rattle.lrp_model.specs.declared.relations.Column.{Column}
use Rattle.lrp_model.specs.declared.tokens.Place.{Place}
use Rattle.lrp_tense.specs.Expanding.{name_term}
use Rattle.lrp_wide.specs.Inlining.{Passed, UseSetting, column_added, compared_columns, equal, inner_name, itself, pass_variable, passed, set_term, star_columns, star_total, star_variable, plain_variable}
use Rattle.lrp_wide.specs.Inside.{AreArguments, IsArgumentCompared, IsItself, IsStar, comparisons_of}
use Rattle.lrp_wide.specs.Meaning.{is_star}
use Rattle.lrp_wide.specs.Settings.{IsPassedToo, passed_of}
use Rattle.lrp_wide.specs.declared.atoms.Met.{Met}
use Rattle.lrp_wide.specs.declared.passing.Arguments.{Arguments}
use Rattle.lrp_wide.specs.declared.uses.Passed.{Passed as PassedOf}
use Rattle.lrp_wide.proofs.InlineNames.{passed_next}
use Rattle.lrp_wide.proofs.InlineTerms.{all_done, none_done, one_done}

module _ (s : UseSetting) (p : Place) (k : ℕ) (cs : List Column) (ts : List RawTerm) where
  -- the columns from i on, where the next `*` has number j
  abbrev pub left_at : ℕ → ℕ → List Passed
  left_at i j = passed s p k j (drop i cs) (drop i ts)

  abbrev pub all_passed : List Passed
  all_passed = passed s p k (suc k) cs ts

  -- what the first columns bring
  pub record ArePassed (i : ℕ) (made : Arguments) : Type 0 where
    pub next : made.next + star_total (drop i cs) (drop i ts) ≡ suc k + star_total cs ts
    pub stars : made.stars.items ++ star_columns p made.next (drop i cs) (drop i ts) ≡ star_columns p (suc k) cs ts
    pub columns : made.columns.items ++ compared_columns (left_at i made.next) ≡ compared_columns all_passed
    pub comparisons : map raw_form_of made.comparisons.items ++ comparisons_of p (left_at i made.next) ≡ comparisons_of p all_passed
    pub passed : (more : List PassedOf) → passed_of (left_at i made.next) more → passed_of all_passed (made.passed.items ++ more)

  -- none yet
  pub passed-begun : (made : Arguments) → made.next ≡ k + 1 → made.stars.items ≡ [] → made.columns.items ≡ [] → made.comparisons.items ≡ [] → made.passed.items ≡ [] → ArePassed 0 made
  passed-begun made en es ec eo ep =
      let next : made.next ≡ suc k = omega (arith, en) in
      record {
        next = omega (arith, next);
        stars = ap₂ (λ x n. x ++ star_columns p n cs ts) es next;
        columns = ap₂ (λ x n. x ++ compared_columns (passed s p k n cs ts)) ec next;
        comparisons = ap₂ (λ x n. map raw_form_of x ++ comparisons_of p (passed s p k n cs ts)) eo next;
        passed = λ more l. subst (λ x. passed_of all_passed (x ++ more)) (sym ep) (subst (λ n. passed_of (passed s p k n cs ts) more) next l);
      }

  module _ (i : ℕ) (c : Column) (t : RawTerm) (dc : drop i cs ≡ c ∷ drop (i + 1) cs) (dt : drop i ts ≡ t ∷ drop (i + 1) ts) where
    -- one column and the others
    here : (j : ℕ) → left_at i j ≡ cond (is_star t) (itself c.name (star_variable j) ∷ left_at (i + 1) (suc j)) (pass_variable s p k c t (plain_variable t.kind) ∷ left_at (i + 1) j)
    here j = ap₂ (passed s p k j) dc dt

    total_here : star_total (drop i cs) (drop i ts) ≡ cond (is_star t) (suc (star_total (drop (i + 1) cs) (drop (i + 1) ts))) (star_total (drop (i + 1) cs) (drop (i + 1) ts))
    total_here = ap₂ star_total dc dt

    columns_here : (j : ℕ) → star_columns p j (drop i cs) (drop i ts) ≡ cond (is_star t) (column_added p (star_variable j) c.sort ∷ star_columns p (suc j) (drop (i + 1) cs) (drop (i + 1) ts)) (star_columns p j (drop (i + 1) cs) (drop (i + 1) ts))
    columns_here j = ap₂ (star_columns p j) dc dt

    -- a column whose term is a `*`
    pub passed-star : (old new : Arguments) → is_star t ≡ true → IsStar old p c new → ArePassed i old → ArePassed (i + 1) new
    passed-star old new e a h =
        let j : ℕ = old.next in
        let left : left_at i j ≡ itself c.name (star_variable j) ∷ left_at (i + 1) (suc j) = here j ∙ ap (λ b. cond b (itself c.name (star_variable j) ∷ left_at (i + 1) (suc j)) (pass_variable s p k c t (plain_variable t.kind) ∷ left_at (i + 1) j)) e in
        let total : star_total (drop i cs) (drop i ts) ≡ suc (star_total (drop (i + 1) cs) (drop (i + 1) ts)) = total_here ∙ ap (λ b. cond b (suc (star_total (drop (i + 1) cs) (drop (i + 1) ts))) (star_total (drop (i + 1) cs) (drop (i + 1) ts))) e in
        let binders : star_columns p j (drop i cs) (drop i ts) ≡ column_added p (star_variable j) c.sort ∷ star_columns p (suc j) (drop (i + 1) cs) (drop (i + 1) ts) = columns_here j ∙ ap (λ b. cond b (column_added p (star_variable j) c.sort ∷ star_columns p (suc j) (drop (i + 1) cs) (drop (i + 1) ts)) (star_columns p j (drop (i + 1) cs) (drop (i + 1) ts))) e in
        let stars : (old.stars.items ++ column_added p (star_variable j) c.sort ∷ []) ++ star_columns p (suc j) (drop (i + 1) cs) (drop (i + 1) ts) ≡ star_columns p (suc k) cs ts = one_done old.stars.items _ _ _ _ binders h.stars in
        let columns : old.columns.items ++ compared_columns (left_at (i + 1) (suc j)) ≡ compared_columns all_passed = none_done old.columns.items _ _ _ (ap compared_columns left) h.columns in
        let comparisons : map raw_form_of old.comparisons.items ++ comparisons_of p (left_at (i + 1) (suc j)) ≡ comparisons_of p all_passed = none_done (map raw_form_of old.comparisons.items) _ _ _ (ap (comparisons_of p) left) h.comparisons in
        record {
          next = ap (λ n. n + star_total (drop (i + 1) cs) (drop (i + 1) ts)) a.next ∙ omega (arith, total, h.next);
          stars = ap₂ (λ x n. x ++ star_columns p n (drop (i + 1) cs) (drop (i + 1) ts)) a.stars a.next ∙ stars;
          columns = ap₂ (λ x n. x ++ compared_columns (left_at (i + 1) n)) a.columns a.next ∙ columns;
          comparisons = ap₂ (λ x n. x ++ comparisons_of p (left_at (i + 1) n)) a.comparisons a.next ∙ comparisons;
          passed = λ more l. passed_next c.name (star_variable j) (left_at (i + 1) (suc j)) all_passed old.passed.items new.passed.items more a.passed (λ m q. h.passed m (subst (λ x. passed_of x m) (sym left) q)) (subst (λ n. passed_of (left_at (i + 1) n) more) a.next l);
        }

    -- a column whose term is a variable
    pub passed-itself : (old new : Arguments) (v : Identifier) → is_star t ≡ false → plain_variable t.kind ≡ Some v → IsItself old c (s.name v) new → ArePassed i old → ArePassed (i + 1) new
    passed-itself old new v e w a h =
        let j : ℕ = old.next in
        let left : left_at i j ≡ itself c.name (s.name v) ∷ left_at (i + 1) j = here j ∙ ap₂ (λ b o. cond b (itself c.name (star_variable j) ∷ left_at (i + 1) (suc j)) (pass_variable s p k c t o ∷ left_at (i + 1) j)) e w in
        let total : star_total (drop i cs) (drop i ts) ≡ star_total (drop (i + 1) cs) (drop (i + 1) ts) = total_here ∙ ap (λ b. cond b (suc (star_total (drop (i + 1) cs) (drop (i + 1) ts))) (star_total (drop (i + 1) cs) (drop (i + 1) ts))) e in
        let binders : star_columns p j (drop i cs) (drop i ts) ≡ star_columns p j (drop (i + 1) cs) (drop (i + 1) ts) = columns_here j ∙ ap (λ b. cond b (column_added p (star_variable j) c.sort ∷ star_columns p (suc j) (drop (i + 1) cs) (drop (i + 1) ts)) (star_columns p j (drop (i + 1) cs) (drop (i + 1) ts))) e in
        let stars : old.stars.items ++ star_columns p j (drop (i + 1) cs) (drop (i + 1) ts) ≡ star_columns p (suc k) cs ts = none_done old.stars.items _ _ _ binders h.stars in
        let columns : old.columns.items ++ compared_columns (left_at (i + 1) j) ≡ compared_columns all_passed = none_done old.columns.items _ _ _ (ap compared_columns left) h.columns in
        let comparisons : map raw_form_of old.comparisons.items ++ comparisons_of p (left_at (i + 1) j) ≡ comparisons_of p all_passed = none_done (map raw_form_of old.comparisons.items) _ _ _ (ap (comparisons_of p) left) h.comparisons in
        record {
          next = ap (λ n. n + star_total (drop (i + 1) cs) (drop (i + 1) ts)) a.next ∙ omega (arith, total, h.next);
          stars = ap₂ (λ x n. x ++ star_columns p n (drop (i + 1) cs) (drop (i + 1) ts)) a.stars a.next ∙ stars;
          columns = ap₂ (λ x n. x ++ compared_columns (left_at (i + 1) n)) a.columns a.next ∙ columns;
          comparisons = ap₂ (λ x n. x ++ comparisons_of p (left_at (i + 1) n)) a.comparisons a.next ∙ comparisons;
          passed = λ more l. passed_next c.name (s.name v) (left_at (i + 1) j) all_passed old.passed.items new.passed.items more a.passed (λ m q. h.passed m (subst (λ x. passed_of x m) (sym left) q)) (subst (λ n. passed_of (left_at (i + 1) n) more) a.next l);
        }

    -- a column that is compared with its term
    pub passed-compared : (old new : Arguments) (b : RawColumn) (u : RawTerm) → is_star t ≡ false → plain_variable t.kind ≡ None → b ≡ column_added p (inner_name k c.name) c.sort → u ≡ set_term s t → IsArgumentCompared old b u new → ArePassed i old → ArePassed (i + 1) new
    passed-compared old new b u e w eb eu a h =
        let j : ℕ = old.next in
        let left : left_at i j ≡ equal (column_added p (inner_name k c.name) c.sort) c.name (set_term s t) ∷ left_at (i + 1) j = here j ∙ ap₂ (λ x o. cond x (itself c.name (star_variable j) ∷ left_at (i + 1) (suc j)) (pass_variable s p k c t o ∷ left_at (i + 1) j)) e w in
        let total : star_total (drop i cs) (drop i ts) ≡ star_total (drop (i + 1) cs) (drop (i + 1) ts) = total_here ∙ ap (λ x. cond x (suc (star_total (drop (i + 1) cs) (drop (i + 1) ts))) (star_total (drop (i + 1) cs) (drop (i + 1) ts))) e in
        let binders : star_columns p j (drop i cs) (drop i ts) ≡ star_columns p j (drop (i + 1) cs) (drop (i + 1) ts) = columns_here j ∙ ap (λ x. cond x (column_added p (star_variable j) c.sort ∷ star_columns p (suc j) (drop (i + 1) cs) (drop (i + 1) ts)) (star_columns p j (drop (i + 1) cs) (drop (i + 1) ts))) e in
        let stars : old.stars.items ++ star_columns p j (drop (i + 1) cs) (drop (i + 1) ts) ≡ star_columns p (suc k) cs ts = none_done old.stars.items _ _ _ binders h.stars in
        let columns : (old.columns.items ++ column_added p (inner_name k c.name) c.sort ∷ []) ++ compared_columns (left_at (i + 1) j) ≡ compared_columns all_passed = one_done old.columns.items _ _ _ _ (ap compared_columns left) h.columns in
        let comparisons : (map raw_form_of old.comparisons.items ++ raw_compare p (name_term p (inner_name k c.name)) Eq (set_term s t) ∷ []) ++ comparisons_of p (left_at (i + 1) j) ≡ comparisons_of p all_passed =
        one_done (map raw_form_of old.comparisons.items) _ _ _ _ (ap (comparisons_of p) left) h.comparisons in
        record {
          next = ap (λ n. n + star_total (drop (i + 1) cs) (drop (i + 1) ts)) a.next ∙ omega (arith, total, h.next);
          stars = ap₂ (λ x n. x ++ star_columns p n (drop (i + 1) cs) (drop (i + 1) ts)) a.stars a.next ∙ stars;
          columns = ap₂ (λ x n. x ++ compared_columns (left_at (i + 1) n)) (a.columns ∙ ap (λ x. old.columns.items ++ x ∷ []) eb) a.next ∙ columns;
          comparisons = ap₂ (λ x n. x ++ comparisons_of p (left_at (i + 1) n)) (a.comparisons ∙ ap₂ (λ x y. map raw_form_of old.comparisons.items ++ raw_compare x.place (name_term x.place x.name) Eq y ∷ []) eb eu) a.next ∙ comparisons;
          passed = λ more l. subst (λ x. passed_of all_passed (x ++ more)) (sym a.passed) (h.passed more (subst (λ x. passed_of x more) (sym left) (subst (λ n. passed_of (left_at (i + 1) n) more) a.next l)));
        }

  none_without : (j : ℕ) (ds : List Column) → passed s p k j ds [] ≡ []
  none_without j [] = refl
  none_without j (d ∷ ds) = refl

  columns_without : (j : ℕ) (ds : List Column) → star_columns p j ds [] ≡ []
  columns_without j [] = refl
  columns_without j (d ∷ ds) = refl

  total_without : (ds : List Column) → star_total ds [] ≡ 0
  total_without [] = refl
  total_without (d ∷ ds) = refl

  -- nothing is left
  pub record AreOver (i j : ℕ) : Type 0 where
    pub total : star_total (drop i cs) (drop i ts) ≡ 0
    pub columns : star_columns p j (drop i cs) (drop i ts) ≡ []
    pub left : left_at i j ≡ []

  pub over-columns : (i j : ℕ) → length cs ≤ i → AreOver i j
  over-columns i j le =
      let e : drop i cs ≡ [] = drop_all i cs le in
      record {
        total = ap (λ x. star_total x (drop i ts)) e;
        columns = ap (λ x. star_columns p j x (drop i ts)) e;
        left = ap (λ x. passed s p k j x (drop i ts)) e;
      }

  pub over-terms : (i j : ℕ) → length ts ≤ i → AreOver i j
  over-terms i j le =
      let e : drop i ts ≡ [] = drop_all i ts le in
      record {
        total = ap (star_total (drop i cs)) e ∙ total_without (drop i cs);
        columns = ap (star_columns p j (drop i cs)) e ∙ columns_without j (drop i cs);
        left = ap (passed s p k j (drop i cs)) e ∙ none_without j (drop i cs);
      }

  over_by : (i j : ℕ) (b : Bool) → leb (length cs) i ≡ b → min (length cs) (length ts) ≤ i → AreOver i j
  over_by i j true e le = over-columns i j (search (rules, tests))
  over_by i j false e le = over-terms i j (let lt : i < length cs = search (rules, tests) in omega (arith, lt, le))

  pub are_over : (i j : ℕ) → min (length cs) (length ts) ≤ i → AreOver i j
  are_over i j le = over_by i j (leb (length cs) i) refl le

  -- what all columns bring
  pub passed-next : (i : ℕ) (made : Arguments) → AreOver i made.next → ArePassed i made → made.next ≡ suc k + star_total cs ts
  passed-next i made o h = omega (arith, o.total, h.next)

  pub passed-stars : (i : ℕ) (made : Arguments) → AreOver i made.next → ArePassed i made → made.stars.items ≡ star_columns p (suc k) cs ts
  passed-stars i made o h = all_done made.stars.items _ _ o.columns h.stars

  pub passed-columns : (i : ℕ) (made : Arguments) → AreOver i made.next → ArePassed i made → made.columns.items ≡ compared_columns all_passed
  passed-columns i made o h = all_done made.columns.items _ _ (ap compared_columns o.left) h.columns

  pub passed-comparisons : (i : ℕ) (made : Arguments) → AreOver i made.next → ArePassed i made → map raw_form_of made.comparisons.items ≡ comparisons_of p all_passed
  passed-comparisons i made o h = all_done (map raw_form_of made.comparisons.items) _ _ (ap (comparisons_of p) o.left) h.comparisons

  pub passed-passed : (i : ℕ) (made : Arguments) → AreOver i made.next → ArePassed i made → passed_of all_passed made.passed.items
  passed-passed i made o h = subst (passed_of all_passed) (append-nil made.passed.items) (h.passed [] (subst (λ x. passed_of x []) (sym o.left) refl))

-- an atom's terms bring what they are to bring
pub arguments_are : (s : UseSetting) (met : Met) (cs : List Column) (i : ℕ) (made : Arguments) → min (length cs) (length met.terms.now) ≤ i → ArePassed s met.place met.number cs met.terms.now i made → AreArguments s met cs made
arguments_are s met cs i made le h =
    let o = are_over s met.place met.number cs met.terms.now i made.next le in
    record {
      next = passed-next s met.place met.number cs met.terms.now i made o h;
      stars = passed-stars s met.place met.number cs met.terms.now i made o h;
      columns = passed-columns s met.place met.number cs met.terms.now i made o h;
      comparisons = passed-comparisons s met.place met.number cs met.terms.now i made o h;
      passed = passed-passed s met.place met.number cs met.terms.now i made o h;
    }
