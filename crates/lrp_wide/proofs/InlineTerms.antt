-- The terms of an atom, one by one.
use Rattle.std.proofs.Common.{◌≡◌, ℕ, suc, ◌+◌, ◌<◌, ◌≤◌, Bool, true, false, cond, Option, Some, None, List, [], ◌∷◌, ◌++◌, map, length, get_or, drop, refl, ap, ap₂, sym, ◌∙◌, append_assoc, append-nil, arith}
use Rattle.std.proofs.lemmas.List.{drop_more, drop_all}
use Rattle.lrp_model.specs.RawQueries.{RawForm, raw_compare}
use Rattle.lrp_model.specs.Texts.{Identifier}
use Rattle.lrp_model.specs.declared.formulas.Op.TheVariants.{Eq}
use Rattle.lrp_model.specs.declared.raw.RawColumn.{RawColumn}
use Rattle.lrp_model.specs.declared.raw.RawTerm.{RawTerm}
use Rattle.lrp_model.specs.declared.relations.Column.{Column}
use Rattle.lrp_model.specs.declared.tokens.Place.{Place}
use Rattle.lrp_tense.specs.Expanding.{name_term}
use Rattle.lrp_wide.specs.Inlining.{Passed, UseSetting, column_added, compared_columns, equal, inner_name, itself, pass_variable, passed, set_term, star_columns, star_terms, star_total, star_variable, plain_variable}
use Rattle.lrp_wide.specs.Inside.{comparisons_of}
use Rattle.lrp_wide.specs.Meaning.{is_star}
use Rattle.lrp_wide.proofs.NumberKnown.{at_below}

-- ---- lists that are gone through

pub dropped : {A : Type 0} (xs : List A) (i : ℕ) (x : A) → i < length xs → x ≡ get_or xs i x → drop i xs ≡ x ∷ drop (i + 1) xs
dropped xs i x lt is = drop_more xs i x lt ∙ ap (λ y. y ∷ drop (i + 1) xs) (sym is)

-- one more is done, and the others are left
pub one_done : {A : Type 0} (xs ys zs all : List A) (x : A) → ys ≡ x ∷ zs → xs ++ ys ≡ all → (xs ++ x ∷ []) ++ zs ≡ all
one_done xs ys zs all x e h = append_assoc xs (x ∷ []) zs ∙ ap (λ l. xs ++ l) (sym e) ∙ h

-- nothing more is done
pub none_done : {A : Type 0} (xs ys zs all : List A) → ys ≡ zs → xs ++ ys ≡ all → xs ++ zs ≡ all
none_done xs ys zs all e h = ap (λ l. xs ++ l) (sym e) ∙ h

-- nothing is left
pub all_done : {A : Type 0} (xs ys all : List A) → ys ≡ [] → xs ++ ys ≡ all → xs ≡ all
all_done xs ys all e h = sym (append-nil xs) ∙ none_done xs ys [] all e h

-- ---- atoms of relations

-- what is made of the first terms, where the next `*` has number j
pub record AreStarred (s : UseSetting) (p : Place) (k : ℕ) (cs : List Column) (ts : List RawTerm) (i j : ℕ) (made : List RawTerm) (added_to : List RawColumn) : Type 0 where
  pub terms : made ++ star_terms s p j (drop i cs) (drop i ts) ≡ star_terms s p k cs ts
  pub binders : added_to ++ star_columns p j (drop i cs) (drop i ts) ≡ star_columns p k cs ts

module _ (s : UseSetting) (p : Place) (k : ℕ) (cs : List Column) (ts : List RawTerm) where
  -- none yet
  pub starred-none : AreStarred s p k cs ts 0 k [] []
  starred-none = record { terms = refl; binders = refl }

  -- a `*` more
  pub starred-star : (i j : ℕ) (terms : List RawTerm) (binders : List RawColumn) (c : Column) (t : RawTerm) → drop i cs ≡ c ∷ drop (i + 1) cs → drop i ts ≡ t ∷ drop (i + 1) ts → is_star t ≡ true
      → AreStarred s p k cs ts i j terms binders → AreStarred s p k cs ts (i + 1) (suc j) (terms ++ name_term p (star_variable j) ∷ []) (binders ++ column_added p (star_variable j) c.sort ∷ [])
  starred-star i j terms binders c t dc dt e h = record {
    terms = one_done terms _ (star_terms s p (suc j) (drop (i + 1) cs) (drop (i + 1) ts)) _ (name_term p (star_variable j)) (ap₂ (star_terms s p j) dc dt ∙ ap (λ b. cond b (name_term p (star_variable j) ∷ star_terms s p (suc j) (drop (i + 1) cs) (drop (i + 1) ts)) (set_term s t ∷ star_terms s p j (drop (i + 1) cs) (drop (i + 1) ts))) e) h.terms;
    binders = one_done binders _ (star_columns p (suc j) (drop (i + 1) cs) (drop (i + 1) ts)) _ (column_added p (star_variable j) c.sort) (ap₂ (star_columns p j) dc dt ∙ ap (λ b. cond b (column_added p (star_variable j) c.sort ∷ star_columns p (suc j) (drop (i + 1) cs) (drop (i + 1) ts)) (star_columns p j (drop (i + 1) cs) (drop (i + 1) ts))) e) h.binders;
  }

  -- another term of a column
  pub starred-term : (i j : ℕ) (terms : List RawTerm) (binders : List RawColumn) (c : Column) (t : RawTerm) → drop i cs ≡ c ∷ drop (i + 1) cs → drop i ts ≡ t ∷ drop (i + 1) ts → is_star t ≡ false
      → AreStarred s p k cs ts i j terms binders → AreStarred s p k cs ts (i + 1) j (terms ++ set_term s t ∷ []) binders
  starred-term i j terms binders c t dc dt e h = record {
    terms = one_done terms _ (star_terms s p j (drop (i + 1) cs) (drop (i + 1) ts)) _ (set_term s t) (ap₂ (star_terms s p j) dc dt ∙ ap (λ b. cond b (name_term p (star_variable j) ∷ star_terms s p (suc j) (drop (i + 1) cs) (drop (i + 1) ts)) (set_term s t ∷ star_terms s p j (drop (i + 1) cs) (drop (i + 1) ts))) e) h.terms;
    binders = none_done binders _ (star_columns p j (drop (i + 1) cs) (drop (i + 1) ts)) _ (ap₂ (star_columns p j) dc dt ∙ ap (λ b. cond b (column_added p (star_variable j) c.sort ∷ star_columns p (suc j) (drop (i + 1) cs) (drop (i + 1) ts)) (star_columns p j (drop (i + 1) cs) (drop (i + 1) ts))) e) h.binders;
  }

  -- a term after the last column
  pub starred-after : (i j : ℕ) (terms : List RawTerm) (binders : List RawColumn) (t : RawTerm) → length cs ≤ i → drop i ts ≡ t ∷ drop (i + 1) ts
      → AreStarred s p k cs ts i j terms binders → AreStarred s p k cs ts (i + 1) j (terms ++ set_term s t ∷ []) binders
  starred-after i j terms binders t le dt h =
      let here : drop i cs ≡ [] = drop_all i cs le in
      let next : drop (i + 1) cs ≡ [] = drop_all (i + 1) cs (omega (arith, le)) in
      record {
        terms = one_done terms _ (star_terms s p j (drop (i + 1) cs) (drop (i + 1) ts)) _ (set_term s t) (ap₂ (star_terms s p j) here dt ∙ ap (λ l. set_term s t ∷ star_terms s p j l (drop (i + 1) ts)) (sym next)) h.terms;
        binders = none_done binders _ (star_columns p j (drop (i + 1) cs) (drop (i + 1) ts)) _ (ap (λ l. star_columns p j l (drop i ts)) here ∙ sym (ap (λ l. star_columns p j l (drop (i + 1) ts)) next)) h.binders;
      }

  no_terms : (j : ℕ) (ds : List Column) → star_terms s p j ds [] ≡ []
  no_terms j [] = refl
  no_terms j (d ∷ ds) = refl

  no_columns : (j : ℕ) (ds : List Column) → star_columns p j ds [] ≡ []
  no_columns j [] = refl
  no_columns j (d ∷ ds) = refl

  -- all of them
  pub starred-terms : (i j : ℕ) (terms : List RawTerm) (binders : List RawColumn) → length ts ≤ i → AreStarred s p k cs ts i j terms binders → terms ≡ star_terms s p k cs ts
  starred-terms i j terms binders le h = all_done terms _ _ (ap (star_terms s p j (drop i cs)) (drop_all i ts le) ∙ no_terms j (drop i cs)) h.terms

  pub starred-binders : (i j : ℕ) (terms : List RawTerm) (binders : List RawColumn) → length ts ≤ i → AreStarred s p k cs ts i j terms binders → binders ≡ star_columns p k cs ts
  starred-binders i j terms binders le h = all_done binders _ _ (ap (star_columns p j (drop i cs)) (drop_all i ts le) ∙ no_columns j (drop i cs)) h.binders

  -- another term of a column
  pub starred-below : (i j : ℕ) (terms : List RawTerm) (binders : List RawColumn) (t : RawTerm) → i < length cs → drop i ts ≡ t ∷ drop (i + 1) ts → is_star t ≡ false
      → AreStarred s p k cs ts i j terms binders → AreStarred s p k cs ts (i + 1) j (terms ++ set_term s t ∷ []) binders
  starred-below i j terms binders t lt dt e h =
      let first = (at_below cs i lt).entry in
      starred-term i j terms binders (get_or cs i first) t (drop_more cs i first lt) dt e h

  -- the same in other words
  pub starred-as : (i j j' : ℕ) (terms terms' : List RawTerm) (binders binders' : List RawColumn) → j' ≡ j → terms' ≡ terms → binders' ≡ binders → AreStarred s p k cs ts i j terms binders → AreStarred s p k cs ts i j' terms' binders'
  starred-as i j j' terms terms' binders binders' ej et eb h = record {
    terms = ap₂ (λ x n. x ++ star_terms s p n (drop i cs) (drop i ts)) et ej ∙ h.terms;
    binders = ap₂ (λ x n. x ++ star_columns p n (drop i cs) (drop i ts)) eb ej ∙ h.binders;
  }
