-- How many formulas an atom brings, and how deep they are.
use Rattle.std.proofs.Common.{◌≡◌, ◌+◌, ℕ, zero, suc, max, min, Bool, true, false, List, [], ◌∷◌, length, Option, Some, None, refl, ap, sym, ◌∙◌, arith}
use Rattle.std.specs.Prelude.{if◌then◌else◌}
use Rattle.std.specs.Str.{bytes_eq}
use Rattle.lrp_query.specs.Lawful.{formulas_in, formulas_of}
use Rattle.lrp_model.specs.Texts.{Identifier}
use Rattle.lrp_model.specs.QueryMeaning.{star_name}
use Rattle.lrp_model.specs.RawQueries.{RawForm, RawForms, raw_atom, raw_and}
use Rattle.lrp_model.specs.declared.tokens.Place.{Place}
use Rattle.lrp_model.specs.declared.relations.Column.{Column}
use Rattle.lrp_model.specs.declared.raw.RawColumn.{RawColumn}
use Rattle.lrp_model.specs.declared.raw.RawTerm.{RawTerm}
use Rattle.lrp_model.specs.declared.raw.RawTermKind.{RawTermKind}
use Rattle.lrp_model.specs.declared.raw.RawTermKind.TheVariants.{Int, Text, Var, Shifted}
use Rattle.lrp_wide.specs.Meaning.{is_star, is_star_kind}
use Rattle.lrp_wide.specs.Inlining.{Known, Passed, UseSetting, column_added, compared_columns, compared_form, counted_from, equal, itself, pass_variable, passed, passed_name, some_each, star_columns, star_terms, star_total, star_variable, starred_atom, use_form, plain_variable, with_comparisons}
use Rattle.lrp_wide.specs.Limits.{depth_of, depth_of_each}
use Rattle.lrp_wide.specs.Sizes.{compared_total, is_compared, is_compared_kind}

-- ---- an `exists` for each of these

pub some_formulas : (p : Place) (cs : List RawColumn) (f : RawForm) → formulas_in (some_each p cs f) ≡ formulas_in f + length cs
some_formulas p [] f = omega arith
some_formulas p (c ∷ cs) f = omega (arith, some_formulas p cs f)

pub some_depth : (p : Place) (cs : List RawColumn) (f : RawForm) → depth_of (some_each p cs f) ≡ depth_of f + length cs
some_depth p [] f = omega arith
some_depth p (c ∷ cs) f = omega (arith, some_depth p cs f)

-- ---- as many as the terms ask for

one_star : {A : Type 0} (b : Bool) (x : A) (xs ys : List A) (n : ℕ) → length xs ≡ n → length ys ≡ n → length (if b then x ∷ xs else ys) ≡ (if b then suc n else n)
one_star true x xs ys n h k = ap suc h
one_star false x xs ys n h k = k

pub stars_counted : (p : Place) (k : ℕ) (cs : List Column) (ts : List RawTerm) → length (star_columns p k cs ts) ≡ star_total cs ts
stars_counted p k [] ts = refl
stars_counted p k (c ∷ cs) [] = refl
stars_counted p k (c ∷ cs) (t ∷ ts) =
    one_star (is_star t) (column_added p (star_variable k) c.sort) (star_columns p (suc k) cs ts) (star_columns p k cs ts) (star_total cs ts) (stars_counted p (suc k) cs ts) (stars_counted p k cs ts)

one_column : (b : Bool) (c : Identifier) (n m : Identifier) (xs ys : List Passed) (k : ℕ) → length (compared_columns xs) ≡ k → length (compared_columns ys) ≡ k → length (compared_columns (if b then itself c n ∷ xs else itself c m ∷ ys)) ≡ k
one_column true c n m xs ys k h i = h
one_column false c n m xs ys k h i = i

one_passed : (s : UseSetting) (p : Place) (k j : ℕ) (c : Column) (t : RawTerm) (kind : RawTermKind) (xs ys : List Passed) (n : ℕ) → length (compared_columns xs) ≡ n → length (compared_columns ys) ≡ n
    → length (compared_columns (if is_star_kind kind then itself c.name (star_variable j) ∷ xs else pass_variable s p k c t (plain_variable kind) ∷ ys)) ≡ (if is_compared_kind kind then suc n else n)
one_passed s p k j c t (Int x) xs ys n h i = ap suc i
one_passed s p k j c t (Text x) xs ys n h i = ap suc i
one_passed s p k j c t (Var v) xs ys n h i = one_column (bytes_eq v star_name) c.name (star_variable j) (s.name v) xs ys n h i
one_passed s p k j c t (Shifted v plus) xs ys n h i = ap suc i

pub columns_counted : (s : UseSetting) (p : Place) (k j : ℕ) (cs : List Column) (ts : List RawTerm) → length (compared_columns (passed s p k j cs ts)) ≡ compared_total cs ts
columns_counted s p k j [] ts = refl
columns_counted s p k j (c ∷ cs) [] = refl
columns_counted s p k j (c ∷ cs) (t ∷ ts) =
    one_passed s p k j c t t.kind (passed s p k (suc j) cs ts) (passed s p k j cs ts) (compared_total cs ts) (columns_counted s p k (suc j) cs ts) (columns_counted s p k j cs ts)

-- ---- comparisons before a formula

comparisons_formulas : (p : Place) (ps : List Passed) (f : RawForm) → formulas_of (with_comparisons p ps f) ≡ formulas_in f + length (compared_columns ps)
comparisons_formulas p [] f = omega arith
comparisons_formulas p (itself c n ∷ ps) f = comparisons_formulas p ps f
comparisons_formulas p (equal b c t ∷ ps) f = omega (arith, comparisons_formulas p ps f)

comparisons_depth : (p : Place) (ps : List Passed) (f : RawForm) → depth_of_each (with_comparisons p ps f) ≡ max (depth_of f) (min (length (compared_columns ps)) 1)
comparisons_depth p [] f = omega arith
comparisons_depth p (itself c n ∷ ps) f = comparisons_depth p ps f
comparisons_depth p (equal b c t ∷ ps) f = omega (arith, comparisons_depth p ps f)

-- without columns that are compared, and with some
no_columns : (p : Place) (cs : List RawColumn) (ps : List Passed) (f : RawForm) → length cs ≡ 0 → compared_form p cs ps f ≡ f
no_columns p [] ps f h = refl
no_columns p (c ∷ cs) ps f h = absurd (omega (arith, h))

some_columns : (p : Place) (cs : List RawColumn) (ps : List Passed) (f : RawForm) (n : ℕ) → length cs ≡ suc n → compared_form p cs ps f ≡ some_each p cs (raw_and p (with_comparisons p ps f))
some_columns p [] ps f n h = absurd (omega (arith, h))
some_columns p (c ∷ cs) ps f n h = refl

-- ---- atoms

pub starred_formulas : (s : UseSetting) (p : Place) (k : ℕ) (n : Identifier) (cs : List Column) (ts : List RawTerm) → formulas_in (starred_atom s p k n cs ts) ≡ 1 + star_total cs ts
starred_formulas s p k n cs ts = some_formulas p (star_columns p k cs ts) (raw_atom p n (star_terms s p k cs ts)) ∙ ap (λ m. 1 + m) (stars_counted p k cs ts)

pub starred_depth : (s : UseSetting) (p : Place) (k : ℕ) (n : Identifier) (cs : List Column) (ts : List RawTerm) → depth_of (starred_atom s p k n cs ts) ≡ 1 + star_total cs ts
starred_depth s p k n cs ts = some_depth p (star_columns p k cs ts) (raw_atom p n (star_terms s p k cs ts)) ∙ ap (λ m. 1 + m) (stars_counted p k cs ts)

-- the setting of a definition in a use
abbrev pub inside : UseSetting → Place → ℕ → Known → List RawTerm → UseSetting
inside s p k d ts = record { name = passed_name (passed s p k (suc k) d.columns ts) k; place = λ q. p; number = counted_from (suc k + star_total d.columns ts) d.counted }

-- in a use without comparisons the formula stands under an `exists` for each `*`
pub plain_use_formulas : (s : UseSetting) (p : Place) (k : ℕ) (d : Known) (ts : List RawTerm) → compared_total d.columns ts ≡ 0 → formulas_in (use_form s p k d ts) ≡ formulas_in (d.form (inside s p k d ts)) + star_total d.columns ts
plain_use_formulas s p k d ts h =
    let ps = passed s p k (suc k) d.columns ts in
    let f = d.form (inside s p k d ts) in
    some_formulas p (star_columns p (suc k) d.columns ts) (compared_form p (compared_columns ps) ps f)
    ∙ ap (λ g. formulas_in g + length (star_columns p (suc k) d.columns ts)) (no_columns p (compared_columns ps) ps f (columns_counted s p k (suc k) d.columns ts ∙ h))
    ∙ ap (λ m. formulas_in f + m) (stars_counted p (suc k) d.columns ts)

pub plain_use_depth : (s : UseSetting) (p : Place) (k : ℕ) (d : Known) (ts : List RawTerm) → compared_total d.columns ts ≡ 0 → depth_of (use_form s p k d ts) ≡ depth_of (d.form (inside s p k d ts)) + star_total d.columns ts
plain_use_depth s p k d ts h =
    let ps = passed s p k (suc k) d.columns ts in
    let f = d.form (inside s p k d ts) in
    some_depth p (star_columns p (suc k) d.columns ts) (compared_form p (compared_columns ps) ps f)
    ∙ ap (λ g. depth_of g + length (star_columns p (suc k) d.columns ts)) (no_columns p (compared_columns ps) ps f (columns_counted s p k (suc k) d.columns ts ∙ h))
    ∙ ap (λ m. depth_of f + m) (stars_counted p (suc k) d.columns ts)

-- in one with comparisons it stands after them in an `and`, under an `exists` for each column that is compared and for each `*`
pub compared_use_formulas : (s : UseSetting) (p : Place) (k : ℕ) (d : Known) (ts : List RawTerm) (n : ℕ) → compared_total d.columns ts ≡ suc n
    → formulas_in (use_form s p k d ts) ≡ formulas_in (d.form (inside s p k d ts)) + suc n + 1 + suc n + star_total d.columns ts
compared_use_formulas s p k d ts n h =
    let ps = passed s p k (suc k) d.columns ts in
    let f = d.form (inside s p k d ts) in
    let many : length (compared_columns ps) ≡ suc n = columns_counted s p k (suc k) d.columns ts ∙ h in
    some_formulas p (star_columns p (suc k) d.columns ts) (compared_form p (compared_columns ps) ps f)
    ∙ ap (λ g. formulas_in g + length (star_columns p (suc k) d.columns ts)) (some_columns p (compared_columns ps) ps f n many)
    ∙ ap (λ m. m + length (star_columns p (suc k) d.columns ts)) (some_formulas p (compared_columns ps) (raw_and p (with_comparisons p ps f)))
    ∙ ap (λ m. m + 1 + length (compared_columns ps) + length (star_columns p (suc k) d.columns ts)) (comparisons_formulas p ps f)
    ∙ ap (λ m. formulas_in f + m + 1 + m + length (star_columns p (suc k) d.columns ts)) many
    ∙ ap (λ m. formulas_in f + suc n + 1 + suc n + m) (stars_counted p (suc k) d.columns ts)

pub compared_use_depth : (s : UseSetting) (p : Place) (k : ℕ) (d : Known) (ts : List RawTerm) (n : ℕ) → compared_total d.columns ts ≡ suc n
    → depth_of (use_form s p k d ts) ≡ max (depth_of (d.form (inside s p k d ts))) (min (suc n) 1) + 1 + suc n + star_total d.columns ts
compared_use_depth s p k d ts n h =
    let ps = passed s p k (suc k) d.columns ts in
    let f = d.form (inside s p k d ts) in
    let many : length (compared_columns ps) ≡ suc n = columns_counted s p k (suc k) d.columns ts ∙ h in
    some_depth p (star_columns p (suc k) d.columns ts) (compared_form p (compared_columns ps) ps f)
    ∙ ap (λ g. depth_of g + length (star_columns p (suc k) d.columns ts)) (some_columns p (compared_columns ps) ps f n many)
    ∙ ap (λ m. m + length (star_columns p (suc k) d.columns ts)) (some_depth p (compared_columns ps) (raw_and p (with_comparisons p ps f)))
    ∙ ap (λ m. m + 1 + length (compared_columns ps) + length (star_columns p (suc k) d.columns ts)) (comparisons_depth p ps f)
    ∙ ap (λ m. max (depth_of f) (min m 1) + 1 + m + length (star_columns p (suc k) d.columns ts)) many
    ∙ ap (λ m. max (depth_of f) (min (suc n) 1) + 1 + suc n + m) (stars_counted p (suc k) d.columns ts)
