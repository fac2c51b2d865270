-- Findings, row after row.
use Rattle.std.proofs.Common.{◌≡◌, ℕ, zero, suc, ◌+◌, ◌<◌, ◌≤◌, Bool, true, false, inl, inr, List, [], ◌∷◌, ◌++◌, length, get_or, Option, None, Some, refl, sym, ap, subst, ◌∙◌, arith, Contains}
use Rattle.std.specs.Prelude.{◌⊎◌, ◌↔◌, IsTrue, slice_get}
use Rattle.std.proofs.lemmas.Bool.{cases_lt}
use Rattle.std.specs.List.{AllByRecursion}
use Rattle.std.proofs.lemmas.List.Elements.{All-from_recursion, Contains-append_left, Contains-append_right, Contains-append_cases}
use Rattle.std.proofs.lemmas.Option.{same_Some, slice_get-get_or, slice_get_within}
use Rattle.lrp_model.specs.Kept.{IsKept, IsRowOf}
use Rattle.lrp_model.specs.declared.relations.Column.{Column}
use Rattle.lrp_model.specs.declared.relations.Relation.{Relation}
use Rattle.lrp_model.specs.declared.relations.Row.{Row}
use Rattle.lrp_model.specs.Sorts.{time_count}
use Rattle.lrp_lint.specs.Contents.{IsContentFlaw}
use Rattle.lrp_lint.specs.Flaws.{HasFlaw, HasUntied, IsEmpty, IsRowWithinLimits}
use Rattle.lrp_lint.specs.Listed.{FindsMore, IsFindingAt, IsFindingIn, IsRowFinding, content_findings, flaw_at, untied_findings}
use Rattle.lrp_lint.specs.declared.flaws.RowFinding.{RowFinding}
use Rattle.lrp_lint.specs.declared.flaws.RowFlaw.{RowFlaw}
use Rattle.lrp_lint.specs.declared.flaws.RowFlaw.TheVariants.{EmptyRow, UntiedTimes, RowLimit}

none_in : {F : Type 0} (f : F) → Contains [] f → ⊥
none_in f c = let low : c.0 < 0 = c.1 in absurd (omega (arith, low))

one_in : {F : Type 0} (x f : F) → Contains (x ∷ []) f → f ≡ x
one_in x f (zero, low, e) = sym e
one_in x f (suc k, low, e) = absurd (omega (arith, low))

in_one : {F : Type 0} (x f : F) → f ≡ x → Contains (x ∷ []) f
in_one x f e = (0, omega arith, sym e)

-- those of a set, by those of another
pub finds_as : {F : Type 0} (P Q : F → Type 0) (old new : List F) → ((f : F) → P f → Q f) → ((f : F) → Q f → P f) → FindsMore P old new → FindsMore Q old new
finds_as P Q old new to from finds = λ f. (
  λ c. elim ((finds f).0 c) [
    | inl k ↦ inl k
    | inr p ↦ inr (to f p)
  ],
  λ s. elim s [
    | inl k ↦ (finds f).1 (inl k)
    | inr q ↦ (finds f).1 (inr (from f q))
  ],
)

-- none of a set that is empty
pub finds_none : {F : Type 0} (P : F → Type 0) (old : List F) → ((f : F) → P f → ⊥) → FindsMore P old old
finds_none P old none = λ f. (
  λ c. inl c,
  λ s. elim s [
    | inl k ↦ k
    | inr p ↦ absurd (none f p)
  ],
)

-- those of one set, and then those of another
pub finds_then : {F : Type 0} (P Q R : F → Type 0) (old mid new : List F) → ((f : F) → P f → R f) → ((f : F) → Q f → R f) → ((f : F) → R f → P f ⊎ Q f) → FindsMore P old mid → FindsMore Q mid new → FindsMore R old new
finds_then P Q R old mid new first second split a b = λ f. (
  λ c. elim ((b f).0 c) [
    | inl k ↦ elim ((a f).0 k) [
      | inl o ↦ inl o
      | inr p ↦ inr (first f p)
    ]
    | inr q ↦ inr (second f q)
  ],
  λ s. elim s [
    | inl k ↦ (b f).1 (inl ((a f).1 (inl k)))
    | inr r ↦ elim (split f r) [
      | inl p ↦ (b f).1 (inl ((a f).1 (inr p)))
      | inr q ↦ (b f).1 (inr q)
    ]
  ],
)

-- those of a list
finds_list : {F : Type 0} (old own : List F) → FindsMore (Contains own) old (old ++ own)
finds_list old own = λ f. (
  λ c. Contains-append_cases old own f c,
  λ s. elim s [
    | inl k ↦ Contains-append_left old own f k
    | inr k ↦ Contains-append_right old own f k
  ],
)

-- ---- the flaws of one row

module _ (relation number : ℕ) (columns : List Column) (row : Row) where
  content_to : (content : Option RowFlaw) → IsContentFlaw row content → (f : RowFinding) → Contains (content_findings relation number content) f → IsFindingAt relation number columns row f
  content_to None c f h = absurd (none_in f h)
  content_to (Some EmptyRow) c f h = at_flaw EmptyRow c f (one_in (flaw_at relation number EmptyRow) f h)
    where
      at_flaw : (flaw : RowFlaw) → HasFlaw flaw columns row → (f : RowFinding) → f ≡ flaw_at relation number flaw → IsFindingAt relation number columns row f
      at_flaw flaw has f e = subst (IsFindingAt relation number columns row) (sym e) (record { here = refl; there = refl; flaw = has })
  content_to (Some RowLimit) c f h = subst (IsFindingAt relation number columns row) (sym (one_in (flaw_at relation number RowLimit) f h)) (record { here = refl; there = refl; flaw = c })
  content_to (Some UntiedTimes) c f h = absurd c

  untied_to : (untied : Bool) → (IsTrue untied → HasUntied (time_count columns) row.bounds) → (f : RowFinding) → Contains (untied_findings relation number untied) f → IsFindingAt relation number columns row f
  untied_to false u f h = absurd (none_in f h)
  untied_to true u f h = subst (IsFindingAt relation number columns row) (sym (one_in (flaw_at relation number UntiedTimes) f h)) (record { here = refl; there = refl; flaw = u refl })

  rebuilt : (flaw : RowFlaw) (f : RowFinding) → f.relation ≡ relation → f.row ≡ number → f.flaw ≡ flaw → f ≡ flaw_at relation number flaw
  rebuilt flaw f h t s = ap (λ r. record { relation = r; row = f.row; flaw = f.flaw }) h ∙ ap (λ n. record { relation = relation; row = n; flaw = f.flaw }) t ∙ ap (λ w. record { relation = relation; row = number; flaw = w }) s

  empty_from : (content : Option RowFlaw) → IsContentFlaw row content → IsRowWithinLimits row × IsEmpty row → (f : RowFinding) → f ≡ flaw_at relation number EmptyRow → Contains (content_findings relation number content) f
  empty_from None c h f e = absurd (c.1 h.1)
  empty_from (Some EmptyRow) c h f e = in_one (flaw_at relation number EmptyRow) f e
  empty_from (Some RowLimit) c h f e = absurd (c h.0)
  empty_from (Some UntiedTimes) c h f e = absurd c

  limit_from : (content : Option RowFlaw) → IsContentFlaw row content → (IsRowWithinLimits row → ⊥) → (f : RowFinding) → f ≡ flaw_at relation number RowLimit → Contains (content_findings relation number content) f
  limit_from None c h f e = absurd (h c.0)
  limit_from (Some EmptyRow) c h f e = absurd (h c.0)
  limit_from (Some RowLimit) c h f e = in_one (flaw_at relation number RowLimit) f e
  limit_from (Some UntiedTimes) c h f e = absurd c

  untied_from : (untied : Bool) → (HasUntied (time_count columns) row.bounds → IsTrue untied) → HasUntied (time_count columns) row.bounds → (f : RowFinding) → f ≡ flaw_at relation number UntiedTimes → Contains (untied_findings relation number untied) f
  untied_from true u h f e = in_one (flaw_at relation number UntiedTimes) f e
  untied_from false u h f e = absurd (let t : false ≡ true = u h in cc)

  module _ (content : Option RowFlaw) (untied : Bool) (is : IsContentFlaw row content) (ties : IsTrue untied ↔ HasUntied (time_count columns) row.bounds) where
    abbrev own : List RowFinding
    own = content_findings relation number content ++ untied_findings relation number untied

    own_to : (f : RowFinding) → Contains own f → IsFindingAt relation number columns row f
    own_to f c = elim (Contains-append_cases (content_findings relation number content) (untied_findings relation number untied) f c) [
      | inl k ↦ content_to content is f k
      | inr k ↦ untied_to untied ties.0 f k
    ]

    left : (f : RowFinding) → Contains (content_findings relation number content) f → Contains own f
    left f c = Contains-append_left (content_findings relation number content) (untied_findings relation number untied) f c

    right : (f : RowFinding) → Contains (untied_findings relation number untied) f → Contains own f
    right f c = Contains-append_right (content_findings relation number content) (untied_findings relation number untied) f c

    by_flaw : (flaw : RowFlaw) (f : RowFinding) → f ≡ flaw_at relation number flaw → HasFlaw flaw columns row → Contains own f
    by_flaw EmptyRow f e has = left f (empty_from content is has f e)
    by_flaw RowLimit f e has = left f (limit_from content is has f e)
    by_flaw UntiedTimes f e has = right f (untied_from untied ties.1 has f e)

    -- what is found in the row
    pub row_found : (old new : List RowFinding) → new ≡ old ++ (content_findings relation number content ++ untied_findings relation number untied) → FindsMore (IsFindingAt relation number columns row) old new
    row_found old new e = subst (FindsMore (IsFindingAt relation number columns row) old) (sym e) (finds_as (Contains own) (IsFindingAt relation number columns row) old (old ++ own) own_to (λ f a. by_flaw f.flaw f (rebuilt f.flaw f a.here a.there refl) a.flaw) (finds_list old own))

-- ---- row after row, and relation after relation

-- those in the first rows of a relation
abbrev pub FoundBefore : ℕ → Relation → ℕ → RowFinding → Type 0
FoundBefore number relation n f = IsFindingIn number relation f × (f.row < n)

pub rows_none : (number : ℕ) (relation : Relation) (old : List RowFinding) → FindsMore (FoundBefore number relation 0) old old
rows_none number relation old = finds_none (FoundBefore number relation 0) old (λ f h. (let low = h.1 in absurd (omega (arith, low))))

pub rows_more : (number : ℕ) (relation : Relation) (n : ℕ) (row : Row) (old mid new : List RowFinding) → slice_get relation.rows n ≡ Some row → FindsMore (FoundBefore number relation n) old mid → FindsMore (IsFindingAt number n relation.columns row) mid new → FindsMore (FoundBefore number relation (n + 1)) old new
rows_more number relation n row old mid new at a b = finds_then (FoundBefore number relation n) (IsFindingAt number n relation.columns row) (FoundBefore number relation (n + 1)) old mid new
    (λ f h. (h.0, (let low = h.1 in omega (arith, low))))
    (λ f h. (record { here = h.here; row = row; at = ap (slice_get relation.rows) h.there ∙ at; flaw = h.flaw }, (let e = h.there in omega (arith, e))))
    (λ f h. elim (cases_lt f.row n) [
      | inl lt ↦ inl (h.0, lt)
      | inr ge ↦ inr (let low = h.1 in last f h.0 (omega (arith, low, ge)))
    ]) a b
  where
    last : (f : RowFinding) → IsFindingIn number relation f → f.row ≡ n → IsFindingAt number n relation.columns row f
    last f i e = record { here = i.here; there = e; flaw = subst (HasFlaw f.flaw relation.columns) (same_Some i.row row (sym i.at ∙ ap (slice_get relation.rows) e ∙ at)) i.flaw }

-- the row of a turn
pub rows_turn : (number : ℕ) (relation : Relation) (columns : List Column) (rows : List Row) (i : ℕ) (row : Row) (old mid new : List RowFinding) → columns ≡ relation.columns → rows ≡ relation.rows → i < length rows → row ≡ get_or rows i row
    → FindsMore (FoundBefore number relation i) old mid → FindsMore (IsFindingAt number i columns row) mid new → FindsMore (FoundBefore number relation (i + 1)) old new
rows_turn number relation columns rows i row old mid new same all low is a b =
    rows_more number relation i row old mid new (subst (λ rs. slice_get rs i ≡ Some row) all (slice_get-get_or rows i row low ∙ ap (λ r. Some r) (sym is))) a (subst (λ cs. FindsMore (IsFindingAt number i cs row) mid new) same b)

-- it is kept
pub row_kept : (relation : Relation) (columns : List Column) (rows : List Row) (i : ℕ) (row : Row) → IsKept relation → columns ≡ relation.columns → rows ≡ relation.rows → i < length rows → row ≡ get_or rows i row → IsRowOf columns row
row_kept relation columns rows i row kept same all low is =
    subst (λ cs. IsRowOf cs row) (sym same) (subst (IsRowOf relation.columns) (sym is) (All-from_recursion (IsRowOf relation.columns) rows (subst (λ rs. AllByRecursion (IsRowOf relation.columns) rs) (sym all) kept.rows) i row low))

-- all rows of it
pub rows_all : (number : ℕ) (relation : Relation) (n : ℕ) (old new : List RowFinding) → length relation.rows ≤ n → FindsMore (FoundBefore number relation n) old new → FindsMore (IsFindingIn number relation) old new
rows_all number relation n old new all finds = finds_as (FoundBefore number relation n) (IsFindingIn number relation) old new (λ f h. h.0) (λ f i. (i, (let within = slice_get_within relation.rows f.row i.row i.at in omega (arith, within, all)))) finds

-- those in the first relations of a database
abbrev pub FoundAmong : List Relation → ℕ → RowFinding → Type 0
FoundAmong db n f = IsRowFinding db f × (f.relation < n)

pub relations_none : (db : List Relation) → FindsMore (FoundAmong db 0) [] []
relations_none db = finds_none (FoundAmong db 0) [] (λ f h. (let low = h.1 in absurd (omega (arith, low))))

pub relations_more : (db : List Relation) (n : ℕ) (relation : Relation) (old mid new : List RowFinding) → slice_get db n ≡ Some relation → FindsMore (FoundAmong db n) old mid → FindsMore (IsFindingIn n relation) mid new → FindsMore (FoundAmong db (n + 1)) old new
relations_more db n relation old mid new at a b = finds_then (FoundAmong db n) (IsFindingIn n relation) (FoundAmong db (n + 1)) old mid new
    (λ f h. (h.0, (let low = h.1 in omega (arith, low))))
    (λ f h. (record { relation = relation; row = h.row; named = ap (slice_get db) h.here ∙ at; at = h.at; flaw = h.flaw }, (let e = h.here in omega (arith, e))))
    (λ f h. elim (cases_lt f.relation n) [
      | inl lt ↦ inl (h.0, lt)
      | inr ge ↦ inr (let low = h.1 in last f h.0 (omega (arith, low, ge)))
    ]) a b
  where
    last : (f : RowFinding) → IsRowFinding db f → f.relation ≡ n → IsFindingIn n relation f
    last f i e =
        let same : i.relation ≡ relation = same_Some i.relation relation (sym i.named ∙ ap (slice_get db) e ∙ at) in
        record { here = e; row = i.row; at = subst (λ (r : Relation). slice_get r.rows f.row ≡ Some i.row) same i.at; flaw = subst (λ (r : Relation). HasFlaw f.flaw r.columns i.row) same i.flaw }

-- all of them
pub relations_all : (db : List Relation) (n : ℕ) (found : List RowFinding) → length db ≤ n → FindsMore (FoundAmong db n) [] found → (f : RowFinding) → Contains found f ↔ IsRowFinding db f
relations_all db n found all finds f = (
  λ c. elim ((finds f).0 c) [
    | inl k ↦ absurd (none_in f k)
    | inr h ↦ h.0
  ],
  λ i. (finds f).1 (inr (i, (let within = slice_get_within db f.relation i.relation i.named in omega (arith, within, all)))),
)
