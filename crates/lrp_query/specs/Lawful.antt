-- What holds of each query that is read: numbers within the limit, formulas that are not too deep, and bounds on how many there are.
use Rattle.std.specs.Prelude.{◌<◌, ◌+◌, ◌≤ℤ◌, ℕ, ℤ, pos, neg_ℤ, Bool, true, false, List, [], ◌∷◌, map, count_by}
use Rattle.std.specs.List.{AllByRecursion}
use Rattle.lrp_model.specs.Limits.{greatest_number, most_bytes}
use Rattle.lrp_model.specs.Names.{AreNamed}
use Rattle.lrp_model.specs.DatabaseMeaning.{column_of}
use Rattle.lrp_model.specs.Queries.{Deeper}
use Rattle.lrp_model.specs.RawQueries.{RawForm, RawForms, RawQuestion, raw_atom, raw_compare, raw_member, raw_not, raw_and, raw_or, raw_implies, raw_group, raw_exists, raw_forall, raw_ranged, raw_paired, no_raws, raw}
use Rattle.lrp_model.specs.declared.relations.RowPoint.{RowPoint}
use Rattle.lrp_model.specs.declared.raw.RawTerm.{RawTerm}
use Rattle.lrp_model.specs.declared.raw.RawTermKind.{RawTermKind}
use Rattle.lrp_model.specs.declared.raw.RawTermKind.TheVariants.{Int, Text, Var, Shifted}

-- a magnitude of at most 2^62
abbrev pub HasMagnitude : ℤ → Type 0
HasMagnitude z = (neg_ℤ (pos greatest_number) ≤ℤ z) × (z ≤ℤ pos greatest_number)

-- an integer or an offset within the limit
abbrev pub FitsRawTerm : RawTermKind → Type 0
FitsRawTerm (Int z) = HasMagnitude z
FitsRawTerm (Shifted n z) = HasMagnitude z
FitsRawTerm (Text t) = Unit {0}
FitsRawTerm (Var n) = Unit {0}

-- an offset within the limit, and a period from 1 to the limit
abbrev pub FitsRawPoint : RowPoint → Type 0
FitsRawPoint p = HasMagnitude p.offset × (pos 1 ≤ℤ p.period) × (p.period ≤ℤ pos greatest_number)

-- two members at least
abbrev pub HasTwo : RawForms → Type 0
HasTwo (raw f (raw g fs)) = Unit {0}
HasTwo _ = ⊥

-- terms and points within the limit, and two members or more in each `and` and `or`
abbrev mutual
  pub FitsRaw : RawForm → Type 0
  FitsRaw (raw_atom p n ts) = AllByRecursion (λ t. FitsRawTerm t.kind) ts
  FitsRaw (raw_compare p l op r) = FitsRawTerm l.kind × FitsRawTerm r.kind
  FitsRaw (raw_member p t q) = FitsRawTerm t.kind × FitsRawPoint q
  FitsRaw (raw_not p f) = FitsRaw f
  FitsRaw (raw_and p fs) = HasTwo fs × FitRaws fs
  FitsRaw (raw_or p fs) = HasTwo fs × FitRaws fs
  FitsRaw (raw_implies p f g) = FitsRaw f × FitsRaw g
  FitsRaw (raw_group p f) = FitsRaw f
  FitsRaw (raw_exists p c f) = FitsRaw f
  FitsRaw (raw_forall p c f) = FitsRaw f
  FitsRaw (raw_ranged word o from to f) = HasMagnitude from × HasMagnitude to × FitsRaw f
  FitsRaw (raw_paired word o f g) = FitsRaw f × FitsRaw g

  pub FitRaws : RawForms → Type 0
  FitRaws no_raws = Unit {0}
  FitRaws (raw f fs) = FitsRaw f × FitRaws fs

-- at most so deep, the formula itself counted
abbrev mutual
  pub IsShallow : RawForm → ℕ → Type 0
  IsShallow (raw_atom p n ts) d = Deeper d (λ m. Unit {0})
  IsShallow (raw_compare p l op r) d = Deeper d (λ m. Unit {0})
  IsShallow (raw_member p t q) d = Deeper d (λ m. Unit {0})
  IsShallow (raw_not p f) d = Deeper d (IsShallow f)
  IsShallow (raw_and p fs) d = Deeper d (AreShallow fs)
  IsShallow (raw_or p fs) d = Deeper d (AreShallow fs)
  IsShallow (raw_implies p f g) d = Deeper d (λ m. IsShallow f m × IsShallow g m)
  IsShallow (raw_group p f) d = Deeper d (IsShallow f)
  IsShallow (raw_exists p c f) d = Deeper d (IsShallow f)
  IsShallow (raw_forall p c f) d = Deeper d (IsShallow f)
  IsShallow (raw_ranged word o from to f) d = Deeper d (IsShallow f)
  IsShallow (raw_paired word o f g) d = Deeper d (λ m. IsShallow f m × IsShallow g m)

  pub AreShallow : RawForms → ℕ → Type 0
  AreShallow no_raws d = Unit {0}
  AreShallow (raw f fs) d = IsShallow f d × AreShallow fs d

-- how many formulas stand in a formula, itself among them
abbrev mutual
  pub formulas_in : RawForm → ℕ
  formulas_in (raw_atom p n ts) = 1
  formulas_in (raw_compare p l op r) = 1
  formulas_in (raw_member p t q) = 1
  formulas_in (raw_not p f) = formulas_in f + 1
  formulas_in (raw_and p fs) = formulas_of fs + 1
  formulas_in (raw_or p fs) = formulas_of fs + 1
  formulas_in (raw_implies p f g) = formulas_in f + formulas_in g + 1
  formulas_in (raw_group p f) = formulas_in f + 1
  formulas_in (raw_exists p c f) = formulas_in f + 1
  formulas_in (raw_forall p c f) = formulas_in f + 1
  formulas_in (raw_ranged word o from to f) = formulas_in f + 1
  formulas_in (raw_paired word o f g) = formulas_in f + formulas_in g + 1

  pub formulas_of : RawForms → ℕ
  formulas_of no_raws = 0
  formulas_of (raw f fs) = formulas_in f + formulas_of fs

-- whether a term is a text
abbrev pub is_raw_text : RawTermKind → Bool
is_raw_text (Text t) = true
is_raw_text _ = false

-- how many of the terms are texts
abbrev pub text_total : List RawTerm → ℕ
text_total = count_by (λ t. is_raw_text t.kind)

-- how many texts stand in a formula
abbrev mutual
  pub formula_texts : RawForm → ℕ
  formula_texts (raw_atom p n ts) = text_total ts
  formula_texts (raw_compare p l op r) = text_total (l ∷ r ∷ [])
  formula_texts (raw_member p t q) = text_total (t ∷ [])
  formula_texts (raw_not p f) = formula_texts f
  formula_texts (raw_and p fs) = texts_of fs
  formula_texts (raw_or p fs) = texts_of fs
  formula_texts (raw_implies p f g) = formula_texts f + formula_texts g
  formula_texts (raw_group p f) = formula_texts f
  formula_texts (raw_exists p c f) = formula_texts f
  formula_texts (raw_forall p c f) = formula_texts f
  formula_texts (raw_ranged word o from to f) = formula_texts f
  formula_texts (raw_paired word o f g) = formula_texts f + formula_texts g

  pub texts_of : RawForms → ℕ
  texts_of no_raws = 0
  texts_of (raw f fs) = formula_texts f + texts_of fs

-- what holds of a query that is read: the names in its head are names, and fewer than 2^26 formulas and fewer than 2^24 texts stand in it
pub record IsLawful (q : RawQuestion) : Type 0 where
  pub names : AreNamed (map column_of q.head)
  pub sizes : FitsRaw q.body
  pub depth : IsShallow q.body 64
  pub formulas : formulas_in q.body < 67108864
  pub texts : formula_texts q.body < most_bytes
