-- The names that a use of a definition gives to the definition's columns.
use Rattle.std.proofs.Common.{◌≡◌, ◌≢◌, ℕ, suc, Bool, true, false, List, [], ◌∷◌, Option, Some, None, refl, sym, ap, ◌∙◌}
use Rattle.std.specs.Prelude.{if◌then◌else◌}
use Rattle.std.specs.List.{AllByRecursion}
use Rattle.lrp_model.specs.Texts.{Identifier}
use Rattle.lrp_model.specs.Satisfaction.{HaveDistinctNames}
use Rattle.lrp_model.specs.declared.tokens.Place.{Place}
use Rattle.lrp_model.specs.declared.relations.Column.{Column}
use Rattle.lrp_model.specs.declared.raw.RawTerm.{RawTerm}
use Rattle.lrp_tense.proofs.Scoping.{own_name, other_name}
use Rattle.lrp_wide.specs.Meaning.{is_star}
use Rattle.lrp_wide.specs.Inlining.{UseSetting, Passed, itself, passed, pass_variable, passed_name, inner_name, star_variable, plain_variable}

-- the variable of a column whose term is no `*`: the term, where it is a variable, or one of the use's own
abbrev pub variable_passed : UseSetting → ℕ → Column → Option Identifier → Identifier
variable_passed s k c (Some v) = s.name v
variable_passed s k c None = inner_name k c.name

-- a column has the name of its variable; the next `*` has the next number
abbrev pub NamedColumn : (Identifier → Identifier) → ℕ → Column → Identifier → Bool → (ℕ → Type 0) → Type 0
NamedColumn name j c n true P = (name c.name ≡ star_variable j) × P (suc j)
NamedColumn name j c n false P = (name c.name ≡ n) × P j

abbrev pub NamedBy : (Identifier → Identifier) → UseSetting → ℕ → ℕ → List Column → List RawTerm → Type 0
NamedBy name s k j [] ts = Unit {0}
NamedBy name s k j (c ∷ columns) [] = Unit {0}
NamedBy name s k j (c ∷ columns) (t ∷ ts) = NamedColumn name j c (variable_passed s k c (plain_variable t.kind)) (is_star t) (λ i. NamedBy name s k i columns ts)

-- names that agree on the columns name them alike
module _ (name other : Identifier → Identifier) (s : UseSetting) (k : ℕ) where
  named_alike : (columns : List Column) (ts : List RawTerm) (j : ℕ) → AllByRecursion (λ d. other d.name ≡ name d.name) columns → NamedBy name s k j columns ts → NamedBy other s k j columns ts
  named_alike [] ts j e h = tt
  named_alike (c ∷ columns) [] j e h = tt
  named_alike (c ∷ columns) (t ∷ ts) j e h = by_star (is_star t) h (λ i. named_alike columns ts i e.1)
    where
      by_star : (b : Bool) → NamedColumn name j c (variable_passed s k c (plain_variable t.kind)) b (λ i. NamedBy name s k i columns ts) → ((i : ℕ) → NamedBy name s k i columns ts → NamedBy other s k i columns ts)
          → NamedColumn other j c (variable_passed s k c (plain_variable t.kind)) b (λ i. NamedBy other s k i columns ts)
      by_star true h r = (e.0 ∙ h.0, r (suc j) h.1)
      by_star false h r = (e.0 ∙ h.0, r j h.1)

-- a column that comes first is no other one
skipped : (n m : Identifier) (rest : List Passed) (k : ℕ) (columns : List Column) → AllByRecursion (λ d. n ≢ d.name) columns → AllByRecursion (λ d. passed_name (itself n m ∷ rest) k d.name ≡ passed_name rest k d.name) columns
skipped n m rest k [] h = tt
skipped n m rest k (d ∷ columns) h = (ap (λ b. if b then m else passed_name rest k d.name) (other_name n d.name h.0), skipped n m rest k columns h.1)

alike : (f g : Identifier → Identifier) → ((v : Identifier) → f v ≡ g v) → (columns : List Column) → AllByRecursion (λ d. f d.name ≡ g d.name) columns
alike f g e [] = tt
alike f g e (d ∷ columns) = (e d.name, alike f g e columns)

turned : (n : Identifier) (columns : List Column) → AllByRecursion (λ d. n ≢ d.name) columns → AllByRecursion (λ d. d.name ≢ n) columns
turned n [] h = tt
turned n (d ∷ columns) h = ((λ e. h.0 (sym e)), turned n columns h.1)

module _ (s : UseSetting) (p : Place) (k : ℕ) where
  -- a variable that is no column's is one of the use's own
  not_passed : (n : Identifier) (columns : List Column) (ts : List RawTerm) (j : ℕ) → AllByRecursion (λ d. d.name ≢ n) columns → passed_name (passed s p k j columns ts) k n ≡ inner_name k n
  not_passed n [] ts j h = refl
  not_passed n (c ∷ columns) [] j h = refl
  not_passed n (c ∷ columns) (t ∷ ts) j h = by_star (is_star t) (plain_variable t.kind) (λ i. not_passed n columns ts i h.1)
    where
      by_star : (b : Bool) (o : Option Identifier) → ((i : ℕ) → passed_name (passed s p k i columns ts) k n ≡ inner_name k n)
          → passed_name (if b then itself c.name (star_variable j) ∷ passed s p k (suc j) columns ts else pass_variable s p k c t o ∷ passed s p k j columns ts) k n ≡ inner_name k n
      by_star true o r = ap (λ b. if b then star_variable j else passed_name (passed s p k (suc j) columns ts) k n) (other_name c.name n h.0) ∙ r (suc j)
      by_star false (Some v) r = ap (λ b. if b then s.name v else passed_name (passed s p k j columns ts) k n) (other_name c.name n h.0) ∙ r j
      by_star false None r = r j

  pub named : (columns : List Column) (ts : List RawTerm) (j : ℕ) → HaveDistinctNames columns → NamedBy (passed_name (passed s p k j columns ts) k) s k j columns ts
  named [] ts j h = tt
  named (c ∷ columns) [] j h = tt
  named (c ∷ columns) (t ∷ ts) j h = by_star (is_star t) (plain_variable t.kind) (λ i. named columns ts i h.1)
    where
      by_star : (b : Bool) (o : Option Identifier) → ((i : ℕ) → NamedBy (passed_name (passed s p k i columns ts) k) s k i columns ts)
          → NamedColumn (passed_name (if b then itself c.name (star_variable j) ∷ passed s p k (suc j) columns ts else pass_variable s p k c t o ∷ passed s p k j columns ts) k) j c (variable_passed s k c o) b
          (λ i. NamedBy (passed_name (if b then itself c.name (star_variable j) ∷ passed s p k (suc j) columns ts else pass_variable s p k c t o ∷ passed s p k j columns ts) k) s k i columns ts)
      by_star true o r =
          let rest : List Passed = passed s p k (suc j) columns ts in (
            ap (λ b. if b then star_variable j else passed_name rest k c.name) (own_name c.name),
            named_alike (passed_name rest k) (passed_name (itself c.name (star_variable j) ∷ rest) k) s k columns ts (suc j) (skipped c.name (star_variable j) rest k columns h.0) (r (suc j)),
          )
      by_star false (Some v) r =
          let rest : List Passed = passed s p k j columns ts in (
            ap (λ b. if b then s.name v else passed_name rest k c.name) (own_name c.name),
            named_alike (passed_name rest k) (passed_name (itself c.name (s.name v) ∷ rest) k) s k columns ts j (skipped c.name (s.name v) rest k columns h.0) (r j),
          )
      by_star false None r =
          let rest : List Passed = passed s p k j columns ts in (
            not_passed c.name columns ts j (turned c.name columns h.0),
            named_alike (passed_name rest k) (passed_name (pass_variable s p k c t None ∷ rest) k) s k columns ts j (alike (passed_name (pass_variable s p k c t None ∷ rest) k) (passed_name rest k) (λ v. refl) columns) (r j),
          )
