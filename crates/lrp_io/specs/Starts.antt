-- The starts of files at a shelf.
use Rattle.std.specs.Prelude.{◌≡◌, ℕ, suc, ◌+◌, ◌≤◌, List, [], ◌∷◌, ◌++◌, refl}
use Rattle.std.specs.Coded.{Coded, code_by, coded×, coded_list, coded_ℕ}
use Rattle.lrp_model.specs.Limits.{most_bytes}
use Rattle.lrp_model.specs.Texts.{Identifier}

-- a start: the file's name, and how many bytes were given of it
pub record Start : Type 0 where
  pub name : Identifier
  pub given : ℕ

-- a start of this name after the others, of which nothing was given yet
abbrev pub with_start : Identifier → List Start → List Start
with_start name starts = starts ++ record { name = name; given = 0 } ∷ []

-- more bytes given of the file that was started last
abbrev pub with_given : ℕ → List Start → List Start
with_given n [] = []
with_given n (start ∷ []) = record { name = start.name; given = start.given + n } ∷ []
with_given n (start ∷ next ∷ starts) = start ∷ with_given n (next ∷ starts)

-- of the file at most one byte more was given than it may have
abbrev pub IsShortStart : Start → Type 0
IsShortStart start = start.given ≤ suc most_bytes

-- this file was started once, and nothing else
pub record StartsOne (before after : List Start) (name : Identifier) : Type 0 where
  pub start : Start
  pub named : start.name ≡ name
  pub short : IsShortStart start
  pub made : after ≡ before ++ start ∷ []

-- the starts are of the first of these files, in their order
abbrev pub AreStartsOf : List Identifier → List Start → Type 0
AreStartsOf names [] = Unit {0}
AreStartsOf [] (start ∷ starts) = ⊥
AreStartsOf (name ∷ names) (start ∷ starts) = (start.name ≡ name) × IsShortStart start × AreStartsOf names starts

-- no file was started but the first of these, in their order
pub record StartsOnly (before after : List Start) (names : List Identifier) : Type 0 where
  pub starts : List Start
  pub are : AreStartsOf names starts
  pub made : after ≡ before ++ starts

-- how a list of starts is stored
abbrev pub starts_coded : Coded (List Start)
starts_coded = coded_list (code_by (List ℕ × ℕ) (coded× (coded_list coded_ℕ) coded_ℕ) (λ s. (s.name, s.given)) (λ p. record { name = p.0; given = p.1 }) (λ _. refl))
