-- What is told of a text that may be a token of a shape.
use Rattle.std.specs.Prelude.{◌≡◌, ℕ, ℤ, List, length, Option, Result, Ok, Err}
use Rattle.lrp_model.specs.Texts.{Text}
use Rattle.lrp_model.specs.PrintedPages.{IsToken}
use Rattle.lrp_model.specs.declared.tuples.Shape.{Shape}
use Rattle.lrp_token.specs.declared.resume.Resume.{Resume}
use Rattle.lrp_token.specs.declared.resume.TokenFault.{TokenFault}
use Rattle.lrp_token.specs.declared.resume.TokenFault.TheVariants.{Form, Shape as OtherShape, Memory}

-- as many times and texts as the shape says
pub record HasCounts (shape : Shape) (times : List ℤ) (texts : List Text) : Type 0 where
  pub of_times : length times ≡ shape.times
  pub of_texts : length texts ≡ shape.texts

-- the text is a token of no tuple, neither with a digest nor without one
abbrev pub IsNoToken : List ℕ → Type 0
IsNoToken text = (digest : Option (List ℕ)) (times : List ℤ) (texts : List Text) → IsToken text digest times texts → ⊥

-- the text is a token with other counts
pub record HasOtherCounts (text : List ℕ) (shape : Shape) : Type 0 where
  pub digest : Option (List ℕ)
  pub times : List ℤ
  pub texts : List Text
  pub token : IsToken text digest times texts
  pub other : HasCounts shape times texts → ⊥

-- what an answer tells of the text: what its token spells, that it is none, or that it is one with other counts
abbrev pub Tells : List ℕ → Shape → Result Resume TokenFault → Type 0
Tells text shape (Ok resume) = IsToken text resume.digest resume.tuple.times resume.tuple.texts × HasCounts shape resume.tuple.times resume.tuple.texts
Tells text shape (Err Form) = IsNoToken text
Tells text shape (Err OtherShape) = HasOtherCounts text shape
Tells text shape (Err Memory) = Unit {0}
