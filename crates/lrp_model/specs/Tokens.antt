-- Tokens with their places, and what spells a tree.
use Rattle.std.specs.Prelude.{◌≡◌, ℕ, List, [], ◌∷◌, ◌++◌}
use Rattle.lrp_model.specs.declared.tokens.Symbol.{Symbol}
use Rattle.lrp_model.specs.declared.tokens.Word.{Word}
use Rattle.lrp_model.specs.declared.tokens.Place.{Place}
use Rattle.lrp_model.specs.declared.written.Located.{Located}

-- a token; a text is meant without its quotes and escapes, and no bytes make a hole
pub data Token : Type 0 where
  name_token : List ℕ → Token
  word_token : Word → Token
  number_token : ℕ → Token
  text_token : List ℕ → Token
  symbol_token : Symbol → Token
  end_token : Token
  bad_token : Token
  hole_token : Token

-- a token where it stands
pub record Placed : Type 0 where
  pub token : Token
  pub place : Place

abbrev pub Tokens : Type 0
Tokens = List Placed

-- a token of a tree's text: at a place that the tree keeps, or at any
pub data Part : Type 0 where
  at : Place → Token → Part
  any : Token → Part

abbrev pub IsPart : Part → Placed → Type 0
IsPart (at p k) t = (t.token ≡ k) × (t.place ≡ p)
IsPart (any k) t = t.token ≡ k

-- the tokens begin with these parts, and others are left after them
abbrev pub Takes : List Part → Tokens → Tokens → Type 0
Takes [] ts left = ts ≡ left
Takes (p ∷ ps) [] left = ⊥
Takes (p ∷ ps) (t ∷ ts) left = IsPart p t × Takes ps ts left

-- the tokens are these parts
abbrev pub Spells : List Part → Tokens → Type 0
Spells ps ts = Takes ps ts []

-- the parts of one tree after the other, with a separator between
abbrev pub separated : {A : Type 0} → Part → (A → List Part) → List A → List Part
separated comma text [] = []
separated comma text (a ∷ []) = text a
separated comma text (a ∷ b ∷ all) = text a ++ comma ∷ separated comma text (b ∷ all)

-- the same parts, the first of them at this place
abbrev pub from : Place → List Part → List Part
from p [] = []
from p (any k ∷ ps) = at p k ∷ ps
from p (at q k ∷ ps) = at q k ∷ ps

-- the parts of something located, the first of them at its place
abbrev pub located_text : {A : Type 0} → (A → List Part) → Located A → List Part
located_text spell l = from l.place (spell l.item)
