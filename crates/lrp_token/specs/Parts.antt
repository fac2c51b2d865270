-- What the parts of a token spell.
use Rattle.std.specs.Prelude.{◌≡◌, ◌<◌, ◌≤◌, ◌++◌, ℕ, ℤ, List, Option, None, Some, Result, Ok, Err, codes}
use Rattle.std.specs.List.{AllByRecursion}
use Rattle.lrp_model.specs.Texts.{Text}
use Rattle.lrp_model.specs.DataTexts.{IsDataText}
use Rattle.lrp_model.specs.Printed.{joined_by}
use Rattle.lrp_model.specs.PrintedPages.{hex, tuple_text, IsDigest, IsSmall}
use Rattle.lrp_token.specs.declared.resume.TokenFault.{TokenFault}
use Rattle.lrp_token.specs.declared.resume.TokenFault.TheVariants.{Form, Shape, Memory}

-- what is read is so; of a text that is refused for its form nothing is so; no part has a shape; memory may be refused
abbrev pub IsPartRead : {A : Type 0} → (A → Type 0) → Result A TokenFault → Type 0
IsPartRead {A} Is (Ok a) = Is a
IsPartRead {A} Is (Err Form) = (a : A) → Is a → ⊥
IsPartRead {A} Is (Err Shape) = ⊥
IsPartRead {A} Is (Err Memory) = Unit {0}

-- the text is that of this value, which is one that a token may have
pub record IsSpelling {A : Type 0} (Fits : A → Type 0) (spelling : A → List ℕ) (text : List ℕ) (value : A) : Type 0 where
  pub fits : Fits value
  pub spelled : text ≡ spelling value

-- the text is that of these values, with commas between
pub record IsListOf {A : Type 0} (Fits : A → Type 0) (spelling : A → List ℕ) (text : List ℕ) (values : List A) : Type 0 where
  pub fit : AllByRecursion Fits values
  pub spelled : text ≡ joined_by (codes ",") spelling values

-- the text is that of these bytes in hex
pub record IsHex (text bytes : List ℕ) : Type 0 where
  pub small : AllByRecursion (λ b. b < 256) bytes
  pub spelled : text ≡ hex bytes

-- the text is that of these times and texts
pub record IsTuple (text : List ℕ) (times : List ℤ) (texts : List Text) : Type 0 where
  pub small : AllByRecursion IsSmall times
  pub whole : AllByRecursion IsDataText texts
  pub spelled : text ≡ tuple_text times texts

-- the text is that of a digest, and after a slash that of these times and texts
abbrev pub HasDigest : List ℕ → Option (List ℕ) → List ℤ → List Text → Type 0
HasDigest text None times texts = ⊥
HasDigest text (Some digest) times texts = IsDigest digest × ((rest : List ℕ) × IsTuple rest times texts × (text ≡ hex digest ++ (codes "/" ++ rest)))
