-- Files that were read.
use Rattle.std.specs.Prelude.{ℕ, List, Result}
use Rattle.lrp_model.specs.Texts.{Identifier}
use Rattle.lrp_top.specs.Seen.{ShelfSeen, AreBytesOf}
use Rattle.lrp_outputs.specs.declared.refusal.Refusal.{Refusal}

-- a file's bytes, and what they say
pub record Source (A : Type 0) : Type 0 where
  pub bytes : List ℕ
  pub says : A

-- a step that is taken with the bytes of the file of this name
pub record FromFile {A : Type 0} (seen : ShelfSeen) (name : Identifier) (Step : List ℕ → Result A Refusal → Type 0) (result : Result A Refusal) : Type 0 where
  pub bytes : List ℕ
  pub told : AreBytesOf seen name bytes
  pub is : Step bytes result
