-- Steps that may be refused, one after the other.
use Rattle.std.specs.Prelude.{◌≡◌, Result, Ok, Err}
use Rattle.lrp_outputs.specs.declared.refusal.Refusal.{Refusal}

-- what comes after a step: where that one is refused, the same refusal
abbrev pub After : {A B : Type 0} → Result A Refusal → (A → Result B Refusal → Type 0) → Result B Refusal → Type 0
After (Ok a) Next result = Next a result
After (Err refusal) Next result = result ≡ Err refusal

-- a step, and then the next one
pub record Then {A B : Type 0} (First : Result A Refusal → Type 0) (Next : A → Result B Refusal → Type 0) (result : Result B Refusal) : Type 0 where
  pub first : Result A Refusal
  pub is : First first
  pub next : After first Next result
