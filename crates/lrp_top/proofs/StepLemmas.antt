-- What comes after a step, for another result.
use Rattle.std.proofs.Common.{◌≡◌, Result, Ok, Err, ap}
use Rattle.lrp_top.specs.Steps.{After, Then}
use Rattle.lrp_outputs.specs.declared.refusal.Refusal.{Refusal}

-- what comes after a result
after : {A B C : Type 0} (Next : A → Result B Refusal → Type 0) (Other : A → Result C Refusal → Type 0) (first : Result A Refusal) (result : Result B Refusal) (other : Result C Refusal) → ((a : A) → Next a result → Other a other) → ((refusal : Refusal) → result ≡ Err refusal → other ≡ Err refusal)
    → After first Next result → After first Other other
after Next Other (Ok a) result other f g n = f a n
after Next Other (Err refusal) result other f g e = g refusal e

-- what comes after a step
pub mapped : {A B C : Type 0} (First : Result A Refusal → Type 0) (Next : A → Result B Refusal → Type 0) (Other : A → Result C Refusal → Type 0) (result : Result B Refusal) (other : Result C Refusal) → ((a : A) → Next a result → Other a other) → ((refusal : Refusal) → result ≡ Err refusal → other ≡ Err refusal)
    → Then First Next result → Then First Other other
mapped First Next Other result other f g h = record { first = h.first; is = h.is; next = after Next Other h.first result other f g h.next }

-- a refusal as a result
abbrev pub refused : (B : Type 0) → Refusal → Result B Refusal
refused B refusal = Err refusal

-- the same refusal of another result
pub same_refusal : {B C : Type 0} (one other : Refusal) → refused B one ≡ refused B other → refused C one ≡ refused C other
same_refusal {B} {C} one other e = let same : one ≡ other = cc in ap (refused C) same

-- a result is no refusal
pub no_refusal : {B : Type 0} {P : Type 0} (b : B) (refusal : Refusal) → Ok b ≡ Err refusal → P
no_refusal b refusal e = cc
