-- A list of tokens is refused at one place alone.
use Rattle.std.proofs.Common.{◌≡◌, Bool, true, [], ◌∷◌, ◌++◌, refl, ap, ◌∙◌, sym, subst, append_assoc}
use Rattle.lrp_model.specs.declared.tokens.Fault.{Fault}
use Rattle.lrp_model.specs.Tokens.{Placed, Tokens}
use Rattle.lrp_model.specs.Refused.{IsRefusedAt}

-- two ways to split a list at a token
data Split (f g : Tokens) (a b : Placed) (xs ys : Tokens) : Type 0 where
  same : f ≡ g → a ∷ xs ≡ b ∷ ys → Split f g a b xs ys
  sooner : (x : Tokens) → g ≡ f ++ a ∷ x → Split f g a b xs ys
  later : (x : Tokens) → f ≡ g ++ b ∷ x → Split f g a b xs ys

-- one token more in front
onward : (c d : Placed) (f g : Tokens) (a b : Placed) (xs ys : Tokens) → c ≡ d → Split f g a b xs ys → Split (c ∷ f) (d ∷ g) a b xs ys
onward c d f g a b xs ys e (same h k) = let r : c ∷ f ≡ d ∷ g = cc in same r k
onward c d f g a b xs ys e (sooner x h) = let r : d ∷ g ≡ c ∷ (f ++ a ∷ x) = cc in sooner x r
onward c d f g a b xs ys e (later x h) = let r : c ∷ f ≡ d ∷ (g ++ b ∷ x) = cc in later x r

-- every two ways to split a list
split : (f g : Tokens) (a b : Placed) (xs ys : Tokens) → f ++ a ∷ xs ≡ g ++ b ∷ ys → Split f g a b xs ys
split [] [] a b xs ys e = same refl e
split [] (d ∷ g) a b xs ys e = let h : d ∷ g ≡ a ∷ g = cc in sooner g h
split (c ∷ f) [] a b xs ys e = let h : c ∷ f ≡ b ∷ f = cc in later f h
split (c ∷ f) (d ∷ g) a b xs ys e = let h : c ≡ d = cc in let t : f ++ a ∷ xs ≡ g ++ b ∷ ys = cc in onward c d f g a b xs ys h (split f g a b xs ys t)

-- of two refusals one cannot come sooner
decided : (T : Bool → Tokens → Type 0) (ts : Tokens) (k l : Fault) (a b : Placed) (xs ys : Tokens) (r : IsRefusedAt T ts k a xs) (s : IsRefusedAt T ts l b ys) → Split r.front s.front a b xs ys → a ∷ xs ≡ b ∷ ys
decided T ts k l a b xs ys r s (same e h) = h
decided T ts k l a b xs ys r s (sooner x e) = absurd (r.first (x ++ s.more) (subst (T true) (ap (λ y. y ++ s.more) e ∙ append_assoc r.front (a ∷ x) s.more) s.begins))
decided T ts k l a b xs ys r s (later x e) = absurd (s.first (x ++ r.more) (subst (T true) (ap (λ y. y ++ r.more) e ∙ append_assoc s.front (b ∷ x) r.more) r.begins))

-- a list of tokens is refused at one token alone
pub refused_once : (T : Bool → Tokens → Type 0) (ts : Tokens) (k l : Fault) (a b : Placed) (xs ys : Tokens) → IsRefusedAt T ts k a xs → IsRefusedAt T ts l b ys → a ∷ xs ≡ b ∷ ys
refused_once T ts k l a b xs ys r s = decided T ts k l a b xs ys r s (split r.front s.front a b xs ys (sym r.whole ∙ s.whole))
