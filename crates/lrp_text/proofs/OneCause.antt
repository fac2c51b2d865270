-- Two refusals of one list of tokens stand at one token, and are of one kind where the token shows it.
use Rattle.std.proofs.Common.{◌≡◌, Bool, false, ◌∷◌, ◌++◌, refl, ap, ◌∙◌, sym, subst, arith}
use Rattle.std.proofs.lemmas.List.{append_cancel_right}
use Rattle.lrp_model.specs.declared.tokens.Fault.{Fault}
use Rattle.lrp_model.specs.declared.tokens.Fault.TheVariants.{Syntax, Number, TextTooLong, Period, Deep, Memory}
use Rattle.lrp_model.specs.Tokens.{Token, Placed, Tokens}
use Rattle.lrp_model.specs.Tokens.Token.{number_token}
use Rattle.lrp_model.specs.Refused.{IsCause, IsRefusedAt}
use Rattle.lrp_text.proofs.Unique.{refused_once}

-- no token shows two causes
number_or_period : (t : Token) → IsCause Number t → IsCause Period t → ⊥
number_or_period (number_token n) a b = absurd (omega arith)
number_or_period _ a b = a

-- nor these two
number_or_text : (t : Token) → IsCause Number t → IsCause TextTooLong t → ⊥
number_or_text (number_token n) a b = b
number_or_text _ a b = a

-- nor these
period_or_text : (t : Token) → IsCause Period t → IsCause TextTooLong t → ⊥
period_or_text (number_token n) a b = b
period_or_text _ a b = a

-- equal lists have equal heads
heads : (a b : Placed) (xs ys : Tokens) → a ∷ xs ≡ b ∷ ys → a ≡ b
heads a b xs ys e = cc

-- two refusals of one list of tokens
module _ (T : Bool → Tokens → Type 0) (ts : Tokens) (k l : Fault) (a b : Placed) (xs ys : Tokens) (r : IsRefusedAt T ts k a xs) (s : IsRefusedAt T ts l b ys) where
  -- they leave the same tokens
  same_rest : a ∷ xs ≡ b ∷ ys
  same_rest = refused_once T ts k l a b xs ys r s

  -- they stand at one token
  pub same_token : a ≡ b
  same_token = heads a b xs ys same_rest

  -- after the same tokens
  pub same_front : r.front ≡ s.front
  same_front = append_cancel_right r.front s.front (b ∷ ys) (sym (r.whole ∙ ap (λ x. r.front ++ x) same_rest) ∙ s.whole)

  -- the second one's cause at the token of the first
  pub second_cause : IsCause l a.token
  second_cause = let P : Placed → Type 0 = λ t. IsCause l t.token in subst P (sym same_token) s.cause

  -- where one is for the syntax, so is the other
  pub for_syntax : k ≡ Syntax → (l ≡ Syntax → ⊥) → ⊥
  for_syntax e ne =
      let other = s.others ne in
      let P : Tokens → Type 0 = λ x. T false x in
      let here : s.front ++ b ∷ other.0 ≡ r.front ++ a ∷ other.0 = ap (λ x. x ++ b ∷ other.0) (sym same_front) ∙ ap (λ t. r.front ++ t ∷ other.0) (sym same_token) in
      r.syntax e other.0 (subst P here other.1)

-- the kinds that a token shows by itself, and syntax
abbrev pub IsShown : Fault → Type 0
IsShown Syntax = Unit {0}
IsShown Number = Unit {0}
IsShown TextTooLong = Unit {0}
IsShown Period = Unit {0}
IsShown _ = ⊥

-- a kind that is none of syntax
abbrev IsOther : Fault → Type 0
IsOther Syntax = ⊥
IsOther _ = Unit {0}

-- it is none
pub apart_syntax : (k : Fault) → IsOther k → k ≡ Syntax → ⊥
apart_syntax k o e = subst IsOther e o

-- two refusals of one list of tokens are of one kind, where each shows its kind
pub same_kind : (T : Bool → Tokens → Type 0) (ts : Tokens) (k l : Fault) (a b : Placed) (xs ys : Tokens) → IsRefusedAt T ts k a xs → IsRefusedAt T ts l b ys → IsShown k → IsShown l → k ≡ l
same_kind T ts Syntax Syntax a b xs ys r s m n = refl
same_kind T ts Number Number a b xs ys r s m n = refl
same_kind T ts TextTooLong TextTooLong a b xs ys r s m n = refl
same_kind T ts Period Period a b xs ys r s m n = refl
same_kind T ts Syntax Number a b xs ys r s m n = absurd (for_syntax T ts Syntax Number a b xs ys r s refl (apart_syntax Number tt))
same_kind T ts Number Syntax a b xs ys r s m n = absurd (for_syntax T ts Syntax Number b a ys xs s r refl (apart_syntax Number tt))
same_kind T ts Syntax TextTooLong a b xs ys r s m n = absurd (for_syntax T ts Syntax TextTooLong a b xs ys r s refl (apart_syntax TextTooLong tt))
same_kind T ts TextTooLong Syntax a b xs ys r s m n = absurd (for_syntax T ts Syntax TextTooLong b a ys xs s r refl (apart_syntax TextTooLong tt))
same_kind T ts Syntax Period a b xs ys r s m n = absurd (for_syntax T ts Syntax Period a b xs ys r s refl (apart_syntax Period tt))
same_kind T ts Period Syntax a b xs ys r s m n = absurd (for_syntax T ts Syntax Period b a ys xs s r refl (apart_syntax Period tt))
same_kind T ts Number Period a b xs ys r s m n = absurd (number_or_period a.token r.cause (second_cause T ts Number Period a b xs ys r s))
same_kind T ts Period Number a b xs ys r s m n = absurd (number_or_period b.token s.cause (second_cause T ts Number Period b a ys xs s r))
same_kind T ts Number TextTooLong a b xs ys r s m n = absurd (number_or_text a.token r.cause (second_cause T ts Number TextTooLong a b xs ys r s))
same_kind T ts TextTooLong Number a b xs ys r s m n = absurd (number_or_text b.token s.cause (second_cause T ts Number TextTooLong b a ys xs s r))
same_kind T ts Period TextTooLong a b xs ys r s m n = absurd (period_or_text a.token r.cause (second_cause T ts Period TextTooLong a b xs ys r s))
same_kind T ts TextTooLong Period a b xs ys r s m n = absurd (period_or_text b.token s.cause (second_cause T ts Period TextTooLong b a ys xs s r))
same_kind T ts _ Deep a b xs ys r s m n = absurd n
same_kind T ts _ Memory a b xs ys r s m n = absurd n
same_kind T ts Deep _ a b xs ys r s m n = absurd m
same_kind T ts Memory _ a b xs ys r s m n = absurd m
