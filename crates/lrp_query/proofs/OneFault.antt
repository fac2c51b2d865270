-- Bytes have at most one fault by themselves or by a grammar.
use Rattle.std.proofs.Common.{◌≡◌, ◌⊎◌, inl, inr, ℕ, Bool, List, refl, ap, ◌∙◌, sym, subst}
use Rattle.lrp_model.specs.declared.tokens.Place.{Place}
use Rattle.lrp_model.specs.declared.tokens.Fault.{Fault as TokenFault}
use Rattle.lrp_model.specs.declared.tokens.Fault.TheVariants.{Syntax as syntax, Number as number, TextTooLong as text_too_long, Period as period, Deep as deep, Memory as memory}
use Rattle.lrp_model.specs.declared.faults.QueryFault.{QueryFault}
use Rattle.lrp_model.specs.declared.faults.QueryKind.{QueryKind}
use Rattle.lrp_model.specs.declared.faults.QueryKind.TheVariants.{Utf8, Syntax, Number, Period, Deep, UnknownRelation, Arity, Sort, Unbound, Rebound, Wide, TextTooLong, UnknownSort, Defined}
use Rattle.lrp_model.specs.Tokens.{Placed, Tokens}
use Rattle.lrp_model.specs.Lexing.{tokens_in}
use Rattle.lrp_model.specs.Refused.{IsCause}
use Rattle.lrp_text.proofs.OneCause.{same_token, same_kind, same_front, second_cause, for_syntax, IsShown, apart_syntax}
use Rattle.lrp_text.proofs.OneFault.{IsCutOrMet, both_once}
use Rattle.lrp_model.specs.TextFaults.{Grammatical, IsRankedIn, IsNoTextIn, IsTextFaultIn}

-- two refusals of one text
module _ (signs : Bool) (Texts : Grammatical) (bytes : List ℕ) (k l : TokenFault) (p q : Place) (r : IsNoTextIn signs Texts bytes k p) (s : IsNoTextIn signs Texts bytes l q) where
  -- they stand at one token
  pub at_token : r.refusal.bad ≡ s.refusal.bad
  at_token = same_token Texts (tokens_in signs bytes) k l r.refusal.bad s.refusal.bad r.refusal.tail s.refusal.tail r.refusal.refused s.refusal.refused

  -- and at one place
  pub same_place : p ≡ q
  same_place = r.refusal.place_is ∙ ap (λ t. t.place) at_token ∙ sym s.refusal.place_is

  -- kinds that tokens show by themselves are one
  pub shown_kind : IsShown k → IsShown l → k ≡ l
  shown_kind = same_kind Texts (tokens_in signs bytes) k l r.refusal.bad s.refusal.bad r.refusal.tail s.refusal.tail r.refusal.refused s.refusal.refused

  -- they stand after the same tokens
  after_front : r.refusal.refused.front ≡ s.refusal.refused.front
  after_front = same_front Texts (tokens_in signs bytes) k l r.refusal.bad s.refusal.bad r.refusal.tail s.refusal.tail r.refusal.refused s.refusal.refused

  -- the second one's rank, at the token of the first
  second_rank : IsRankedIn Texts l r.refusal.refused.front r.refusal.bad.token
  second_rank =
      let P : Placed → Type 0 = λ t. IsRankedIn Texts l s.refusal.refused.front t.token in
      let Q : Tokens → Type 0 = λ f. IsRankedIn Texts l f r.refusal.bad.token in
      subst Q (sym after_front) (subst P (sym at_token) s.ranked)

  -- two ranks that exclude each other
  pub ranks : (IsRankedIn Texts k r.refusal.refused.front r.refusal.bad.token → IsRankedIn Texts l r.refusal.refused.front r.refusal.bad.token → ⊥) → ⊥
  ranks a = a r.ranked second_rank

  -- a rank of the first that excludes a cause of the second
  pub rank_or_cause : (IsRankedIn Texts k r.refusal.refused.front r.refusal.bad.token → IsCause l r.refusal.bad.token → ⊥) → ⊥
  rank_or_cause a = a r.ranked (second_cause Texts (tokens_in signs bytes) k l r.refusal.bad s.refusal.bad r.refusal.tail s.refusal.tail r.refusal.refused s.refusal.refused)

  -- where one is for the syntax, so is the other
  pub both_syntax : k ≡ syntax → (l ≡ syntax → ⊥) → ⊥
  both_syntax = for_syntax Texts (tokens_in signs bytes) k l r.refusal.bad s.refusal.bad r.refusal.tail s.refusal.tail r.refusal.refused s.refusal.refused

-- the kinds that are met while a text is read
abbrev IsMet : TokenFault → Type 0
IsMet memory = ⊥
IsMet _ = Unit {0}

-- the kind of a fault, from the one that was met
abbrev kind_met : TokenFault → QueryKind
kind_met syntax = Syntax
kind_met number = Number
kind_met text_too_long = TextTooLong
kind_met period = Period
kind_met deep = Deep
kind_met memory = Utf8

-- a kind is for the depth, or a token shows it
met_kind : (k : TokenFault) → IsMet k → (k ≡ deep) ⊎ IsShown k
met_kind deep m = inl refl
met_kind syntax m = inr tt
met_kind number m = inr tt
met_kind text_too_long m = inr tt
met_kind period m = inr tt
met_kind memory m = absurd m

-- a fault by its kind and place
abbrev fault_of : QueryKind → Place → QueryFault
fault_of k p = record { kind = k; place = p }

module _ (signs : Bool) (Texts : Grammatical) where
  -- of two refusals none is for the depth alone
  never_alone : (bytes : List ℕ) (l : TokenFault) (p q : Place) → IsNoTextIn signs Texts bytes deep p → IsNoTextIn signs Texts bytes l q → IsShown l → ⊥
  never_alone bytes syntax p q r s n = both_syntax signs Texts bytes syntax deep q p s r refl (apart_syntax deep tt)
  never_alone bytes number p q r s n = rank_or_cause signs Texts bytes deep number p q r s (λ a b. a.1 b)
  never_alone bytes period p q r s n = ranks signs Texts bytes deep period p q r s (λ a b. b a.0)
  never_alone bytes text_too_long p q r s n = ranks signs Texts bytes deep text_too_long p q r s (λ a b. b a.0)
  never_alone bytes _ p q r s n = n

  -- two refusals of one text are for one kind, where each is for the depth or a token shows it
  either_kind : (bytes : List ℕ) (k l : TokenFault) (p q : Place) → IsNoTextIn signs Texts bytes k p → IsNoTextIn signs Texts bytes l q → (k ≡ deep) ⊎ IsShown k → (l ≡ deep) ⊎ IsShown l → k ≡ l
  either_kind bytes k l p q r s (inl e) (inl d) = e ∙ sym d
  either_kind bytes k l p q r s (inr m) (inr n) = shown_kind signs Texts bytes k l p q r s m n
  either_kind bytes k l p q r s (inl e) (inr n) = let P : TokenFault → Type 0 = λ j. IsNoTextIn signs Texts bytes j p in absurd (never_alone bytes l p q (subst P e r) s n)
  either_kind bytes k l p q r s (inr m) (inl d) = let P : TokenFault → Type 0 = λ j. IsNoTextIn signs Texts bytes j q in absurd (never_alone bytes k q p (subst P d s) r m)

  -- two refusals of one text are for one kind
  one_kind : (bytes : List ℕ) (k l : TokenFault) (p q : Place) → IsNoTextIn signs Texts bytes k p → IsNoTextIn signs Texts bytes l q → IsMet k → IsMet l → k ≡ l
  one_kind bytes k l p q r s m n = either_kind bytes k l p q r s (met_kind k m) (met_kind l n)

  -- a fault that was met
  abbrev IsMetAt : List ℕ → TokenFault → Place → Type 0
  IsMetAt bytes j p = IsMet j × IsNoTextIn signs Texts bytes j p

  -- a fault is one of the bytes, or one that was met
  group_of : (bytes : List ℕ) (k : QueryKind) (f : QueryFault) → IsTextFaultIn signs Texts bytes k f → IsCutOrMet Utf8 kind_met (IsMetAt bytes) bytes k f.place
  group_of bytes Utf8 f r = inl (refl, r)
  group_of bytes Syntax f r = inr (syntax, refl, (tt, r))
  group_of bytes Number f r = inr (number, refl, (tt, r))
  group_of bytes TextTooLong f r = inr (text_too_long, refl, (tt, r))
  group_of bytes Period f r = inr (period, refl, (tt, r))
  group_of bytes Deep f r = inr (deep, refl, (tt, r))
  group_of bytes UnknownRelation f r = absurd r
  group_of bytes Arity f r = absurd r
  group_of bytes Sort f r = absurd r
  group_of bytes Unbound f r = absurd r
  group_of bytes Rebound f r = absurd r
  group_of bytes Wide f r = absurd r
  group_of bytes UnknownSort f r = absurd r
  group_of bytes Defined f r = absurd r

  -- those that were met are one
  met_once : (bytes : List ℕ) (j i : TokenFault) (p q : Place) → IsMetAt bytes j p → IsMetAt bytes i q → (j ≡ i) × (p ≡ q)
  met_once bytes j i p q r s = (one_kind bytes j i p q r.1 s.1 r.0 s.0, same_place signs Texts bytes j i p q r.1 s.1)

  -- a text has at most one fault
  pub fault_once : (bytes : List ℕ) (f g : QueryFault) → IsTextFaultIn signs Texts bytes f.kind f → IsTextFaultIn signs Texts bytes g.kind g → f ≡ g
  fault_once bytes f g a b =
      let h = both_once Utf8 kind_met (IsMetAt bytes) bytes (λ j p m. m.1.refusal.utf8) (met_once bytes) f.kind g.kind f.place g.place (group_of bytes f.kind f a) (group_of bytes g.kind g b) in
      ap (λ k. fault_of k f.place) h.0 ∙ ap (fault_of g.kind) h.1
