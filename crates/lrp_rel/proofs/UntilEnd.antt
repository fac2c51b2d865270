-- A text of items up to its end: what its rule owes, by what the rule of an item owes.
use Rattle.std.proofs.Common.{◌≡◌, ◌<◌, ◌≤◌, ◌+◌, ℕ, suc, Bool, false, List, [], ◌∷◌, ◌++◌, inl, inr, refl, ap, sym, subst, Err, length, arith, append-nil}
use Rattle.std.specs.List.{AllByRecursion, flat_map}
use Rattle.lrp_model.specs.declared.tokens.Fault.{Fault}
use Rattle.lrp_model.specs.Lexing.{start}
use Rattle.lrp_model.specs.Tokens.{Tokens, Part, Takes, Spells}
use Rattle.lrp_model.specs.Tokens.Token.{end_token}
use Rattle.lrp_model.specs.Tokens.Part.{any}
use Rattle.lrp_model.specs.Refused.{Stops, TextOf}
use Rattle.lrp_text.specs.Parsers.{ParseOutcome, Parser, ◌>>=◌, pure, until_from}
use Rattle.lrp_text.specs.Taking.{is_end, is_end_token, expect_end}
use Rattle.lrp_text.proofs.Local.{Local, accept_local, bind_local, pure_local, until_local}
use Rattle.lrp_text.proofs.Complete.{Answers, Anything, accepts_back, answers_then, first_sees_any, MemberUntil, until_back, joined_long}
use Rattle.lrp_text.proofs.Sound.{Sound, bind_ok, accept_sound, takes_join, takes_split, takes_shorter, until_sound}
use Rattle.lrp_text.proofs.Viable.{Viable, ViableBelow, One, accept_viable, sub_short, spells_join, always, until_viable}
use Rattle.lrp_text.proofs.TokenTests.{end_expected, end_required, end_stops}
use Rattle.lrp_text.proofs.Refusal.{Rule}

-- ---- the end

-- the part that it is
abbrev end_part : Unit {0} → Part
end_part u = any end_token

-- the tokens that it is
abbrev ending : Tokens
ending = record { token = end_token; place = start } ∷ []

-- the end that is read is spelled so, and is lawful
end_sound : Sound expect_end (One end_part) (λ u. Unit {0})
end_sound ts q e = (accept_sound _ end_part end_expected ts q e, tt)

-- the tokens before a fault of the end begin one
end_viable : Viable expect_end (One end_part) (λ u. Unit {0})
end_viable = accept_viable _ end_part (λ u. Unit {0}) end_stops

-- ---- one tree

-- a tree that took all tokens
abbrev whole : {A : Type 0} → A → A × Tokens
whole a = (a, [])

-- the same outcome gives one tree
one_answer : {A : Type 0} (o : ParseOutcome A) (a b : A) (L M : Type 0) → L → Answers o a [] L → Answers o b [] M → a ≡ b
one_answer o a b L M l (inl e) (inl d) = let h : whole a ≡ whole b = cc in ap (λ p. p.0) h
one_answer o a b L M l (inl e) (inr d) = cc d.is
one_answer o a b L M l (inr e) d = absurd (e.unlawful l)

-- ---- items

-- what the rule of an item owes
pub record ItemRule {A : Type 0} (item : ℕ → Parser A) (text : A → List Part) (Fits : A → Type 0) : Type 0 where
  pub local : (n : ℕ) → Local (item n)
  pub member : (n : ℕ) → MemberUntil (item n) text Fits Anything is_end n
  pub sound : (n : ℕ) → Sound (item n) text Fits
  pub viable : (n : ℕ) → ViableBelow n (item n) text Fits
  pub some : (a : A) → 0 < length (text a)

-- items, and then the end
abbrev pub items : {A : Type 0} → (ℕ → Parser A) → ℕ → Parser (List A)
items item n = until_from (item n) is_end n [] >>= (λ xs. expect_end >>= (λ u. pure xs))

module _ {A : Type 0} (item : ℕ → Parser A) (text : A → List Part) (Fits : A → Type 0) (rule : ItemRule item text Fits) where
  abbrev Spelled : List A → List Part
  Spelled xs = flat_map text xs ++ any end_token ∷ []

  abbrev AllFit : List A → Type 0
  AllFit = AllByRecursion Fits

  -- they depend on their tokens and on the next one alone
  items_local : (n : ℕ) → Local (items item n)
  items_local n =
      bind_local (until_from (item n) is_end n []) _ (until_local _ _ (rule.local n) n []) (λ xs.
      bind_local expect_end _ (accept_local _) (λ u. pure_local _))

  -- items that fewer tokens spell than the number of turns are read, or refused for another cause than syntax where they are not lawful
  items_complete : (n : ℕ) (xs : List A) (ts : Tokens) → length ts < n → Spells (Spelled xs) ts → Answers (items item n ts) xs [] (AllFit xs)
  items_complete n xs ts lt h =
      let k = takes_split (flat_map text xs) (any end_token ∷ []) ts [] h in
      let size : length k.0 + length (flat_map text xs) ≡ length ts = takes_shorter (flat_map text xs) ts k.0 k.1 in
      let few : length xs ≤ length (flat_map text xs) = joined_long text rule.some xs in
      let L : Type 0 = AllFit xs in
      answers_then (until_from (item n) is_end n [] ts) _ xs k.0 xs [] L
      (until_back (rule.member n) n [] xs (omega (arith, few, size, lt)) ts k.0 lt k.1 (first_sees_any false is_end_token end_token [] k.0 [] k.2) tt)
      (answers_then (expect_end k.0) _ tt [] xs [] L ((accepts_back _ (any end_token) tt L end_required).reads k.0 [] k.2 tt) (inl refl))

  -- the items before the end that are read are spelled so, and are lawful
  front_sound : (n : ℕ) → Sound (until_from (item n) is_end n []) (flat_map text) AllFit
  front_sound n ts q e =
      let k = until_sound (item n) text Fits is_end (rule.sound n) n [] ts q e in
      let R : List A → Type 0 = λ l. Takes (flat_map text l) ts q.1 × AllFit l in
      subst R (sym k.made) (k.spelled, k.fits)

  -- items that are read are lawful, and the tokens spell them
  pub items_sound : (n : ℕ) → Sound (items item n) Spelled AllFit
  items_sound n ts q e =
      let xs = bind_ok (until_from (item n) is_end n [] ts) _ q e in
      let u = bind_ok (expect_end xs.0.1) _ q xs.2 in
      let h : (xs.0.0, u.0.1) ≡ q = cc in
      let read = front_sound n ts xs.0 xs.1 in
      subst (λ y. Takes (Spelled y.0) ts y.1 × AllFit y.0) h
      (takes_join (flat_map text xs.0.0) (any end_token ∷ []) ts xs.0.1 u.0.1 read.0 (end_sound xs.0.1 u.0 u.1).0, read.1)

  -- the tokens before a fault begin some
  items_viable : (n : ℕ) (ts : Tokens) (e : Fault × Tokens) → length ts < n → items item n ts ≡ Err e → Stops (TextOf Spelled AllFit) ts e
  items_viable n ts e lt h =
      let R : Bool → Tokens → Type 0 = TextOf Spelled AllFit in
      sub_short (until_from (item n) is_end n []) _ (flat_map text) AllFit R ts e (front_sound n) (λ d. until_viable (item n) text Fits is_end n (rule.sound n) (rule.viable n) rule.some n [] ts e lt lt d) h
      (λ c xs x spelled fit. (ending, (xs, fit, spells_join (flat_map text xs) (any end_token ∷ []) x ending spelled (refl, refl))))
      (λ xs h1 us s1 f1 l1 d1. sub_short expect_end _ (One end_part) (λ u. Unit {0}) (λ c x. R c (h1 ++ x)) us e end_sound (end_viable us e) d1
      (λ c u x spelled fit. ([], (xs, always (AllFit xs) c f1, spells_join (flat_map text xs) (any end_token ∷ []) h1 (x ++ []) s1 (subst (λ y. Spells (One end_part u) y) (sym (append-nil x)) spelled))))
      (λ u h2 vs s2 f2 l2 d2. absurd cc))

  -- so the rule of items has all that a rule owes
  pub items_rule : Rule (items item) Spelled AllFit
  items_rule = record { local = items_local; complete = items_complete; viable = items_viable }

  -- tokens that spell lawful items spell no others
  pub items_once : (xs ys : List A) (ts : Tokens) → AllFit xs → Spells (Spelled xs) ts → Spells (Spelled ys) ts → xs ≡ ys
  items_once xs ys ts fits h k =
      let n = suc (length ts) in
      one_answer (items item n ts) xs ys (AllFit xs) (AllFit ys) fits (items_complete n xs ts (omega arith) h) (items_complete n ys ts (omega arith) k)
