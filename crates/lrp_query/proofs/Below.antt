-- Lists with separators whose members ask for a bound on the tokens, since they may hold lists themselves.
use Rattle.std.proofs.Common.{◌≡◌, inl, inr, ◌<◌, ◌+◌, ℕ, zero, suc, Bool, true, false, List, [], ◌∷◌, ◌++◌, refl, ap, ◌∙◌, sym, subst, Ok, Err, if◌then◌else◌, append_assoc, append-nil, length, arith}
use Rattle.std.specs.List.{AllByRecursion}
use Rattle.lrp_model.specs.declared.tokens.Fault.{Fault}
use Rattle.lrp_model.specs.Tokens.{Placed, Tokens, Part, IsPart, Takes, Spells, separated}
use Rattle.lrp_model.specs.Refused.{Stops, TextOf}
use Rattle.lrp_text.specs.Parsers.{Parser, pure, eat, separated_from}
use Rattle.lrp_text.proofs.Complete.{Answers, answers_then, answers_as, eats_none, FollowsList}
use Rattle.lrp_text.proofs.Sound.{Sound, takes_join, takes_split, takes_shorter, takes_onto, takes_front, Front, Eaten, eat_ok}
use Rattle.lrp_text.proofs.Viable.{ViableBelow, SomeText, bind_err, eat_err, before, after_front, both, fits_as}

-- ---- complete

module _ {A : Type 0} (p : Parser A) (text : A → List Part) (Fits : A → Type 0) (follow : Tokens → Type 0) (comma : Part) (is_comma : Placed → Bool) (size : ℕ)
    (one : (a : A) (ts left : Tokens) → length ts < size → Takes (text a) ts left → follow left → Answers (p ts) a left (Fits a))
    (comma_follows : (t : Placed) (ts : Tokens) → IsPart comma t → follow (t ∷ ts))
    (comma_seen : (t : Placed) → IsPart comma t → is_comma t ≡ true) where
  -- a member, a separator and the members that follow
  next_below : (n : ℕ) (found : List A) (a : A) (rest : List Part) (made : List A) (L : Type 0) (ts us left : Tokens) → (L → Fits a) → length ts < size → Takes (text a) ts us → Takes (comma ∷ rest) us left → ((vs : Tokens) → length vs < length us → Takes rest vs left → Answers (separated_from p is_comma n (found ++ a ∷ []) vs) made left L) → Answers (separated_from p is_comma (suc n) found ts) made left L
  unfolding separated_from eat
  next_below n found a rest made L ts [] left fit short h k again = absurd k
  next_below n found a rest made L ts (t ∷ us) left fit short h k again =
      let seen : is_comma t ≡ true = comma_seen t k.0 in
      answers_then (p ts) _ a (t ∷ us) made left L (answers_as (p ts) a (t ∷ us) (Fits a) L fit (one a ts (t ∷ us) short h (comma_follows t us k.0)))
      (rw seen (again us (omega arith) k.1))

  -- members with separators between are read back
  pub separated_below : (n : ℕ) (found : List A) (a : A) (all : List A) → length all < n → (ts left : Tokens) → length ts < size → Takes (separated comma text (a ∷ all)) ts left → FollowsList follow is_comma left → Answers (separated_from p is_comma n found ts) (found ++ a ∷ all) left (AllByRecursion Fits (a ∷ all))
  unfolding separated_from
  separated_below zero found a all lt ts left short h g = absurd (omega arith)
  separated_below (suc n) found a [] lt ts left short h g =
      let L : Type 0 = AllByRecursion Fits (a ∷ []) in
      let stops : eat is_comma left ≡ Ok (false, left) = eats_none is_comma left left refl g.no_comma in
      answers_then (p ts) _ a left (found ++ a ∷ []) left L (answers_as (p ts) a left (Fits a) L (λ l. l.0) (one a ts left short h g.member))
      (rw stops (inl refl))
  separated_below (suc n) found a (b ∷ all) lt ts left short h g =
      let L : Type 0 = AllByRecursion Fits (a ∷ b ∷ all) in
      let k = takes_split (text a) (comma ∷ separated comma text (b ∷ all)) ts left h in
      let fewer : length k.0 + length (text a) ≡ length ts = takes_shorter (text a) ts k.0 k.1 in
      next_below n found a (separated comma text (b ∷ all)) (found ++ a ∷ b ∷ all) L ts k.0 left (λ l. l.0) short k.1 k.2 (λ vs less e.
      let R : List A → Type 0 = λ l. Answers (separated_from p is_comma n (found ++ a ∷ []) vs) l left L in
      subst R (append_assoc found (a ∷ []) (b ∷ all)) (answers_as _ _ left (AllByRecursion Fits (b ∷ all)) L (λ l. l.1) (separated_below n (found ++ a ∷ []) b all (omega arith) vs left (omega arith) e g)))

-- ---- viable

-- a list of one member
one_text : {A : Type 0} (comma : Part) (spell : A → List Part) (Fits : A → Type 0) (c : Bool) (x : Tokens) → TextOf spell Fits c x → (y : Tokens) × SomeText comma spell Fits c (x ++ y)
one_text comma spell Fits c x t = ([], (t.0, [], both _ _ c t.1 tt, subst (λ z. Spells (spell t.0) z) (sym (append-nil x)) t.2))

-- one more member in front of a list
next_text : {A : Type 0} (comma : Part) (spell : A → List Part) (Fits : A → Type 0) (a : A) (head : Tokens) (t : Placed) → Fits a → Spells (spell a) head → IsPart comma t → (c : Bool) (x : Tokens) → SomeText comma spell Fits c x → SomeText comma spell Fits c ((head ++ t ∷ []) ++ x)
next_text comma spell Fits a head t fit spelled is c x s = (a, s.0 ∷ s.1, fits_as _ _ c (λ r. (fit, r)) s.2, subst (λ z. Spells (separated comma spell (a ∷ s.0 ∷ s.1)) z) (sym (append_assoc head (t ∷ []) x)) (takes_join (spell a) (comma ∷ separated comma spell (s.0 ∷ s.1)) (head ++ t ∷ x) (t ∷ x) [] (takes_onto (spell a) head (t ∷ x) spelled) (is, s.3)))

module _ {A : Type 0} (p : Parser A) (spell : A → List Part) (Fits : A → Type 0) (comma : Part) (is_comma : Placed → Bool) (size : ℕ)
    (told : (t : Placed) → is_comma t ≡ true → IsPart comma t) (sound : Sound p spell Fits) (viable : ViableBelow size p spell Fits) where
  -- a separator, and the members that follow
  next_stops : (n : ℕ) → ((found : List A) (us : Tokens) (e : Fault × Tokens) → length us < n → length us < size → separated_from p is_comma n found us ≡ Err e → Stops (SomeText comma spell Fits) us e) → (found : List A) (a : A) (more : Bool) (ts us vs : Tokens) (e : Fault × Tokens) → (if more then separated_from p is_comma n (found ++ a ∷ []) else pure (found ++ a ∷ [])) vs ≡ Err e → length us < suc n → length us < size → Front (spell a) ts us → Fits a → Eaten is_comma us more vs → Stops (SomeText comma spell Fits) ts e
  next_stops n again found a false ts us vs e h lt short one fit eaten = absurd cc
  next_stops n again found a true ts us vs e h lt short one fit eaten =
      let shorter : length us ≡ length (eaten.0 ∷ vs) = ap length eaten.1 in
      after_front (SomeText comma spell Fits) (SomeText comma spell Fits) (one.head ++ eaten.0 ∷ []) ts vs e
      (one.whole ∙ ap (λ x. one.head ++ x) eaten.1 ∙ sym (append_assoc one.head (eaten.0 ∷ []) vs))
      (next_text comma spell Fits a one.head eaten.0 fit one.spelled (told eaten.0 eaten.2))
      (again (found ++ a ∷ []) vs e (omega arith) (omega arith) h)

  -- a list with separators stops where its members do
  pub separated_stops : (n : ℕ) (found : List A) (ts : Tokens) (e : Fault × Tokens) → length ts < n → length ts < size → separated_from p is_comma n found ts ≡ Err e → Stops (SomeText comma spell Fits) ts e
  unfolding separated_from
  separated_stops zero found ts e lt short h = absurd (omega arith)
  separated_stops (suc n) found ts e lt short h = elim (bind_err (p ts) _ e h) [
    | inl f ↦ before (TextOf spell Fits) (SomeText comma spell Fits) ts e (one_text comma spell Fits) (viable ts e short f)
    | inr a ↦ elim (bind_err (eat is_comma a.0.1) _ e a.2) [
      | inl f ↦ absurd (eat_err is_comma a.0.1 e f)
      | inr b ↦
          let one = sound ts a.0 a.1 in
          let less : length a.0.1 + length (spell a.0.0) ≡ length ts = takes_shorter (spell a.0.0) ts a.0.1 one.0 in
          next_stops n (separated_stops n) found a.0.0 b.0.0 ts a.0.1 b.0.1 e b.2 (omega arith) (omega arith) (takes_front (spell a.0.0) ts a.0.1 one.0) one.1 (eat_ok is_comma a.0.1 b.0 b.1)
    ]
  ]
