-- A parser that is local, complete and viable refuses where the grammar says.
use Rattle.std.proofs.Common.{◌≡◌, ◌≢◌, inl, inr, ◌<◌, ◌+◌, ℕ, suc, false, List, [], ◌∷◌, ◌++◌, refl, ap, ◌∙◌, sym, subst, Err, length, arith}
use Rattle.std.proofs.lemmas.List.{append_cancel_right}
use Rattle.lrp_model.specs.declared.tokens.Fault.{Fault}
use Rattle.lrp_model.specs.declared.tokens.Fault.TheVariants.{Syntax, Number, TextTooLong, Period, Deep, Memory}
use Rattle.lrp_model.specs.Tokens.{Placed, Tokens, Part, Spells}
use Rattle.lrp_text.specs.Parsers.{ParseOutcome, Parser}
use Rattle.lrp_model.specs.Refused.{IsCause, Through, Stops, TextOf, IsRefusedAt}
use Rattle.lrp_text.proofs.Local.{IsLocal, Local, left_of, onto}
use Rattle.lrp_text.proofs.Complete.{Answers}

-- what a rule with a bound on its turns owes
pub record Rule {A : Type 0} (p : ℕ → Parser A) (spell : A → List Part) (Fits : A → Type 0) : Type 0 where
  pub local : (n : ℕ) → Local (p n)
  pub complete : (n : ℕ) (a : A) (ts : Tokens) → length ts < n → Spells (spell a) ts → Answers (p n ts) a [] (Fits a)
  pub viable : (n : ℕ) (ts : Tokens) (e : Fault × Tokens) → length ts < n → p n ts ≡ Err e → Stops (TextOf spell Fits) ts e

-- at a fault that is none of syntax, a text goes through
others_of : {A : Type 0} (spell : A → List Part) (Fits : A → Type 0) (front : Tokens) (k : Fault) (bad : Placed) (tail : Tokens) → Through (TextOf spell Fits false) front k (bad ∷ tail) → k ≢ Syntax → (other : Tokens) × TextOf spell Fits false (front ++ bad ∷ other)
others_of spell Fits front Syntax bad tail g ne = absurd (ne refl)
others_of spell Fits front _ bad tail g ne =
    let h : g.token ≡ bad = cc in
    (g.more, subst (λ x. TextOf spell Fits false (front ++ x ∷ g.more)) h g.begins)

-- the token at a fault shows its cause
cause_of : {A : Type 0} (spell : A → List Part) (Fits : A → Type 0) (front : Tokens) (k : Fault) (bad : Placed) (tail : Tokens) → Through (TextOf spell Fits false) front k (bad ∷ tail) → IsCause k bad.token
cause_of spell Fits front Syntax bad tail g = tt
cause_of spell Fits front Number bad tail g = let h : g.token ≡ bad = cc in subst (λ x. IsCause Number x.token) h g.cause
cause_of spell Fits front TextTooLong bad tail g = let h : g.token ≡ bad = cc in subst (λ x. IsCause TextTooLong x.token) h g.cause
cause_of spell Fits front Period bad tail g = let h : g.token ≡ bad = cc in subst (λ x. IsCause Period x.token) h g.cause
cause_of spell Fits front Deep bad tail g = tt
cause_of spell Fits front Memory bad tail g = let h : g.token ≡ bad = cc in subst (λ x. IsCause Memory x.token) h g.cause

-- the outcome for these tokens with others after the bad one
again : {A : Type 0} (p : Parser A) (ts front : Tokens) (k : Fault) (bad : Placed) (tail other : Tokens) → IsLocal p ts → p ts ≡ Err (k, bad ∷ tail) → ts ≡ front ++ bad ∷ tail → p (front ++ bad ∷ other) ≡ Err (k, bad ∷ other)
again p ts front k bad tail other l e whole =
    let o : l.outcome ≡ Err (k, bad ∷ tail) = sym l.is ∙ e in
    let same_front : l.front ≡ front = append_cancel_right l.front front (bad ∷ tail) (sym (l.whole ∙ ap (λ x. l.front ++ left_of x) o) ∙ whole) in
    ap (λ f. p (f ++ bad ∷ other)) (sym same_front) ∙ l.same bad tail other (ap left_of o) ∙ ap (λ x. onto x (bad ∷ other)) o

-- where the outcome is a fault, no lawful tree is spelled so, and at a syntax fault none at all
no_text : {A : Type 0} (o : ParseOutcome A) (a : A) (L : Type 0) (k : Fault) (us : Tokens) → o ≡ Err (k, us) → Answers o a [] L → (k ≡ Syntax → ⊥) × (L → ⊥)
no_text o a L k us e (inl d) = absurd cc
no_text o a L k us e (inr r) = let h : k ≡ r.fault.0 = cc in ((λ s. r.kind (sym h ∙ s)), r.unlawful)

-- a rule refuses exactly where its grammar says, for the cause that stands there
pub refused_at : {A : Type 0} (p : ℕ → Parser A) (spell : A → List Part) (Fits : A → Type 0) → Rule p spell Fits → (ts : Tokens) (k : Fault) (bad : Placed) (tail : Tokens) → ((n : ℕ) → length ts < n → p n ts ≡ Err (k, bad ∷ tail)) → IsRefusedAt (TextOf spell Fits) ts k bad tail
refused_at {A} p spell Fits rule ts k bad tail e =
    let s = rule.viable (suc (length ts)) ts (k, bad ∷ tail) (omega arith) (e (suc (length ts)) (omega arith)) in
    let never : (other : Tokens) (a : A) → Spells (spell a) (s.front ++ bad ∷ other) → (k ≡ Syntax → ⊥) × (Fits a → ⊥) = λ other a h.
    let n = suc (length ts + length (s.front ++ bad ∷ other)) in
    no_text (p n (s.front ++ bad ∷ other)) a (Fits a) k (bad ∷ other) (again (p n) ts s.front k bad tail other (rule.local n ts) (e n (omega arith)) s.whole) (rule.complete n a (s.front ++ bad ∷ other) (omega arith) h) in
    record {
      front = s.front;
      whole = s.whole;
      cause = cause_of spell Fits s.front k bad tail s.through;
      more = s.more;
      begins = s.begins;
      first = λ other t. (never other t.0 t.2).1 t.1;
      syntax = λ is other t. (never other t.0 t.2).0 is;
      others = others_of spell Fits s.front k bad tail s.through;
    }
