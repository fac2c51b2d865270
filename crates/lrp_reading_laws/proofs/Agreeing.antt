-- Parsers that read alike whatever has fewer tokens than both have turns for their lists.
use Rattle.std.proofs.Common.{◌≡◌, ◌<◌, ◌≤◌, ◌+◌, ℕ, zero, suc, Bool, true, false, List, [], ◌∷◌, ◌++◌, refl, ap, ◌∙◌, sym, subst, Ok, Err, if◌then◌else◌, length, arith}
use Rattle.std.proofs.lemmas.List.{length-append}
use Rattle.lrp_model.specs.Tokens.{Placed, Tokens, Part}
use Rattle.lrp_text.specs.Parsers.{ParseOutcome, Parser, and_then, ◌>>=◌, pure, eaten, eat, look, separated_from, until_from, listed}
use Rattle.lrp_text.specs.Taking.{located, here}
use Rattle.lrp_text.proofs.Local.{IsLocal, Local, left_of, pure_local, look_local}
use Rattle.lrp_text.proofs.Sound.{Sound, takes_shorter}

-- the outcomes are the same, and no more tokens are left
pub record Alike {A : Type 0} (ts : Tokens) (o q : ParseOutcome A) : Type 0 where
  pub same : o ≡ q
  pub left : length (left_of o) ≤ length ts

-- two parsers read alike what has fewer tokens than a number
abbrev pub Agree : {A : Type 0} → ℕ → Parser A → Parser A → Type 0
Agree size p q = (ts : Tokens) → length ts < size → Alike ts (p ts) (q ts)

-- a parser that has read something of what has fewer tokens has taken one
abbrev pub TakesOne : {A : Type 0} → ℕ → Parser A → Type 0
TakesOne {A} size p = (ts : Tokens) (a : A) (us : Tokens) → length ts < size → p ts ≡ Ok (a, us) → length us < length ts

-- ---- one parser after another

after_alike : {A B : Type 0} (o : ParseOutcome A) (f g : A → Parser B) (ts : Tokens) → length (left_of o) ≤ length ts → ((a : A) (us : Tokens) → o ≡ Ok (a, us) → length us ≤ length ts → Alike us (f a us) (g a us)) → Alike ts (and_then o f) (and_then o g)
after_alike (Ok p) f g ts le k = let r = k p.0 p.1 refl le in record { same = r.same; left = omega (arith, le, r.left) }
after_alike (Err e) f g ts le k = record { same = refl; left = le }

pub then_alike : {A B : Type 0} (o q : ParseOutcome A) (f g : A → Parser B) (ts : Tokens) → Alike ts o q → ((a : A) (us : Tokens) → o ≡ Ok (a, us) → length us ≤ length ts → Alike us (f a us) (g a us)) → Alike ts (and_then o f) (and_then q g)
then_alike o q f g ts h k = subst (λ x. Alike ts (and_then o f) (and_then x g)) h.same (after_alike o f g ts h.left k)

-- after a token that may be eaten
eaten_alike : {B : Type 0} (b : Bool) (t : Placed) (us : Tokens) (f g : Bool → Parser B) → ((vs : Tokens) → length vs < length (t ∷ us) → Alike vs (f true vs) (g true vs)) → Alike (t ∷ us) (f false (t ∷ us)) (g false (t ∷ us)) → Alike (t ∷ us) (and_then (eaten b t us) f) (and_then (eaten b t us) g)
eaten_alike true t us f g k h = let r = k us (omega arith) in record { same = r.same; left = omega (arith, r.left) }
eaten_alike false t us f g k h = h

pub eat_alike : {B : Type 0} (test : Placed → Bool) (us : Tokens) (f g : Bool → Parser B) → ((vs : Tokens) → length vs < length us → Alike vs (f true vs) (g true vs)) → Alike us (f false us) (g false us) → Alike us (and_then (eat test us) f) (and_then (eat test us) g)
unfolding eat
eat_alike test [] f g k h = h
eat_alike test (t ∷ us) f g k h = eaten_alike (test t) t us f g k h

-- after a look at the next token
pub look_alike : {A B : Type 0} (none : A) (test : Placed → A) (us : Tokens) (f g : A → Parser B) → ((a : A) → Alike us (f a us) (g a us)) → Alike us (and_then (look none test us) f) (and_then (look none test us) g)
unfolding look
look_alike none test [] f g k = k none
look_alike none test (t ∷ us) f g k = k (test t)

-- a parser that counts no turns
local_alike : {A : Type 0} (p : Parser A) (ts : Tokens) → IsLocal p ts → Alike ts (p ts) (p ts)
local_alike p ts l =
    let size : length ts ≡ length l.front + length (left_of l.outcome) = ap length l.whole ∙ length-append l.front (left_of l.outcome) in
    let low : length (left_of l.outcome) ≤ length ts = omega (arith, size) in
    record { same = refl; left = subst (λ o. length (left_of o) ≤ length ts) (sym l.is) low }

-- a choice
pub chosen_alike : {A : Type 0} (b : Bool) (p q r s : Parser A) (ts : Tokens) → Alike ts (p ts) (q ts) → Alike ts (r ts) (s ts) → Alike ts ((if b then p else r) ts) ((if b then q else s) ts)
chosen_alike true p q r s ts h k = h
chosen_alike false p q r s ts h k = k

module _ (size : ℕ) where
  pub by_itself : {A : Type 0} (p : Parser A) → Local p → Agree size p p
  by_itself p local ts lt = local_alike p ts (local ts)

  pub bind_agree : {A B : Type 0} (p q : Parser A) (f g : A → Parser B) → Agree size p q → ((a : A) → Agree size (f a) (g a)) → Agree size (p >>= f) (q >>= g)
  bind_agree p q f g h k ts lt = then_alike (p ts) (q ts) f g ts (h ts lt) (λ a us e le. k a us (omega (arith, lt, le)))

  pub if_agree : {A : Type 0} (b : Bool) (p q r s : Parser A) → Agree size p q → Agree size r s → Agree size (if b then p else r) (if b then q else s)
  if_agree b p q r s h k ts lt = chosen_alike b p q r s ts (h ts lt) (k ts lt)

  -- ---- lists

  -- with separators
  pub separated_agree : {A : Type 0} (p q : Parser A) (comma : Placed → Bool) → Agree size p q → (n m : ℕ) (found : List A) (ts : Tokens) → length ts < size → length ts < n → length ts < m → Alike ts (separated_from p comma n found ts) (separated_from q comma m found ts)
  unfolding separated_from
  separated_agree p q comma h zero m found ts lt a b = absurd (omega (arith, a))
  separated_agree p q comma h (suc n) zero found ts lt a b = absurd (omega (arith, b))
  separated_agree {A} p q comma h (suc n) (suc m) found ts lt a b =
      then_alike (p ts) (q ts) _ _ ts (h ts lt)
      (λ x us e le. eat_alike comma us _ _ (λ vs less. separated_agree p q comma h n m (found ++ x ∷ []) vs (omega (arith, lt, le, less)) (omega (arith, a, le, less)) (omega (arith, b, le, less))) (record { same = refl; left = omega arith }))

  -- up to a token that ends them
  pub until_agree : {A : Type 0} (p q : Parser A) (stop : Placed → Bool) → Agree size p q → TakesOne size p → (n m : ℕ) (found : List A) (ts : Tokens) → length ts < size → length ts < n → length ts < m → Alike ts (until_from p stop n found ts) (until_from q stop m found ts)
  unfolding until_from
  until_agree p q stop h some zero m found ts lt a b = absurd (omega (arith, a))
  until_agree p q stop h some (suc n) zero found ts lt a b = absurd (omega (arith, b))
  until_agree {A} p q stop h some (suc n) (suc m) found ts lt a b =
      look_alike false stop ts _ _ (λ stops. chosen_alike stops (pure found) (pure found) _ _ ts (record { same = refl; left = omega arith })
      (then_alike (p ts) (q ts) _ _ ts (h ts lt) (λ x us e le.
      let less = some ts x us lt e in
      until_agree p q stop h some n m (found ++ x ∷ []) us (omega (arith, lt, le)) (omega (arith, a, less)) (omega (arith, b, less)))))

  pub listed_agree : {A : Type 0} (p q : Parser A) (comma stop : Placed → Bool) → Agree size p q → (n m : ℕ) → size ≤ n → size ≤ m → Agree size (listed p comma stop n) (listed q comma stop m)
  unfolding listed
  listed_agree p q comma stop h n m a b ts lt =
      look_alike false stop ts _ _ (λ none. chosen_alike none (pure []) (pure []) _ _ ts (record { same = refl; left = omega arith }) (separated_agree p q comma h n m [] ts lt (omega (arith, lt, a)) (omega (arith, lt, b))))

  pub located_agree : {A : Type 0} (p q : Parser A) → Agree size p q → Agree size (located p) (located q)
  located_agree p q h = bind_agree here here _ _ (by_itself here (look_local _ _)) (λ place. bind_agree p q _ _ h (λ item. by_itself _ (pure_local _)))

-- what reads a text that has a token takes one
pub takes_one : {A : Type 0} (size : ℕ) (p : Parser A) (spell : A → List Part) (Fits : A → Type 0) → Sound p spell Fits → ((a : A) → 0 < length (spell a)) → TakesOne size p
takes_one size p spell Fits sound some ts a us lt e =
    let whole = takes_shorter (spell a) ts us (sound ts (a, us) e).0 in
    let one = some a in
    omega (arith, whole, one)
