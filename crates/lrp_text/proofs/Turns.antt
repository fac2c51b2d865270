-- A repetition, one turn at a time, for loops that read it.
use Rattle.std.proofs.Common.{◌≡◌, ◌<◌, ℕ, zero, suc, Bool, true, false, List, [], ◌∷◌, ◌++◌, refl, ◌∙◌, sym, Ok, Err, arith, length}
use Rattle.lrp_model.specs.declared.tokens.Fault.{Fault}
use Rattle.lrp_model.specs.declared.tokens.Fault.TheVariants.{Syntax, Number, TextTooLong, Period, Deep, Memory}
use Rattle.lrp_model.specs.Tokens.{Placed, Tokens}
use Rattle.lrp_text.specs.Parsers.{Parser, ParseOutcome, eat, look, separated_from, until_from, Reads}

-- a member and a separator
more : {A : Type 0} (p : Parser A) (comma : Placed → Bool) (n : ℕ) (found : List A) (ts us vs : Tokens) (a : A) → p ts ≡ Ok (a, us) → eat comma us ≡ Ok (true, vs) → separated_from p comma (suc n) found ts ≡ separated_from p comma n (found ++ a ∷ []) vs
unfolding separated_from
more p comma n found ts us vs a e d = rw (e, d) refl

-- a member and no separator
last : {A : Type 0} (p : Parser A) (comma : Placed → Bool) (n : ℕ) (found : List A) (ts us vs : Tokens) (a : A) → p ts ≡ Ok (a, us) → eat comma us ≡ Ok (false, vs) → separated_from p comma (suc n) found ts ≡ Ok (found ++ a ∷ [], vs)
unfolding separated_from
last p comma n found ts us vs a e d = rw (e, d) refl

-- no member
none : {A : Type 0} (p : Parser A) (comma : Placed → Bool) (n : ℕ) (found : List A) (ts us : Tokens) (k : Fault) → p ts ≡ Err (k, us) → separated_from p comma (suc n) found ts ≡ Err (k, us)
unfolding separated_from
none p comma n found ts us k e = rw e refl

-- for a number of turns that is greater than another
pub more_below : {A : Type 0} (p : Parser A) (comma : Placed → Bool) (n k : ℕ) (found : List A) (ts us vs : Tokens) (a : A) → k < n → p ts ≡ Ok (a, us) → eat comma us ≡ Ok (true, vs) → length vs < k → (m : ℕ) × (length vs < m) × (separated_from p comma n found ts ≡ separated_from p comma m (found ++ a ∷ []) vs)
more_below p comma zero k found ts us vs a lt e d s = absurd (omega arith)
more_below p comma (suc n) k found ts us vs a lt e d s = (n, omega arith, more p comma n found ts us vs a e d)

-- the last member
pub last_below : {A : Type 0} (p : Parser A) (comma : Placed → Bool) (n k : ℕ) (found : List A) (ts us vs : Tokens) (a : A) → k < n → p ts ≡ Ok (a, us) → eat comma us ≡ Ok (false, vs) → separated_from p comma n found ts ≡ Ok (found ++ a ∷ [], vs)
last_below p comma zero k found ts us vs a lt e d = absurd (omega arith)
last_below p comma (suc n) k found ts us vs a lt e d = last p comma n found ts us vs a e d

-- the fault of one outcome, handed on by another
pub lifts : {A B : Type 0} (o : ParseOutcome A) (q : ParseOutcome B) (us : Tokens) (fault : Fault) → ((k : Fault) → o ≡ Err (k, us) → q ≡ Err (k, us)) → Reads o (Err fault) us → Reads q (Err fault) us
lifts o q us Memory f e = tt
lifts o q us Syntax f e = f Syntax e
lifts o q us Number f e = f Number e
lifts o q us TextTooLong f e = f TextTooLong e
lifts o q us Period f e = f Period e
lifts o q us Deep f e = f Deep e

-- a member that fails
pub none_below : {A : Type 0} (p : Parser A) (comma : Placed → Bool) (n k : ℕ) (found : List A) (ts us : Tokens) (result : ParseOutcome (List A)) (fault : Fault) → k < n → Reads (p ts) (Err fault) us → separated_from p comma n found ts ≡ result → Reads result (Err fault) us
none_below p comma zero k found ts us result fault lt e w = absurd (omega arith)
none_below p comma (suc n) k found ts us result fault lt e w = lifts (p ts) result us fault (λ kind d. sym w ∙ none p comma n found ts us kind d) e

-- a list that a token ends, one turn at a time
ends : {A : Type 0} (p : Parser A) (stop : Placed → Bool) (n : ℕ) (found : List A) (ts : Tokens) → look false stop ts ≡ Ok (true, ts) → until_from p stop (suc n) found ts ≡ Ok (found, ts)
unfolding until_from
ends p stop n found ts e = rw e refl

-- a member before the token that ends the list
goes : {A : Type 0} (p : Parser A) (stop : Placed → Bool) (n : ℕ) (found : List A) (ts us : Tokens) (a : A) → look false stop ts ≡ Ok (false, ts) → p ts ≡ Ok (a, us) → until_from p stop (suc n) found ts ≡ until_from p stop n (found ++ a ∷ []) us
unfolding until_from
goes p stop n found ts us a e d = rw (e, d) refl

-- a fault before that token
fails : {A : Type 0} (p : Parser A) (stop : Placed → Bool) (n : ℕ) (found : List A) (ts us : Tokens) (k : Fault) → look false stop ts ≡ Ok (false, ts) → p ts ≡ Err (k, us) → until_from p stop (suc n) found ts ≡ Err (k, us)
unfolding until_from
fails p stop n found ts us k e d = rw (e, d) refl

-- the token that ends the list comes next
pub ends_below : {A : Type 0} (p : Parser A) (stop : Placed → Bool) (n k : ℕ) (found : List A) (ts : Tokens) → k < n → look false stop ts ≡ Ok (true, ts) → until_from p stop n found ts ≡ Ok (found, ts)
ends_below p stop zero k found ts lt e = absurd (omega arith)
ends_below p stop (suc n) k found ts lt e = ends p stop n found ts e

-- a member comes next
pub goes_below : {A : Type 0} (p : Parser A) (stop : Placed → Bool) (n k : ℕ) (found : List A) (ts us : Tokens) (a : A) → k < n → look false stop ts ≡ Ok (false, ts) → p ts ≡ Ok (a, us) → length us < k → (m : ℕ) × (length us < m) × (until_from p stop n found ts ≡ until_from p stop m (found ++ a ∷ []) us)
goes_below p stop zero k found ts us a lt e d s = absurd (omega arith)
goes_below p stop (suc n) k found ts us a lt e d s = (n, omega arith, goes p stop n found ts us a e d)

-- a member that fails
pub fails_below : {A : Type 0} (p : Parser A) (stop : Placed → Bool) (n k : ℕ) (found : List A) (ts us : Tokens) (result : ParseOutcome (List A)) (fault : Fault) → k < n → look false stop ts ≡ Ok (false, ts) → Reads (p ts) (Err fault) us → until_from p stop n found ts ≡ result → Reads result (Err fault) us
fails_below p stop zero k found ts us result fault lt e d w = absurd (omega arith)
fails_below p stop (suc n) k found ts us result fault lt e d w = lifts (p ts) result us fault (λ kind f. sym w ∙ fails p stop n found ts us kind e f) d
