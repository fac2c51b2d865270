-- What is spelled so is read, or refused for another cause than syntax where it is not lawful.
use Rattle.std.proofs.Common.{◌≡◌, ◌≢◌, ◌⊎◌, inl, inr, ◌<◌, ◌≤◌, ℕ, zero, suc, Bool, true, false, List, [], ◌∷◌, ◌++◌, refl, ap, ◌∙◌, sym, subst, Ok, Err, append_assoc, append-nil, Result, length, arith, ◌+◌}
use Rattle.std.specs.List.{AllByRecursion, flat_map}
use Rattle.std.proofs.lemmas.List.{length-append}
use Rattle.lrp_model.specs.declared.tokens.Fault.{Fault}
use Rattle.lrp_model.specs.declared.tokens.Fault.TheVariants.{Syntax}
use Rattle.lrp_model.specs.declared.tokens.Place.{Place}
use Rattle.lrp_model.specs.Tokens.Part.{at, any}
use Rattle.lrp_model.specs.Tokens.{Token, Placed, Tokens, Part, IsPart, Takes, separated}
use Rattle.lrp_text.specs.Parsers.{ParseOutcome, Parser, and_then, ◌>>=◌, pure, taken, accept, look, eaten, eat, separated_from, until_from, listed}
use Rattle.lrp_text.proofs.Sound.{takes_split, takes_shorter}

-- refused for another cause than syntax, which no lawful text is
pub record Refused {A : Type 0} (o : ParseOutcome A) (L : Type 0) : Type 0 where
  pub unlawful : L → ⊥
  pub fault : Fault × Tokens
  pub is : o ≡ Err fault
  pub kind : fault.0 ≢ Syntax

-- the outcome is a and the tokens left, or a refusal
abbrev pub Answers : {A : Type 0} → ParseOutcome A → A → Tokens → Type 0 → Type 0
Answers o a left L = (o ≡ Ok (a, left)) ⊎ Refused o L

-- the parser reads a from tokens that begin with the parts, where what is left may follow
pub record ReadsBack {A : Type 0} (p : Parser A) (parts : List Part) (a : A) (L : Type 0) (follow : Tokens → Type 0) : Type 0 where
  pub reads : (ts left : Tokens) → Takes parts ts left → follow left → Answers (p ts) a left L

-- anything may follow
abbrev pub Anything : Tokens → Type 0
Anything ts = Unit {0}

-- an answer, then another one
pub answers_then : {A B : Type 0} (o : ParseOutcome A) (f : A → Parser B) (a : A) (us : Tokens) (b : B) (left : Tokens) (L : Type 0) → Answers o a us L → Answers (f a us) b left L → Answers (and_then o f) b left L
answers_then o f a us b left L (inl e) two = let R : ParseOutcome _ → Type 0 = λ x. Answers (and_then x f) b left L in subst R (sym e) two
answers_then o f a us b left L (inr r) two = inr (record { unlawful = r.unlawful; fault = r.fault; is = ap (λ x. and_then x f) r.is; kind = r.kind })

-- an answer for what is lawful of a part
pub answers_as : {A : Type 0} (o : ParseOutcome A) (a : A) (left : Tokens) (L M : Type 0) → (M → L) → Answers o a left L → Answers o a left M
answers_as o a left L M f (inl e) = inl e
answers_as o a left L M f (inr r) = inr (record { unlawful = λ m. r.unlawful (f m); fault = r.fault; is = r.is; kind = r.kind })

-- a part's law is a whole's
pub back_as : {A : Type 0} {p : Parser A} {parts : List Part} {a : A} (L M : Type 0) {follow : Tokens → Type 0} → (M → L) → ReadsBack p parts a L follow → ReadsBack p parts a M follow
back_as {A} {p} {parts} {a} L M f r = record { reads = λ ts left h g. answers_as (p ts) a left L M f (r.reads ts left h g) }

-- one parser after the other
pub bind_back : {A B : Type 0} {p : Parser A} (f : A → Parser B) {P Q : List Part} {a : A} {b : B} {L : Type 0} {F G : Tokens → Type 0} → ReadsBack p P a L F → ReadsBack (f a) Q b L G → ((ts left : Tokens) → Takes Q ts left → G left → F ts) → ReadsBack (p >>= f) (P ++ Q) b L G
bind_back {A} {B} {p} f {P} {Q} {a} {b} {L} one two may = record {
  reads = λ ts left h g.
      let k = takes_split P Q ts left h in
      answers_then (p ts) f a k.0 b left L (one.reads ts k.0 k.1 (may k.0 left k.2 g)) (two.reads k.0 left k.2 g);
}

-- one after another that anything may follow
pub then_back : {A B : Type 0} {p : Parser A} (f : A → Parser B) {P Q : List Part} {a : A} {b : B} {L : Type 0} {G : Tokens → Type 0} → ReadsBack p P a L Anything → ReadsBack (f a) Q b L G → ReadsBack (p >>= f) (P ++ Q) b L G
then_back f one two = bind_back f one two (λ ts left h g. tt)

-- nothing is read of no parts
pub pure_back : {A : Type 0} (a : A) (L : Type 0) (G : Tokens → Type 0) → ReadsBack (pure a) [] a L G
pure_back a L G = record { reads = λ ts left h g. inl (ap (λ x. Ok (a, x)) h) }

-- the test gives the value, or a fault that is none of syntax
abbrev pub Tells : {A : Type 0} → Result A Fault → A → Type 0 → Type 0
Tells r a L = (r ≡ Ok a) ⊎ ((L → ⊥) × (k : Fault) × (r ≡ Err k) × (k ≢ Syntax))

-- what the test of a token gives is the answer
taken_reads : {A : Type 0} (r : Result A Fault) (t : Placed) (ts left : Tokens) (a : A) (L : Type 0) → Tells r a L → ts ≡ left → Answers (taken r t ts) a left L
taken_reads r t ts left a L (inl e) d = inl (ap (λ x. taken x t ts) e ∙ ap (λ x. Ok (a, x)) d)
taken_reads r t ts left a L (inr n) d = inr (record { unlawful = n.0; fault = (n.1, t ∷ ts); is = ap (λ x. taken x t ts) n.2; kind = n.3 })

-- a part that a test gives the value of is read
accept_reads : {A : Type 0} (test : Placed → Result A Fault) (part : Part) (a : A) (L : Type 0) → ((t : Placed) → IsPart part t → Tells (test t) a L) → (ts left : Tokens) → Takes (part ∷ []) ts left → Answers (accept test ts) a left L
unfolding accept
accept_reads test part a L told [] left h = absurd h
accept_reads test part a L told (t ∷ ts) left h = taken_reads (test t) t ts left a L (told t h.0) h.1

-- a token is read back where its test gives its value or a fault that is none of syntax
pub accept_back : {A : Type 0} (test : Placed → Result A Fault) (part : Part) (a : A) (L : Type 0) → ((t : Placed) → IsPart part t → Tells (test t) a L) → ReadsBack (accept test) (part ∷ []) a L Anything
accept_back test part a L told = record { reads = λ ts left h g. accept_reads test part a L told ts left h }

-- a test that has no fault but syntax
pub accepts_back : {A : Type 0} (test : Placed → Result A Fault) (part : Part) (a : A) (L : Type 0) → ((t : Placed) → IsPart part t → test t ≡ Ok a) → ReadsBack (accept test) (part ∷ []) a L Anything
accepts_back test part a L told = accept_back test part a L (λ t h. inl (told t h))

-- a part of the test is eaten
eat_reads : (test : Placed → Bool) (part : Part) → ((t : Placed) → IsPart part t → test t ≡ true) → (ts left : Tokens) → Takes (part ∷ []) ts left → eat test ts ≡ Ok (true, left)
unfolding eat
eat_reads test part told [] left h = absurd h
eat_reads test part told (t ∷ ts) left h = ap (λ r. eaten r t ts) (told t h.0) ∙ ap (λ x. Ok (true, x)) h.1

-- a token of the test is eaten
pub eat_back : (test : Placed → Bool) (part : Part) (L : Type 0) → ((t : Placed) → IsPart part t → test t ≡ true) → ReadsBack (eat test) (part ∷ []) true L Anything
eat_back test part L told = record { reads = λ ts left h g. inl (eat_reads test part told ts left h) }

-- the next token is not one of the test
abbrev pub IsNot : (Placed → Bool) → Tokens → Type 0
IsNot test [] = Unit {0}
IsNot test (t ∷ ts) = test t ≡ false

-- where the next token is none of the test, none is eaten
pub eats_none : (test : Placed → Bool) (ts left : Tokens) → ts ≡ left → IsNot test left → eat test ts ≡ Ok (false, left)
unfolding eat
eats_none test [] left h g = ap (λ x. Ok (false, x)) h
eats_none test (t ∷ ts) left h g = ap (λ r. eaten r t ts) (subst (IsNot test) (sym h) g) ∙ ap (λ x. Ok (false, x)) h

-- the same as a law of no parts
pub eat_none : (test : Placed → Bool) (L : Type 0) → ReadsBack (eat test) [] false L (IsNot test)
eat_none test L = record { reads = λ ts left h g. inl (eats_none test ts left h g) }

-- the next token gives this value
abbrev pub Sees : {A : Type 0} → A → (Placed → A) → A → Tokens → Type 0
Sees none test a [] = none ≡ a
Sees none test a (t ∷ ts) = test t ≡ a

-- the next token is looked at and left
pub looks : {A : Type 0} (none : A) (test : Placed → A) (a : A) (ts left : Tokens) → ts ≡ left → Sees none test a left → look none test ts ≡ Ok (a, left)
unfolding look
looks none test a [] left h g = let k : none ≡ a = subst (Sees none test a) (sym h) g in ap (λ x. Ok (x, [])) k ∙ ap (λ x. Ok (a, x)) h
looks none test a (t ∷ ts) left h g = let k : test t ≡ a = subst (Sees none test a) (sym h) g in ap (λ x. Ok (x, t ∷ ts)) k ∙ ap (λ x. Ok (a, x)) h

-- the same as a law of no parts
pub look_back : {A : Type 0} (none : A) (test : Placed → A) (a : A) (L : Type 0) → ReadsBack (look none test) [] a L (Sees none test a)
look_back none test a L = record { reads = λ ts left h g. inl (looks none test a ts left h g) }

-- what a parser of the members of a list owes
pub record MemberBack {A : Type 0} (p : Parser A) (text : A → List Part) (Fits : A → Type 0) (follow : Tokens → Type 0) (comma : Part) (is_comma : Placed → Bool) : Type 0 where
  pub one : (a : A) → ReadsBack p (text a) a (Fits a) follow
  pub comma_follows : (t : Placed) (ts : Tokens) → IsPart comma t → follow (t ∷ ts)
  pub comma_seen : (t : Placed) → IsPart comma t → is_comma t ≡ true

-- what may follow a list
pub record FollowsList (follow : Tokens → Type 0) (is_comma : Placed → Bool) (left : Tokens) : Type 0 where
  pub member : follow left
  pub no_comma : IsNot is_comma left

-- a member, a separator and the members that follow
next_back : {A : Type 0} {p : Parser A} {text : A → List Part} {Fits : A → Type 0} {follow : Tokens → Type 0} {comma : Part} {is_comma : Placed → Bool} (m : MemberBack p text Fits follow comma is_comma) (n : ℕ) (found : List A) (a : A) (rest : List Part) (made : List A) (L : Type 0) (ts us left : Tokens) → (L → Fits a) → Takes (text a) ts us → Takes (comma ∷ rest) us left → ((vs : Tokens) → Takes rest vs left → Answers (separated_from p is_comma n (found ++ a ∷ []) vs) made left L) → Answers (separated_from p is_comma (suc n) found ts) made left L
unfolding separated_from eat
next_back m n found a rest made L ts [] left fit h k again = absurd k
next_back {A} {p} {text} {Fits} {follow} {comma} {is_comma} m n found a rest made L ts (t ∷ us) left fit h k again =
    let seen : is_comma t ≡ true = m.comma_seen t k.0 in
    answers_then (p ts) _ a (t ∷ us) made left L (answers_as (p ts) a (t ∷ us) (Fits a) L fit ((m.one a).reads ts (t ∷ us) h (m.comma_follows t us k.0)))
    (rw seen (again us k.1))

-- members with separators between are read back
pub separated_back : {A : Type 0} {p : Parser A} {text : A → List Part} {Fits : A → Type 0} {follow : Tokens → Type 0} {comma : Part} {is_comma : Placed → Bool} (m : MemberBack p text Fits follow comma is_comma) (n : ℕ) (found : List A) (a : A) (all : List A) → length all < n → (ts left : Tokens) → Takes (separated comma text (a ∷ all)) ts left → FollowsList follow is_comma left → Answers (separated_from p is_comma n found ts) (found ++ a ∷ all) left (AllByRecursion Fits (a ∷ all))
unfolding separated_from
separated_back m zero found a all lt ts left h g = absurd (omega arith)
separated_back {A} {p} {text} {Fits} {follow} {comma} {is_comma} m (suc n) found a [] lt ts left h g =
    let L : Type 0 = AllByRecursion Fits (a ∷ []) in
    let stops : eat is_comma left ≡ Ok (false, left) = eats_none is_comma left left refl g.no_comma in
    answers_then (p ts) _ a left (found ++ a ∷ []) left L (answers_as (p ts) a left (Fits a) L (λ l. l.0) ((m.one a).reads ts left h g.member))
    (rw stops (inl refl))
separated_back {A} {p} {text} {Fits} {follow} {comma} {is_comma} m (suc n) found a (b ∷ all) lt ts left h g =
    let L : Type 0 = AllByRecursion Fits (a ∷ b ∷ all) in
    let k = takes_split (text a) (comma ∷ separated comma text (b ∷ all)) ts left h in
    next_back m n found a (separated comma text (b ∷ all)) (found ++ a ∷ b ∷ all) L ts k.0 left (λ l. l.0) k.1 k.2 (λ vs e.
    let R : List A → Type 0 = λ l. Answers (separated_from p is_comma n (found ++ a ∷ []) vs) l left L in
    subst R (append_assoc found (a ∷ []) (b ∷ all)) (answers_as _ _ left (AllByRecursion Fits (b ∷ all)) L (λ l. l.1) (separated_back m n (found ++ a ∷ []) b all (omega arith) vs left e g)))

-- any number of members, up to a token that ends them; a member is read back of fewer tokens than the size, so that it may hold lists itself
pub record MemberUntil {A : Type 0} (p : Parser A) (text : A → List Part) (Fits : A → Type 0) (follow : Tokens → Type 0) (stop : Placed → Bool) (size : ℕ) : Type 0 where
  pub one : (a : A) (ts left : Tokens) → length ts < size → Takes (text a) ts left → follow left → Answers (p ts) a left (Fits a)
  pub begins : (a : A) (ts left : Tokens) → Takes (text a) ts left → Sees false stop false ts × follow ts

-- what may follow a member comes next, before the members that are left and after the last one
follows_all : {A : Type 0} {p : Parser A} {text : A → List Part} {Fits : A → Type 0} {follow : Tokens → Type 0} {stop : Placed → Bool} {size : ℕ} (m : MemberUntil p text Fits follow stop size) (all : List A) (ts left : Tokens) → Takes (flat_map text all) ts left → follow left → follow ts
follows_all {A} {p} {text} {Fits} {follow} m [] ts left h g = subst follow (sym h) g
follows_all {A} {p} {text} m (a ∷ all) ts left h g = let k = takes_split (text a) (flat_map text all) ts left h in (m.begins a ts k.0 k.1).1

-- a list up to the token that ends it is read back
pub until_back : {A : Type 0} {p : Parser A} {text : A → List Part} {Fits : A → Type 0} {follow : Tokens → Type 0} {stop : Placed → Bool} {size : ℕ} (m : MemberUntil p text Fits follow stop size) (n : ℕ) (found all : List A) → length all < n → (ts left : Tokens) → length ts < size → Takes (flat_map text all) ts left → Sees false stop true left → follow left → Answers (until_from p stop n found ts) (found ++ all) left (AllByRecursion Fits all)
unfolding until_from
until_back m zero found all lt ts left short h s g = absurd (omega arith)
until_back {A} {p} {text} {Fits} {follow} {stop} m (suc n) found [] lt ts left short h s g =
    let stops : look false stop ts ≡ Ok (true, left) = looks false stop true ts left h s in
    rw stops (inl (ap (λ x. Ok (x, left)) (sym (append-nil found))))
until_back {A} {p} {text} {Fits} {follow} {stop} m (suc n) found (a ∷ all) lt ts left short h s g =
    let L : Type 0 = AllByRecursion Fits (a ∷ all) in
    let k = takes_split (text a) (flat_map text all) ts left h in
    let fewer : length k.0 + length (text a) ≡ length ts = takes_shorter (text a) ts k.0 k.1 in
    let goes : look false stop ts ≡ Ok (false, ts) = looks false stop false ts ts refl (m.begins a ts k.0 k.1).0 in
    let R : List A → Type 0 = λ l. Answers (until_from p stop n (found ++ a ∷ []) k.0) l left L in
    rw goes (answers_then (p ts) _ a k.0 (found ++ a ∷ all) left L (answers_as (p ts) a k.0 (Fits a) L (λ l. l.0) (m.one a ts k.0 short k.1 (follows_all m all k.0 left k.2 g)))
    (subst R (append_assoc found (a ∷ []) all) (answers_as _ _ left (AllByRecursion Fits all) L (λ l. l.1) (until_back m n (found ++ a ∷ []) all (omega arith) k.0 left (omega arith) k.2 s g))))

-- what the next token of a list is seen as
first_sees : {A : Type 0} (text : A → List Part) (comma : Part) (stop : Placed → Bool) → ((a : A) (ts left : Tokens) → Takes (text a) ts left → Sees false stop false ts) → (a : A) (all : List A) (ts left : Tokens) → Takes (separated comma text (a ∷ all)) ts left → Sees false stop false ts
first_sees text comma stop begins a [] ts left h = begins a ts left h
first_sees text comma stop begins a (b ∷ all) ts left h = let k = takes_split (text a) (comma ∷ separated comma text (b ∷ all)) ts left h in begins a ts k.0 k.1

-- a list with separators, which may be empty, is read back
pub listed_back : {A : Type 0} {p : Parser A} {text : A → List Part} {Fits : A → Type 0} {follow : Tokens → Type 0} {comma : Part} {is_comma : Placed → Bool} (m : MemberBack p text Fits follow comma is_comma) (stop : Placed → Bool) → ((a : A) (ts left : Tokens) → Takes (text a) ts left → Sees false stop false ts) → (n : ℕ) (all : List A) → length all ≤ n → (ts left : Tokens) → Takes (separated comma text all) ts left → Sees false stop true left → FollowsList follow is_comma left → Answers (listed p is_comma stop n ts) all left (AllByRecursion Fits all)
unfolding listed
listed_back m stop begins n [] lt ts left h s g =
    let stops : look false stop ts ≡ Ok (true, left) = looks false stop true ts left h s in
    rw stops (inl refl)
listed_back {A} {p} {text} {Fits} {follow} {comma} {is_comma} m stop begins n (a ∷ all) lt ts left h s g =
    let goes : look false stop ts ≡ Ok (false, ts) = looks false stop false ts ts refl (first_sees text comma stop begins a all ts left h) in
    rw goes (separated_back m n [] a all (omega arith) ts left h g)

-- what comes next of parts that begin with this token
pub first_sees_any : {A : Type 0} (none : A) (test : Token → A) (k : Token) (ps : List Part) (ts left : Tokens) → Takes (any k ∷ ps) ts left → Sees none (λ t. test t.token) (test k) ts
first_sees_any none test k ps [] left h = absurd h
first_sees_any none test k ps (t ∷ ts) left h = ap test h.0

-- the same for a token whose place is kept
pub first_sees_at : {A : Type 0} (none : A) (test : Token → A) (p : Place) (k : Token) (ps : List Part) (ts left : Tokens) → Takes (at p k ∷ ps) ts left → Sees none (λ t. test t.token) (test k) ts
first_sees_at none test p k ps [] left h = absurd h
first_sees_at none test p k ps (t ∷ ts) left h = ap test h.0.0

-- parts that begin with a token outside the test
pub first_is_not : (test : Token → Bool) (k : Token) (ps : List Part) (ts left : Tokens) → test k ≡ false → Takes (any k ∷ ps) ts left → IsNot (λ t. test t.token) ts
first_is_not test k ps [] left e h = absurd h
first_is_not test k ps (t ∷ ts) left e h = ap test h.0 ∙ e

-- the last parser, whose value is kept in another
pub last_back : {A B : Type 0} (p : Parser A) (f : A → B) (P : List Part) (a : A) (L : Type 0) (G : Tokens → Type 0) → ReadsBack p P a L G → ReadsBack (p >>= (λ x. pure (f x))) P (f a) L G
last_back p f P a L G r = record { reads = λ ts left h g. answers_then (p ts) (λ x. pure (f x)) a left (f a) left L (r.reads ts left h g) (inl refl) }

-- a law of the next token where nothing was taken
pub same_next : (F : Tokens → Type 0) (ts left : Tokens) → Takes [] ts left → F left → F ts
same_next F ts left h g = subst F (sym h) g

-- each member but the first has a separator before it
pub separated_long : {A : Type 0} (sep : Part) (text : A → List Part) (all : List A) → length all ≤ length (separated sep text all) + 1
separated_long sep text [] = omega arith
separated_long sep text (a ∷ []) = omega arith
separated_long sep text (a ∷ b ∷ all) =
    let k = separated_long sep text (b ∷ all) in
    let size : length (text a ++ sep ∷ separated sep text (b ∷ all)) ≡ length (text a) + length (sep ∷ separated sep text (b ∷ all)) = length-append (text a) (sep ∷ separated sep text (b ∷ all)) in
    omega (arith, k, size)

-- each member has a token
pub joined_long : {A : Type 0} (text : A → List Part) → ((a : A) → 0 < length (text a)) → (all : List A) → length all ≤ length (flat_map text all)
joined_long text some [] = omega arith
joined_long text some (a ∷ all) =
    let k = joined_long text some all in
    let one = some a in
    let size : length (text a ++ flat_map text all) ≡ length (text a) + length (flat_map text all) = length-append (text a) (flat_map text all) in
    omega (arith, k, one, size)
