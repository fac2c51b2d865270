-- Which kind is told where a formula of depth 65 would begin, and that none is for its depth elsewhere.
use Rattle.std.proofs.Common.{◌≡◌, ◌⊎◌, inl, inr, ◌<◌, ◌+◌, ℕ, suc, Bool, true, false, [], ◌∷◌, ◌++◌, refl, ap, sym, ◌∙◌, subst, Ok, Err, nat_le, length, arith, append-nil}
use Rattle.std.proofs.lemmas.List.{append_cancel_right}
use Rattle.lrp_model.specs.declared.tokens.Symbol.TheVariants.{Open, Minus}
use Rattle.lrp_model.specs.declared.tokens.Word.TheVariants.{Exists, Forall, Not}
use Rattle.lrp_model.specs.declared.tokens.Fault.{Fault}
use Rattle.lrp_model.specs.declared.tokens.Fault.TheVariants.{Syntax, Number, TextTooLong, Period, Deep, Memory}
use Rattle.lrp_model.specs.Tokens.{Token, Placed, Tokens, Takes, Spells}
use Rattle.lrp_model.specs.Tokens.Token.{name_token, word_token, number_token, text_token, symbol_token, hole_token}
use Rattle.lrp_model.specs.Refused.{IsCause}
use Rattle.lrp_model.specs.Refused.{TextOf}
use Rattle.lrp_text.specs.Parsers.{ParseOutcome}
use Rattle.lrp_text.proofs.Complete.{Answers}
use Rattle.lrp_text.proofs.Sound.{takes_onto}
use Rattle.lrp_query.specs.Rules.{too_deep, deep_or_number, is_hole_token, query_with}
use Rattle.lrp_model.specs.TextFaults.{Grammatical, IsTooDeepIn, IsRankedIn}
use Rattle.lrp_query.proofs.Layers.{hole, Grammar, trees}
use Rattle.lrp_query.proofs.Readers.{Reader, forget, marks_of}
use Rattle.lrp_query.proofs.Shown.{cut_told, large_at}
use Rattle.lrp_query.proofs.Natural.{mapped, Same, Marked, query_same}
use Rattle.lrp_query.proofs.Marks.{marking, NoHoles, Took, Why, plain, at_hole, mark, Told, query_told}
use Rattle.lrp_query.proofs.QueryRules.{query_text, query_answers, query_complete}

-- ---- tokens without holes

-- a token among them
pub clean_at : (front : Tokens) (t : Placed) (tail : Tokens) → NoHoles (front ++ t ∷ tail) → is_hole_token t.token ≡ false
clean_at [] t tail c = c.0
clean_at (x ∷ front) t tail c = clean_at front t tail c.1

-- those in front
pub clean_front : (front back : Tokens) → NoHoles (front ++ back) → NoHoles front
clean_front [] back c = tt
clean_front (x ∷ front) back c = (c.0, clean_front front back c.1)

-- no token is a hole and none
pub both_holes : (k : Token) → is_hole_token k ≡ true → is_hole_token k ≡ false → ⊥
both_holes k h n = let e : true ≡ false = sym h ∙ n in absurd cc

-- a hole is one
pub is_hole : (k : Token) → is_hole_token k ≡ true → k ≡ hole_token
is_hole hole_token h = refl
is_hole _ h = absurd cc

-- a hole shows itself
pub hole_shows : (t : Placed) → t.token ≡ hole_token → is_hole_token t.token ≡ true
hole_shows t e = ap is_hole_token e

-- equal lists have equal heads and tails
pub parts : (a b : Placed) (xs ys : Tokens) → a ∷ xs ≡ b ∷ ys → (a ≡ b) × (xs ≡ ys)
parts a b xs ys e = (cc, cc)

-- the first hole of a list stands at one place
pub same_front : (f g : Tokens) (a b : Placed) (xs ys : Tokens) → NoHoles f → NoHoles g → is_hole_token a.token ≡ true → is_hole_token b.token ≡ true → f ++ a ∷ xs ≡ g ++ b ∷ ys → f ≡ g
same_front [] [] a b xs ys cf cg ha hb e = refl
same_front [] (y ∷ g) a b xs ys cf cg ha hb e =
    let h : a ≡ y = (parts a y xs (g ++ b ∷ ys) e).0 in
    absurd (both_holes y.token (subst (λ t. is_hole_token t.token ≡ true) h ha) cg.0)
same_front (x ∷ f) [] a b xs ys cf cg ha hb e =
    let h : x ≡ b = (parts x b (f ++ a ∷ xs) ys e).0 in
    absurd (both_holes x.token (subst (λ t. is_hole_token t.token ≡ true) (sym h) hb) cf.0)
same_front (x ∷ f) (y ∷ g) a b xs ys cf cg ha hb e =
    let h = parts x y (f ++ a ∷ xs) (g ++ b ∷ ys) e in
    let same : f ≡ g = same_front f g a b xs ys cf.1 cg.1 ha hb h.1 in
    ap (λ t. t ∷ f) h.0 ∙ ap (λ l. y ∷ l) same

-- ---- kinds

-- the kinds that are told where a formula would be too deep
abbrev pub IsDeepKind : Fault → Type 0
IsDeepKind Syntax = Unit {0}
IsDeepKind Number = Unit {0}
IsDeepKind Deep = Unit {0}
IsDeepKind _ = ⊥

-- at a number
number_kind : (b : Bool) → IsDeepKind (deep_or_number b)
number_kind true = tt
number_kind false = tt

-- at any token
pub deep_kind : (k : Token) → IsDeepKind (too_deep k)
deep_kind (number_token n) = number_kind (nat_le n 4611686018427387904)
deep_kind (name_token n) = tt
deep_kind (text_token t) = tt
deep_kind (word_token Not) = tt
deep_kind (word_token Exists) = tt
deep_kind (word_token Forall) = tt
deep_kind (symbol_token Open) = tt
deep_kind (symbol_token Minus) = tt
deep_kind _ = tt

-- a number above the limit is told as one
pub not_large : (k : Token) → too_deep k ≡ Deep → IsCause Number k → ⊥
not_large (number_token n) e lt = let h : Deep ≡ Number = sym e ∙ large_at n (nat_le n 4611686018427387904) refl lt in absurd cc
not_large _ e lt = lt

-- ---- outcomes

-- equal faults have equal kinds and tokens
pub same_fault : {A : Type 0} (o : ParseOutcome A) (j k : Fault) (a b : Placed) (xs ys : Tokens) → o ≡ Err (j, a ∷ xs) → o ≡ Err (k, b ∷ ys) → (j ≡ k) × (a ∷ xs ≡ b ∷ ys)
same_fault o j k a b xs ys e d = let h : ◌≡◌ {A = Fault × Tokens} (j, a ∷ xs) (k, b ∷ ys) = cc in (ap (λ p. p.0) h, ap (λ p. p.1) h)

-- nothing is read and refused
pub ok_or_err : {A : Type 0} (o : ParseOutcome A) (q : A × Tokens) (e : Fault × Tokens) → o ≡ Ok q → o ≡ Err e → ⊥
ok_or_err o q e a b = let h : ◌≡◌ {A = ParseOutcome _} (Ok q) (Err e) = sym a ∙ b in absurd cc

module _ {F X Q : Type 0} (grammar : Grammar F X Q) (reader : Reader grammar) where
  -- the texts of the grammar
  abbrev Texts : Grammatical
  Texts = TextOf (query_text grammar) grammar.FitsQuery

  -- a lawful query is read
  lawful_ok : (o : ParseOutcome Q) (q : Q) (left : Tokens) → Answers o q left (grammar.FitsQuery q) → grammar.FitsQuery q → o ≡ Ok (q, left)
  lawful_ok o q left (inl e) fits = e
  lawful_ok o q left (inr r) fits = absurd (r.unlawful fits)

  -- ---- marks

  -- what one reader reads the other reads, or it marks a token
  marked_or_same : (n : ℕ) (ts : Tokens) → Same (Unit {0}) (trees grammar).cut forget (query_with (trees grammar) reader.after n ts) (query_with marking reader.marks n ts)
  marked_or_same n ts = query_same (Unit {0}) (trees grammar) marking (marks_of grammar) reader.after reader.marks reader.same n ts

  -- where the reader marks a token, no hole stands before it, and it marks each token there
  record Spot (n : ℕ) (ts : Tokens) (t : Placed) (rest : Tokens) : Type 0 where
    front : Tokens
    whole : ts ≡ front ++ t ∷ rest
    clean : NoHoles front
    all : (b : Placed) (y : Tokens) → query_with marking reader.marks n (front ++ b ∷ y) ≡ Err (Memory, b ∷ y)

  -- from what it tells
  spot_of : (n : ℕ) (ts : Tokens) (t : Placed) (rest : Tokens) → Why true (query_with marking reader.marks n) ts (Memory, t ∷ rest) → Spot n ts t rest
  spot_of n ts t rest (plain k) = absurd k
  spot_of n ts t rest (at_hole u us d w h) = absurd cc
  spot_of n ts t rest (mark front ne w clean k all) = record { front = front; whole = w; clean = clean; all = all }

  -- where it marks
  spot : (n : ℕ) (ts : Tokens) (t : Placed) (rest : Tokens) → query_with marking reader.marks n ts ≡ Err (Memory, t ∷ rest) → Spot n ts t rest
  spot n ts t rest e = spot_of n ts t rest (subst (Told true (query_with marking reader.marks n) ts) e (query_told reader.marks reader.tells n ts))

  -- a fault of depth is no fault of the marking reader at a token that is no hole
  no_deep : (n : ℕ) (ts : Tokens) (bad : Placed) (tail : Tokens) → is_hole_token bad.token ≡ false → Why true (query_with marking reader.marks n) ts (Deep, bad ∷ tail) → ⊥
  no_deep n ts bad tail clean (plain k) = k
  no_deep n ts bad tail clean (at_hole u us d w h) = both_holes u.token h (subst (λ t. is_hole_token t.token ≡ false) (parts bad u tail us w).0 clean)
  no_deep n ts bad tail clean (mark front ne w c k all) = absurd cc

  -- the fault at a marked token that is no hole
  cause_at : (n : ℕ) (ts : Tokens) (m : Marked (Unit {0}) (trees grammar).cut (query_with (trees grammar) reader.after n ts) (query_with marking reader.marks n ts)) → is_hole_token m.token.token ≡ false → query_with (trees grammar) reader.after n ts ≡ Err (too_deep m.token.token, m.token ∷ m.rest)
  cause_at n ts m clean = m.cause (too_deep m.token.token) (cut_told (grammar.roll (hole m.token.place)) m.token.token clean)

  -- ---- where a formula is too deep

  -- a lawful text that goes on after a mark goes on with a hole
  hole_next : (n : ℕ) (front : Tokens) (b : Placed) (more : Tokens) (q : Q) → grammar.FitsQuery q → Spells (query_text grammar q) (front ++ b ∷ more) → length (front ++ b ∷ more) < n → query_with marking reader.marks n (front ++ b ∷ more) ≡ Err (Memory, b ∷ more) → (h : Bool) → is_hole_token b.token ≡ h → IsTooDeepIn Texts front
  hole_next n front b more q fits spelled lt marked true is = (b, more, is_hole b.token is, (q, fits, spelled))
  hole_next n front b more q fits spelled lt marked false is =
      let ts = front ++ b ∷ more in
      let read = lawful_ok (query_with (trees grammar) reader.after n ts) q [] (query_complete grammar reader.after reader.rules n q ts lt spelled) fits in
      elim (marked_or_same n ts) [
        | inl s ↦ absurd (ok_or_err (query_with marking reader.marks n ts) (tt, []) (Memory, b ∷ more) (s ∙ ap (mapped forget) read) marked)
        | inr m ↦
            let same = same_fault (query_with marking reader.marks n ts) Memory Memory m.token b m.rest more m.marked marked in
            let clean : is_hole_token m.token.token ≡ false = subst (λ t. is_hole_token t.token ≡ false) (sym (parts m.token b m.rest more same.1).0) is in
            absurd (ok_or_err (query_with (trees grammar) reader.after n ts) (q, []) (too_deep m.token.token, m.token ∷ m.rest) read (cause_at n ts m clean))
      ]

  -- so a lawful text that goes on after the tokens before a fault of depth goes on with a hole
  hole_after : (n : ℕ) (ts front : Tokens) (bad : Placed) (tail more : Tokens) → ts ≡ front ++ bad ∷ tail → length ts < n → length (front ++ more) < n → query_with (trees grammar) reader.after n ts ≡ Err (Deep, bad ∷ tail) → ((b : Placed) (y : Tokens) → query_with marking reader.marks n (front ++ b ∷ y) ≡ Err (Memory, b ∷ y)) → Texts true (front ++ more) → IsTooDeepIn Texts front
  hole_after n ts front bad tail [] whole lt lt2 e all text =
      let spelled : Spells (query_text grammar text.0) front = subst (Spells (query_text grammar text.0)) (append-nil front) text.2 in
      let taken : Takes (query_text grammar text.0) ts (bad ∷ tail) = subst (λ x. Takes (query_text grammar text.0) x (bad ∷ tail)) (sym whole) (takes_onto (query_text grammar text.0) front (bad ∷ tail) spelled) in
      absurd (ok_or_err (query_with (trees grammar) reader.after n ts) (text.0, bad ∷ tail) (Deep, bad ∷ tail) (lawful_ok (query_with (trees grammar) reader.after n ts) text.0 (bad ∷ tail) (query_answers grammar reader.after reader.rules n text.0 ts (bad ∷ tail) lt taken) text.1) e)
  hole_after n ts front bad tail (b ∷ more) whole lt lt2 e all text = hole_next n front b more text.0 text.1 text.2 lt2 (all b more) (is_hole_token b.token) refl

  -- a fault of depth stands where a formula is too deep, and at no number above the limit
  pub deep_rank : (ts front : Tokens) (bad : Placed) (tail more : Tokens) → NoHoles ts → ts ≡ front ++ bad ∷ tail → Texts true (front ++ more) → ((n : ℕ) → length ts < n → query_with (trees grammar) reader.after n ts ≡ Err (Deep, bad ∷ tail)) → IsTooDeepIn Texts front × (IsCause Number bad.token → ⊥)
  deep_rank ts front bad tail more clean whole text reads =
      let n = suc (length ts + length (front ++ more)) in
      let e : query_with (trees grammar) reader.after n ts ≡ Err (Deep, bad ∷ tail) = reads n (omega arith) in
      let no_hole : is_hole_token bad.token ≡ false = clean_at front bad tail (subst NoHoles whole clean) in
      elim (marked_or_same n ts) [
        | inl s ↦ absurd (no_deep n ts bad tail no_hole (subst (Told true (query_with marking reader.marks n) ts) (s ∙ ap (mapped forget) e) (query_told reader.marks reader.tells n ts)))
        | inr m ↦
            let at = spot n ts m.token m.rest m.marked in
            let cause = cause_at n ts m (clean_at at.front m.token m.rest (subst NoHoles at.whole clean)) in
            let same = same_fault (query_with (trees grammar) reader.after n ts) (too_deep m.token.token) Deep m.token bad m.rest tail cause e in
            let token : m.token ≡ bad = (parts m.token bad m.rest tail same.1).0 in
            let fronts : at.front ≡ front = append_cancel_right at.front front (bad ∷ tail) (sym (at.whole ∙ ap (λ x. at.front ++ x) same.1) ∙ whole) in
            let all : (b : Placed) (y : Tokens) → query_with marking reader.marks n (front ++ b ∷ y) ≡ Err (Memory, b ∷ y) = λ b y. subst (λ f. query_with marking reader.marks n (f ++ b ∷ y) ≡ Err (Memory, b ∷ y)) fronts (at.all b y) in
            (hole_after n ts front bad tail more whole (omega arith) (omega arith) e all text, not_large bad.token (subst (λ t. too_deep t.token ≡ Deep) token same.0))
      ]

  -- where the reader marks the bad token, its fault is the one that is told there
  at_bad : (n : ℕ) (ts : Tokens) (k : Fault) (bad : Placed) (tail : Tokens) → is_hole_token bad.token ≡ false → query_with (trees grammar) reader.after n ts ≡ Err (k, bad ∷ tail) → query_with marking reader.marks n ts ≡ Err (Memory, bad ∷ tail) → (k ≡ Memory) ⊎ (k ≡ too_deep bad.token)
  at_bad n ts k bad tail clean e marked = elim (marked_or_same n ts) [
    | inl s ↦ inl (same_fault (query_with marking reader.marks n ts) k Memory bad bad tail tail (s ∙ ap (mapped forget) e) marked).0
    | inr m ↦
        let same = same_fault (query_with marking reader.marks n ts) Memory Memory m.token bad m.rest tail m.marked marked in
        let token : m.token ≡ bad = (parts m.token bad m.rest tail same.1).0 in
        let cause = cause_at n ts m (subst (λ t. is_hole_token t.token ≡ false) (sym token) clean) in
        inr ((same_fault (query_with (trees grammar) reader.after n ts) k (too_deep m.token.token) bad m.token tail m.rest e cause).0 ∙ ap (λ t. too_deep t.token) token)
  ]

  -- a mark in a lawful text stands at its first hole
  marked_here : (n : ℕ) (ts front : Tokens) (h : Placed) (other : Tokens) (q : Q) → NoHoles front → h.token ≡ hole_token → ts ≡ front ++ h ∷ other → query_with (trees grammar) reader.after n ts ≡ Ok (q, []) → (m : Marked (Unit {0}) (trees grammar).cut (query_with (trees grammar) reader.after n ts) (query_with marking reader.marks n ts)) → Spot n ts m.token m.rest → (hole_there : Bool) → is_hole_token m.token.token ≡ hole_there → (b : Placed) (y : Tokens) → query_with marking reader.marks n (front ++ b ∷ y) ≡ Err (Memory, b ∷ y)
  marked_here n ts front h other q clean is whole read m at false there b y = absurd (ok_or_err (query_with (trees grammar) reader.after n ts) (q, []) (too_deep m.token.token, m.token ∷ m.rest) read (cause_at n ts m there))
  marked_here n ts front h other q clean is whole read m at true there b y =
      let same : at.front ≡ front = same_front at.front front m.token h m.rest other at.clean clean there (hole_shows h is) (sym at.whole ∙ whole) in
      subst (λ f. query_with marking reader.marks n (f ++ b ∷ y) ≡ Err (Memory, b ∷ y)) same (at.all b y)

  -- after tokens that a hole may follow, each token is marked
  marked_after : (n : ℕ) (front : Tokens) (h : Placed) (other : Tokens) (q : Q) → NoHoles front → h.token ≡ hole_token → grammar.FitsQuery q → Spells (query_text grammar q) (front ++ h ∷ other) → length (front ++ h ∷ other) < n → (b : Placed) (y : Tokens) → query_with marking reader.marks n (front ++ b ∷ y) ≡ Err (Memory, b ∷ y)
  marked_after n front h other q clean is fits spelled lt b y =
      let ts = front ++ h ∷ other in
      let read = lawful_ok (query_with (trees grammar) reader.after n ts) q [] (query_complete grammar reader.after reader.rules n q ts lt spelled) fits in
      elim (marked_or_same n ts) [
        | inl s ↦
            let took : Took ts [] = subst (Told true (query_with marking reader.marks n) ts) (s ∙ ap (mapped forget) read) (query_told reader.marks reader.tells n ts) in
            let all : NoHoles ts = subst NoHoles (sym (append-nil took.front) ∙ sym took.whole) took.clean in
            absurd (both_holes h.token (hole_shows h is) (clean_at front h other all))
        | inr m ↦ marked_here n ts front h other q clean is refl read m (spot n ts m.token m.rest m.marked) (is_hole_token m.token.token) refl b y
      ]

  -- which kind is told after tokens that a hole may follow
  pub shallow_rank : (ts front : Tokens) (k : Fault) (bad : Placed) (tail : Tokens) → NoHoles ts → ts ≡ front ++ bad ∷ tail → IsTooDeepIn Texts front → ((n : ℕ) → length ts < n → query_with (trees grammar) reader.after n ts ≡ Err (k, bad ∷ tail)) → (k ≡ Memory) ⊎ IsDeepKind k
  shallow_rank ts front k bad tail clean whole deep reads =
      let n = suc (length ts + length (front ++ deep.0 ∷ deep.1)) in
      let free : NoHoles (front ++ bad ∷ tail) = subst NoHoles whole clean in
      let marked : query_with marking reader.marks n ts ≡ Err (Memory, bad ∷ tail) = subst (λ x. query_with marking reader.marks n x ≡ Err (Memory, bad ∷ tail)) (sym whole) (marked_after n front deep.0 deep.1 deep.3.0 (clean_front front (bad ∷ tail) free) deep.2 deep.3.1 deep.3.2 (omega arith) bad tail) in
      elim (at_bad n ts k bad tail (clean_at front bad tail free) (reads n (omega arith)) marked) [
        | inl e ↦ inl e
        | inr e ↦ inr (subst IsDeepKind (sym e) (deep_kind bad.token))
      ]

  -- another kind is told only where no formula is too deep
  abbrev NotTold : Fault → Type 0
  NotTold k = (k ≡ Memory) ⊎ IsDeepKind k → ⊥

  -- a long text
  not_long : NotTold TextTooLong
  not_long (inl e) = absurd cc
  not_long (inr d) = d

  -- a period
  not_period : NotTold Period
  not_period (inl e) = absurd cc
  not_period (inr d) = d

  -- the kind that is told has its rank
  pub ranked : (ts front : Tokens) (k : Fault) (bad : Placed) (tail more : Tokens) → NoHoles ts → ts ≡ front ++ bad ∷ tail → Texts true (front ++ more) → IsCause k bad.token → ((n : ℕ) → length ts < n → query_with (trees grammar) reader.after n ts ≡ Err (k, bad ∷ tail)) → IsRankedIn Texts k front bad.token
  ranked ts front Deep bad tail more clean whole text cause reads = deep_rank ts front bad tail more clean whole text reads
  ranked ts front TextTooLong bad tail more clean whole text cause reads = λ d. not_long (shallow_rank ts front TextTooLong bad tail clean whole d reads)
  ranked ts front Period bad tail more clean whole text cause reads = λ d. not_period (shallow_rank ts front Period bad tail clean whole d reads)
  ranked ts front Syntax bad tail more clean whole text cause reads = tt
  ranked ts front Number bad tail more clean whole text cause reads = tt
  ranked ts front Memory bad tail more clean whole text cause reads = cause
