-- What is taken out of elements that wait: the first that goes before the others, or else the first.
use Rattle.std.proofs.Common.{◌≡◌, ◌<◌, ◌≤◌, ◌+◌, ◌↔◌, ℕ, Bool, true, false, cond, not, nat_lt, ◌==◌, List, [], ◌∷◌, ◌++◌, length, Option, Some, None, unwrap_or, slice_get, remove, refl, sym, ap, subst, ◌∙◌, arith, option_to_list, append-nil, Result, Ok, Err}
use Rattle.std.specs.List.{AllByRecursion, position_or_len}
use Rattle.std.specs.Option.{IsSome}
use Rattle.std.specs.Result.{IfOk}
use Rattle.std.proofs.lemmas.Bool.{lt-ltb, le-ltb, eqb-true, false≢true}
use Rattle.lrp_core.specs.declared.variables.Variable.{Variable as ProgramVariable}
use Rattle.lrp_model.specs.Variables.{Variable, meet}
use Rattle.lrp_model.proofs.Logic.{all_append}
use Rattle.lrp_model.specs.Conjunctions.{first_or_0}
use Rattle.lrp_plan.specs.declared.elements.Element.{Element}
use Rattle.lrp_plan.specs.declared.waiting.Turn.{Turn}
use Rattle.lrp_plan.specs.Elements.{TakesAt}
use Rattle.lrp_plan.specs.Waiting.{goes_first, FallAfter}

module _ {X : Type 0} (p : X → Bool) where
  after : (xs ys : List X) (x : X) → AllByRecursion (λ y. p y ≡ false) xs → p x ≡ true → position_or_len p (xs ++ x ∷ ys) ≡ length xs
  after [] ys x h e = ap (λ b. cond (not b) (1 + position_or_len p ys) 0) e
  after (z ∷ xs) ys x h e =
      let n : position_or_len p (xs ++ x ∷ ys) ≡ length xs = after xs ys x h.1 e in
      ap (λ b. cond (not b) (1 + position_or_len p (xs ++ x ∷ ys)) 0) h.0 ∙ (omega arith)

  none : (xs : List X) → AllByRecursion (λ y. p y ≡ false) xs → position_or_len p xs ≡ length xs
  none [] h = refl
  none (z ∷ xs) h =
      let n : position_or_len p xs ≡ length xs = none xs h.1 in
      ap (λ b. cond (not b) (1 + position_or_len p xs) 0) h.0 ∙ (omega arith)

  chosen : (n m : ℕ) (b : Bool) → nat_lt n m ≡ b → unwrap_or (cond (nat_lt n m) (Some n) None) 0 ≡ unwrap_or (cond b (Some n) None) 0
  chosen n m b e = ap (λ c. unwrap_or (cond c (Some n) None) 0) e

  longer : (xs ys : List X) (x : X) → length xs < length (xs ++ x ∷ ys)
  longer [] ys x = omega arith
  longer (z ∷ xs) ys x = let h : length xs < length (xs ++ x ∷ ys) = longer xs ys x in omega arith

  -- one that passes, after those that do not
  pub first_after : (xs ys : List X) (x : X) → AllByRecursion (λ y. p y ≡ false) xs → p x ≡ true → first_or_0 p (xs ++ x ∷ ys) ≡ length xs
  first_after xs ys x h e =
      ap (λ n. unwrap_or (cond (nat_lt n (length (xs ++ x ∷ ys))) (Some n) None) 0) (after xs ys x h e)
      ∙ chosen (length xs) (length (xs ++ x ∷ ys)) true (lt-ltb (length xs) (length (xs ++ x ∷ ys)) (longer xs ys x))

  -- where none passes
  pub first_of_none : (xs : List X) → AllByRecursion (λ y. p y ≡ false) xs → first_or_0 p xs ≡ 0
  first_of_none xs h =
      ap (λ n. unwrap_or (cond (nat_lt n (length xs)) (Some n) None) 0) (none xs h)
      ∙ chosen (length xs) (length xs) false (le-ltb (length xs) (length xs) (omega arith))

module _ {X : Type 0} where
  get_after : (xs ys : List X) (x : X) → slice_get (xs ++ x ∷ ys) (length xs) ≡ Some x
  get_after [] ys x = refl
  get_after (z ∷ xs) ys x = get_after xs ys x

  remove_after : (xs ys : List X) (x : X) → remove (xs ++ x ∷ ys) (length xs) ≡ xs ++ ys
  remove_after [] ys x = refl
  remove_after (z ∷ xs) ys x = ap (λ zs. z ∷ zs) (remove_after xs ys x)

-- one that goes before the others is taken from after those that do not
pub takes_after : (p : Element → Bool) (all xs ys : List Element) (e : Element) → all ≡ xs ++ e ∷ ys → AllByRecursion (λ y. p y ≡ false) xs → p e ≡ true → TakesAt (first_or_0 p all) all (xs ++ ys) (Some e)
takes_after p all xs ys e is h t =
    subst (λ zs. TakesAt (first_or_0 p zs) zs (xs ++ ys) (Some e)) (sym is)
    (subst (λ n. TakesAt n (xs ++ e ∷ ys) (xs ++ ys) (Some e)) (sym (first_after p xs ys e h t)) (get_after xs ys e, sym (remove_after xs ys e)))

-- the first is taken
takes_zero : (all xs : List Element) (r : Option Element) → all ≡ option_to_list r ++ xs → IsSome r ↔ (0 < length all) → TakesAt 0 all xs r
takes_zero [] xs None is v = (refl, sym is)
takes_zero (e ∷ es) xs None is v = absurd (false≢true (v.1 (omega arith)))
takes_zero all xs (Some e) is v = subst (λ zs. TakesAt 0 zs xs (Some e)) (sym is) (refl, refl)

-- where none was passed over and the first is the next
pub takes_front : (p : Element → Bool) (all passed rest left : List Element) (r : Option Element) → passed ++ rest ≡ all → passed ≡ [] → first_or_0 p rest ≡ 0 → rest ≡ option_to_list r ++ left → IsSome r ↔ (0 < length rest) → TakesAt (first_or_0 p all) all (passed ++ left) r
takes_front p all passed rest left r is none zero out v =
    subst (λ zs. TakesAt (first_or_0 p zs) zs (passed ++ left) r) (sym (ap (λ zs. zs ++ rest) none) ∙ is)
    (subst (λ i. TakesAt i rest (passed ++ left) r) (sym zero) (subst (λ zs. TakesAt 0 rest (zs ++ left) r) (sym none) (takes_zero rest left r out v)))

-- one that is alone is the first
alone_by : (p : Element → Bool) (e : Element) (b : Bool) → p e ≡ b → first_or_0 p (e ∷ []) ≡ 0
alone_by p e true h = first_after p [] [] e tt h
alone_by p e false h = first_of_none p (e ∷ []) (h, tt)

pub alone : (p : Element → Bool) (es : List Element) → length es ≤ 1 → first_or_0 p es ≡ 0
alone p [] h = first_of_none p [] tt
alone p (e ∷ []) h = alone_by p e (p e) refl
alone p (e ∷ f ∷ es) h = absurd (omega arith)

-- the first is the next where no element passes
pub first_where_none : (p : Element → Bool) (es : List Element) → ((e : Element) → p e ≡ false) → first_or_0 p es ≡ 0
first_where_none p es h = first_of_none p es (each es)
  where
    each : (es : List Element) → AllByRecursion (λ e. p e ≡ false) es
    each [] = tt
    each (e ∷ es) = (h e, each es)

-- a list of no items
pub emptied : {X : Type 0} (xs : List X) → (length xs == 0) ≡ true → xs ≡ []
emptied [] e = refl
emptied (x ∷ xs) e = let n : length (x ∷ xs) ≡ 0 = eqb-true (length (x ∷ xs)) 0 e in absurd (omega arith)

-- no variable is one of none
pub meet_nothing : (vs : List Variable) → meet vs [] ≡ false
meet_nothing [] = refl
meet_nothing (v ∷ vs) = meet_nothing vs

-- where none does, the first is taken
takes_first : (p : Element → Bool) (all xs : List Element) (r : Option Element) → all ≡ option_to_list r ++ xs → IsSome r ↔ (0 < length all) → AllByRecursion (λ y. p y ≡ false) all → TakesAt (first_or_0 p all) all xs r
takes_first p [] xs None is v h = (refl, sym is)
takes_first p (e ∷ es) xs None is v h = absurd (false≢true (v.1 (omega arith)))
takes_first p all xs (Some e) is v h =
    subst (λ i. TakesAt i all xs (Some e)) (sym (first_of_none p all h))
    (subst (λ zs. TakesAt 0 zs xs (Some e)) (sym is) (refl, refl))

nothing_after : (xs ys : List Element) → ys ≡ [] → xs ++ ys ≡ xs
nothing_after xs ys e = ap (λ zs. xs ++ zs) e ∙ append-nil xs

-- the same, where all were passed over
pub takes_left : (p : Element → Bool) (all passed rest left gone : List Element) (r : Option Element) → all ≡ passed ++ rest → rest ≡ [] → gone ≡ [] → passed ≡ option_to_list r ++ left → IsSome r ↔ (0 < length passed) → AllByRecursion (λ y. p y ≡ false) passed → TakesAt (first_or_0 p all) all (left ++ gone) r
takes_left p all passed rest left gone r is none empty out v h =
    subst (λ zs. TakesAt (first_or_0 p zs) zs (left ++ gone) r) (sym (is ∙ nothing_after passed rest none))
    (subst (λ zs. TakesAt (first_or_0 p passed) passed zs r) (sym (nothing_after left gone empty)) (takes_first p passed left r out v h))

-- one more that does not go before the others
pub one_after : (turn : Turn) (vs : List ProgramVariable) (es : List Element) (e : Element) → FallAfter turn vs es → goes_first turn vs e ≡ false → FallAfter turn vs (es ++ e ∷ [])
one_after turn vs es e h t = (all_append (λ x. goes_first turn vs x ≡ false) es (e ∷ [])).1 (h, (t, tt))

-- what is left of them
pub left_after : (turn : Turn) (vs : List ProgramVariable) (es xs : List Element) (r : Option Element) → es ≡ option_to_list r ++ xs → FallAfter turn vs es → FallAfter turn vs xs
left_after turn vs es xs r is h = ((all_append (λ x. goes_first turn vs x ≡ false) (option_to_list r) xs).0 (subst (FallAfter turn vs) is h)).1

-- none was passed over yet
pub none_after : (turn : Turn) (vs : List ProgramVariable) (es : List Element) → es ≡ [] → FallAfter turn vs es
none_after turn vs es is = subst (FallAfter turn vs) (sym is) tt

-- those that were passed over in a turn are after in the same turn
pub still_after : (before turn : Turn) (seen vs : List ProgramVariable) (es : List Element) → before ≡ turn → seen ≡ vs → FallAfter before seen es → FallAfter turn vs es
still_after before turn seen vs es t s h = subst (λ ws. FallAfter turn ws es) s (subst (λ u. FallAfter u seen es) t h)

-- what is taken out of all that wait
pub takes_next : {E : Type 0} (r : Result (Option Element) E) (turn : Turn) (vs ws : List ProgramVariable) (old passed rest new : List Element) → vs ≡ ws → passed ++ rest ≡ old → FallAfter turn ws passed
    → IfOk r (λ taken. FallAfter turn vs passed → TakesAt (first_or_0 (goes_first turn vs) (passed ++ rest)) (passed ++ rest) new taken) → IfOk r (λ taken. TakesAt (first_or_0 (goes_first turn ws) old) old new taken)
takes_next (Ok t) turn vs ws old passed rest new s e h k =
    subst (λ us. TakesAt (first_or_0 (goes_first turn us) old) old new t) s
    (subst (λ xs. TakesAt (first_or_0 (goes_first turn vs) xs) xs new t) e (k (subst (λ us. FallAfter turn us passed) (sym s) h)))
takes_next (Err x) turn vs ws old passed rest new s e h k = tt
