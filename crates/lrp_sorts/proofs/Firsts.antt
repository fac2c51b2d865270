-- The first of a name among others, and what has it.
use Rattle.std.proofs.Common.{◌≡◌, ◌<◌, ◌+◌, ℕ, zero, suc, Bool, true, false, ◌||◌, cond, List, [], ◌∷◌, ◌++◌, length, map, get_or, take, not, Bor, slice_get, find, position, Option, Some, None, option_map, refl, sym, ap, ◌∙◌, arith}
use Rattle.std.specs.Bool.{nat_lt}
use Rattle.std.specs.List.{position_or_len, list_any}
use Rattle.std.specs.Option.{is_some, option_copied, option_or}
use Rattle.std.specs.Str.{bytes_eq}
use Rattle.std.specs.Cmp.Lexicographic.{bytes_decides}
use Rattle.std.proofs.lemmas.List.{append-nil, length-map, map-append, take-map}
use Rattle.std.proofs.lemmas.List.Folds.{find-append}
use Rattle.std.proofs.lemmas.List.Quantifiers.{position-Some}
use Rattle.std.proofs.lemmas.Option.{slice_get-map, slice_get_read}
use Rattle.std.proofs.lemmas.Cmp.{nat_list_eq_equiv}

-- the place of the first that passes, by recursion
abbrev first_in : {A : Type 0} → (A → Bool) → List A → Option ℕ
first_in p [] = None
first_in p (x ∷ xs) = cond (p x) (Some 0) (option_map suc (first_in p xs))

-- a place that is within this many
abbrev within : ℕ → ℕ → Option ℕ
within n i = cond (nat_lt i n) (Some i) None

next : (b : Bool) (i n : ℕ) → nat_lt i n ≡ b → cond (nat_lt (1 + i) (1 + n)) (Some (1 + i)) None ≡ option_map suc (cond b (Some i) None)
next true i n e = grind arith
next false i n e = grind arith

one_more : (b : Bool) (i n : ℕ) → cond (nat_lt (cond (not b) (1 + i) 0) (suc n)) (Some (cond (not b) (1 + i) 0)) None ≡ cond b (Some 0) (option_map suc (cond (nat_lt i n) (Some i) None))
one_more true i n = grind arith
one_more false i n = grind (arith, next (nat_lt i n) i n refl)

-- the place that a search gives is that of the recursion
pub position_is : {A : Type 0} (p : A → Bool) (xs : List A) → position p xs ≡ first_in p xs
position_is p [] = refl
position_is p (x ∷ xs) = one_more (p x) (position_or_len p xs) (length xs) ∙ ap (λ o. cond (p x) (Some 0) (option_map suc o)) (position_is p xs)

-- after others
abbrev pub after : Option ℕ → Bool → ℕ → Option ℕ
after (Some i) b n = Some i
after None b n = cond b (Some n) None

afterwards : (o : Option ℕ) (b : Bool) (n : ℕ) → option_map suc (after o b n) ≡ after (option_map suc o) b (suc n)
afterwards (Some i) b n = refl
afterwards None true n = refl
afterwards None false n = refl

in_more : {A : Type 0} (p : A → Bool) (xs : List A) (y : A) → first_in p (xs ++ y ∷ []) ≡ after (first_in p xs) (p y) (length xs)
in_more p [] y = by (p y)
  where
    by : (b : Bool) → cond b (Some 0) (option_map suc None) ≡ cond b (Some 0) None
    by true = refl
    by false = refl
in_more p (x ∷ xs) y = ap (λ o. cond (p x) (Some 0) (option_map suc o)) (in_more p xs y) ∙ ap (λ o. cond (p x) (Some 0) o) (afterwards (first_in p xs) (p y) (length xs)) ∙ by (p x)
  where
    by : (b : Bool) → cond b (Some 0) (after (option_map suc (first_in p xs)) (p y) (suc (length xs))) ≡ after (cond b (Some 0) (option_map suc (first_in p xs))) (p y) (suc (length xs))
    by true = refl
    by false = refl

-- one more after the others
pub position_more : {A : Type 0} (p : A → Bool) (xs : List A) (y : A) → position p (xs ++ y ∷ []) ≡ after (position p xs) (p y) (length xs)
position_more p xs y = position_is p (xs ++ y ∷ []) ∙ in_more p xs y ∙ ap (λ o. after o (p y) (length xs)) (sym (position_is p xs))

stays : (o : Option ℕ) (n : ℕ) (b : Bool) → (b ≡ true → is_some o ≡ true) → o ≡ after o b n
stays (Some i) n b h = refl
stays None n true h = grind (arith, h refl)
stays None n false h = refl

-- a name that was there already changes no place
pub position_again : (ns : List (List ℕ)) (k : List ℕ) → is_some (position (bytes_eq k) ns) ≡ true → (n : List ℕ) → position (bytes_eq n) ns ≡ position (bytes_eq n) (ns ++ k ∷ [])
position_again ns k there n =
    stays (position (bytes_eq n) ns) (length ns) (bytes_eq n k) (λ e. ap (λ m. is_some (position (bytes_eq m) ns)) ((bytes_decides n k).0 e) ∙ there) ∙ sym (position_more (bytes_eq n) ns k)

unchanged : (o : Option ℕ) (n : ℕ) → o ≡ after o false n
unchanged (Some i) n = refl
unchanged None n = refl

-- another name changes no place
pub position_other : (ns : List (List ℕ)) (k n : List ℕ) → bytes_eq n k ≡ false → position (bytes_eq n) ns ≡ position (bytes_eq n) (ns ++ k ∷ [])
position_other ns k n other =
    unchanged (position (bytes_eq n) ns) (length ns) ∙ ap (λ b. after (position (bytes_eq n) ns) b (length ns)) (sym other) ∙ sym (position_more (bytes_eq n) ns k)

fresh : (o : Option ℕ) (b : Bool) (n : ℕ) → (b ≡ true → is_some o ≡ false) → cond b (Some n) o ≡ after o b n
fresh (Some i) true n h = grind (arith, h refl)
fresh (Some i) false n h = refl
fresh None b n h = refl

-- a new name has the place after the others
pub position_new : (ns : List (List ℕ)) (k : List ℕ) → is_some (position (bytes_eq k) ns) ≡ false → (n : List ℕ) → cond (bytes_eq k n) (Some (length ns)) (position (bytes_eq n) ns) ≡ position (bytes_eq n) (ns ++ k ∷ [])
position_new ns k new n =
    ap (λ b. cond b (Some (length ns)) (position (bytes_eq n) ns)) (nat_list_eq_equiv.symm k n)
    ∙ fresh (position (bytes_eq n) ns) (bytes_eq n k) (length ns) (λ e. ap (λ m. is_some (position (bytes_eq m) ns)) ((bytes_decides n k).0 e) ∙ new) ∙ sym (position_more (bytes_eq n) ns k)

-- among this many of the first
abbrev pub among : ℕ → Option ℕ → Option ℕ
among n None = None
among n (Some i) = cond (nat_lt i n) (Some i) None

one_among : (n : ℕ) (o : Option ℕ) → option_map suc (among n o) ≡ among (suc n) (option_map suc o)
one_among n None = refl
one_among n (Some i) = grind (arith, next (nat_lt i n) i n refl)

in_take : {A : Type 0} (p : A → Bool) (xs : List A) (n : ℕ) → first_in p (take n xs) ≡ among n (first_in p xs)
in_take p [] zero = refl
in_take p [] (suc n) = refl
in_take p (x ∷ xs) zero = by (cond (p x) (Some 0) (option_map suc (first_in p xs)))
  where
    by : (o : Option ℕ) → None ≡ among 0 o
    by None = refl
    by (Some i) = grind arith
in_take p (x ∷ xs) (suc n) = ap (λ o. cond (p x) (Some 0) (option_map suc o)) (in_take p xs n) ∙ by (p x)
  where
    by : (b : Bool) → cond b (Some 0) (option_map suc (among n (first_in p xs))) ≡ among (suc n) (cond b (Some 0) (option_map suc (first_in p xs)))
    by true = grind arith
    by false = one_among n (first_in p xs)

-- the place among this many of the first is that of all, if it is within them
pub position_take : {A : Type 0} (p : A → Bool) (xs : List A) (n : ℕ) → position p (take n xs) ≡ among n (position p xs)
position_take p xs n = position_is p (take n xs) ∙ in_take p xs n ∙ ap (among n) (sym (position_is p xs))

-- a name stands among others where it has a place
pub is_placed : {A : Type 0} (p : A → Bool) (xs : List A) → is_some (position p xs) ≡ list_any p xs
is_placed {A = A} p xs = ap is_some (position_is p xs) ∙ by xs
  where
    each : (b : Bool) (o : Option ℕ) → is_some (cond b (Some 0) (option_map suc o)) ≡ b || is_some o
    each true o = refl
    each false None = refl
    each false (Some i) = refl

    by : (xs : List A) → is_some (first_in p xs) ≡ list_any p xs
    by [] = refl
    by (x ∷ xs) = each (p x) (first_in p xs) ∙ ap (λ b. p x || b) (by xs)

-- what stands at a place that there may be
abbrev pub placed : {A : Type 0} → List A → Option ℕ → Option A
placed xs None = None
placed xs (Some i) = slice_get xs i

-- what has a name is at the place of that name among all names
pub named_placed : {A : Type 0} (name : A → List ℕ) (xs : List A) (n : List ℕ) → find (λ x. bytes_eq (name x) n) xs ≡ placed xs (position (bytes_eq n) (map name xs))
named_placed {A = A} name xs n = by xs ∙ ap (placed xs) (sym (position_is (bytes_eq n) (map name xs)))
  where
    each : (b : Bool) (x : A) (xs : List A) (o : Option ℕ) → cond b (Some x) (placed xs o) ≡ placed (x ∷ xs) (cond b (Some 0) (option_map suc o))
    each true x xs o = refl
    each false x xs None = refl
    each false x xs (Some i) = refl

    by : (xs : List A) → find (λ x. bytes_eq (name x) n) xs ≡ placed xs (first_in (bytes_eq n) (map name xs))
    by [] = refl
    by (x ∷ xs) =
        ap (λ b. cond b (Some x) (find (λ x. bytes_eq (name x) n) xs)) (nat_list_eq_equiv.symm (name x) n)
        ∙ ap (λ o. cond (bytes_eq n (name x)) (Some x) o) (by xs) ∙ each (bytes_eq n (name x)) x xs (first_in (bytes_eq n) (map name xs))

-- a name is among those of others where one of them is found by it
pub is_found : {A : Type 0} (name : A → List ℕ) (xs : List A) (n : List ℕ) → is_some (find (λ x. bytes_eq (name x) n) xs) ≡ list_any (bytes_eq n) (map name xs)
is_found {A = A} name [] n = refl
is_found {A = A} name (x ∷ xs) n =
    ap (λ b. is_some (cond b (Some x) (find (λ x. bytes_eq (name x) n) xs))) (nat_list_eq_equiv.symm (name x) n) ∙ each (bytes_eq n (name x)) (find (λ x. bytes_eq (name x) n) xs)
    ∙ ap (λ b. bytes_eq n (name x) || b) (is_found name xs n)
  where
    each : (b : Bool) (o : Option A) → is_some (cond b (Some x) o) ≡ b || is_some o
    each true o = refl
    each false o = refl

-- the names of this many of the first
pub names_taken : {A : Type 0} (name : A → List ℕ) (xs : List A) (k : ℕ) (n : List ℕ) → position (bytes_eq n) (map name (take k xs)) ≡ among k (position (bytes_eq n) (map name xs))
names_taken name xs k n = ap (position (bytes_eq n)) (sym (take-map name k xs)) ∙ position_take (bytes_eq n) (map name xs) k

-- one element more, whose name is new or not
pub names_new : {A : Type 0} (name : A → List ℕ) (xs : List A) (y : A) → is_some (position (bytes_eq (name y)) (map name xs)) ≡ false → (n : List ℕ)
    → cond (bytes_eq (name y) n) (Some (length xs)) (position (bytes_eq n) (map name xs)) ≡ position (bytes_eq n) (map name (xs ++ y ∷ []))
names_new name xs y new n =
    ap (λ k. cond (bytes_eq (name y) n) (Some k) (position (bytes_eq n) (map name xs))) (sym (length-map xs name))
    ∙ position_new (map name xs) (name y) new n ∙ ap (position (bytes_eq n)) (sym (map-append name xs (y ∷ [])))

pub names_again : {A : Type 0} (name : A → List ℕ) (xs : List A) (y : A) → is_some (position (bytes_eq (name y)) (map name xs)) ≡ true → (n : List ℕ)
    → position (bytes_eq n) (map name xs) ≡ position (bytes_eq n) (map name (xs ++ y ∷ []))
names_again name xs y there n = position_again (map name xs) (name y) there n ∙ ap (position (bytes_eq n)) (sym (map-append name xs (y ∷ [])))

-- what is found among some is found among them and others
pub found_before : {A : Type 0} (p : A → Bool) (xs ys : List A) (o : Option A) → o ≡ find p xs → is_some o ≡ true → o ≡ find p (xs ++ ys)
found_before p xs ys None e h = grind (arith, h)
found_before p xs ys (Some x) e h = sym (find-append p xs ys ∙ ap (λ o. option_or o (find p ys)) (sym e))

-- what is not found among some is sought among the others
pub found_after : {A : Type 0} (p : A → Bool) (xs ys : List A) (o : Option A) → o ≡ find p xs → is_some o ≡ false → find p ys ≡ find p (xs ++ ys)
found_after p xs ys None e h = sym (find-append p xs ys ∙ ap (λ o. option_or o (find p ys)) (sym e))
found_after p xs ys (Some x) e h = grind (arith, h)

-- there are no others
pub found_alone : {A : Type 0} (p : A → Bool) (xs ys : List A) (o : Option A) → o ≡ find p xs → length ys ≡ 0 → o ≡ find p (xs ++ ys)
found_alone p xs [] o e h = e ∙ ap (find p) (sym (append-nil xs))
found_alone p xs (y ∷ ys) o e h = absurd (omega (arith, h))

-- ---- after references

-- whether there is a value does not depend on the reference
pub copied_some : {A : Type 0} (o : Option (Bor A)) → is_some (option_copied o) ≡ is_some o
copied_some None = refl
copied_some (Some x) = refl

-- where there is none
pub none_there : {A : Type 0} (o : Option A) → is_some o ≡ false → None ≡ o
none_there None e = refl
none_there (Some x) e = absurd (grind (arith, e))

-- a place is among the elements
pub place_within : {A : Type 0} (name : A → List ℕ) (xs : List A) (n : List ℕ) (i : ℕ) → position (bytes_eq n) (map name xs) ≡ Some i → i < length xs
place_within name xs n i e = omega (arith, (position-Some (bytes_eq n) (map name xs) i [] e).0, length-map xs name)

-- the element after a reference at a place
pub after_at : {A : Type 0} (xs : List (Bor A)) (i : ℕ) (x : Bor A) → i < length xs → x ≡ get_or xs i x → slice_get (map (λ r. r.now) xs) i ≡ Some x.now
after_at xs i x lt is = slice_get-map (λ r. r.now) xs i ∙ ap (option_map (λ r. r.now)) (slice_get_read xs (length xs) i x refl lt is)
