-- Texts each once: the same texts, and no more of them.
use Rattle.std.proofs.Common.{◌≡◌, ◌≤◌, ◌+◌, suc, Bool, true, false, ◌||◌, if◌then◌else◌, List, [], ◌∷◌, ◌++◌, length, length-append, fold, Contains, refl, sym, ap, ◌∙◌, arith}
use Rattle.std.specs.List.{list_any}
use Rattle.std.specs.Str.{bytes_eq}
use Rattle.std.specs.Cmp.Lexicographic.{bytes_decides}
use Rattle.std.proofs.lemmas.Cmp.{nat_list_eq_equiv}
use Rattle.std.proofs.lemmas.Map.Views.{list_any-from_Contains}
use Rattle.indexmap.specs.IndexSet.{insert_key}
use Rattle.indexmap.proofs.CallerLemmas.{Contains-list_any}
use Rattle.lrp_model.specs.Texts.{Text, Identifier, in_order}
use Rattle.lrp_model.proofs.DomainLaws.{contains_in_order, in_order_ascends}
use Rattle.lrp_model.proofs.Ascending.{same_ascending}
use Rattle.lrp_database.specs.Once.{once, put_once}

-- whether a name more passes
pub any_more : (p : Identifier → Bool) (xs : List Identifier) (x : Identifier) → list_any p (xs ++ x ∷ []) ≡ p x || list_any p xs
any_more p [] x = refl
any_more p (y ∷ xs) x = ap (λ b. p y || b) (any_more p xs x) ∙ turned (p y) (p x) (list_any p xs)
  where
    turned : (a b c : Bool) → a || (b || c) ≡ b || (a || c)
    turned true true c = refl
    turned true false c = refl
    turned false b c = refl

-- a name that is there already passes no further test
there_already : (names : List Identifier) (n m : Identifier) (b : Bool) → list_any (bytes_eq n) names ≡ true → bytes_eq m n ≡ b → list_any (bytes_eq m) names ≡ b || list_any (bytes_eq m) names
there_already names n m false h e = refl
there_already names n m true h e = ap (λ k. list_any (bytes_eq k) names) ((bytes_decides m n).0 e) ∙ h

-- a name put in is there, beside those before
pub any_put : (names : List Identifier) (n m : Identifier) → list_any (bytes_eq m) (insert_key bytes_eq names n) ≡ bytes_eq m n || list_any (bytes_eq m) names
any_put names n m = by (list_any (bytes_eq n) names) refl
  where
    by : (b : Bool) → list_any (bytes_eq n) names ≡ b → list_any (bytes_eq m) (if b then names else names ++ n ∷ []) ≡ bytes_eq m n || list_any (bytes_eq m) names
    by true e = there_already names n m (bytes_eq m n) e refl
    by false e = any_more (bytes_eq m) names n

-- a name among those that were put in, each once
pub any_once : (n : Identifier) (before ns : List Identifier) → list_any (bytes_eq n) (fold put_once before ns) ≡ list_any (bytes_eq n) before || list_any (bytes_eq n) ns
any_once n before [] = or_false (list_any (bytes_eq n) before)
  where
    or_false : (b : Bool) → b ≡ b || false
    or_false true = refl
    or_false false = refl
any_once n before (m ∷ ns) =
    any_once n (put_once before m) ns ∙ ap (λ b. b || list_any (bytes_eq n) ns) (any_put before m n) ∙ moved_out (bytes_eq n m) (list_any (bytes_eq n) before) (list_any (bytes_eq n) ns)
  where
    moved_out : (a b c : Bool) → (a || b) || c ≡ b || (a || c)
    moved_out true true c = refl
    moved_out true false c = refl
    moved_out false true c = refl
    moved_out false false c = refl

-- a test of two lists is one of each
any_both : (p : Text → Bool) (xs ys : List Text) → list_any p (xs ++ ys) ≡ list_any p xs || list_any p ys
any_both p [] ys = refl
any_both p (x ∷ xs) ys = ap (λ b. p x || b) (any_both p xs ys) ∙ turned (p x) (list_any p xs) (list_any p ys)
  where
    turned : (a b c : Bool) → a || (b || c) ≡ (a || b) || c
    turned true b c = refl
    turned false b c = refl

-- a text is among those that are each once, and further ones, where it is among them all
any_same : (w : Text) (xs ys : List Text) → list_any (bytes_eq w) (once xs ++ ys) ≡ list_any (bytes_eq w) (xs ++ ys)
any_same w xs ys = any_both (bytes_eq w) (once xs) ys ∙ ap (λ b. b || list_any (bytes_eq w) ys) (any_once w [] xs) ∙ sym (any_both (bytes_eq w) xs ys)

-- texts in order are the same, whether the first ones stand once or more often
pub once_in_order : (xs ys : List Text) → in_order (once xs ++ ys) ≡ in_order (xs ++ ys)
once_in_order xs ys =
    same_ascending (in_order (once xs ++ ys)) (in_order (xs ++ ys)) (in_order_ascends (once xs ++ ys)) (in_order_ascends (xs ++ ys))
    (λ w c. (contains_in_order (xs ++ ys) w).1 (from_any w (xs ++ ys) (sym (any_same w xs ys) ∙ to_any w (once xs ++ ys) ((contains_in_order (once xs ++ ys) w).0 c))))
    (λ w c. (contains_in_order (once xs ++ ys) w).1 (from_any w (once xs ++ ys) (any_same w xs ys ∙ to_any w (xs ++ ys) ((contains_in_order (xs ++ ys) w).0 c))))
  where
    to_any : (w : Text) (zs : List Text) → Contains zs w → list_any (bytes_eq w) zs ≡ true
    to_any w zs c = list_any-from_Contains nat_list_eq_equiv w zs c

    from_any : (w : Text) (zs : List Text) → list_any (bytes_eq w) zs ≡ true → Contains zs w
    from_any w zs e = Contains-list_any bytes_eq (λ x y. (bytes_decides x y).0) zs w e

-- one text more at most
put_count : (ts : List Text) (t : Text) (b : Bool) → length (if b then ts else ts ++ t ∷ []) ≤ suc (length ts)
put_count ts t true = omega arith
put_count ts t false = let e = length-append ts (t ∷ []) in omega (arith, e)

once_count : (before ts : List Text) → length (fold put_once before ts) ≤ length before + length ts
once_count before [] = omega arith
once_count before (t ∷ ts) =
    let h = once_count (put_once before t) ts in
    let k = put_count before t (list_any (bytes_eq t) before) in
    omega (arith, h, k)

-- texts that stand once are at most as many
pub once_fewer : (ts : List Text) → length (once ts) ≤ length ts
once_fewer ts = let h = once_count [] ts in omega (arith, h)
