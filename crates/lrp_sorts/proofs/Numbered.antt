-- The number of the definition that a name means.
use Rattle.std.proofs.Common.{◌≡◌, ◌<◌, ℕ, Bool, true, false, cond, not, ◌||◌, List, [], ◌∷◌, ◌++◌, length, map, take, position, Option, Some, None, IfSome, refl, ap, sym, subst, ◌∙◌, arith}
use Rattle.std.specs.Bool.{nat_lt, then_some}
use Rattle.std.specs.List.{list_any}
use Rattle.std.specs.Str.{bytes_eq}
use Rattle.std.specs.Cmp.Lexicographic.{bytes_decides}
use Rattle.std.specs.Option.{is_some}
use Rattle.std.proofs.lemmas.List.Folds.{list_any-append}
use Rattle.lrp_model.specs.Faults.{is_named_in}
use Rattle.lrp_model.specs.Texts.{Identifier}
use Rattle.lrp_sorts.specs.Definitions.{Defined, definition_number}
use Rattle.lrp_sorts.proofs.Firsts.{among, names_taken, place_within, position_again, position_new, position_other}

-- there is none either way
pub nothing : (b : Bool) → ◌≡◌ {A = Option ℕ} None (cond b None None)
nothing true = refl
nothing false = refl

-- there are none yet
pub none_before : (d : Defined) (before : ℕ) (n : Identifier) → before ≡ 0 → None ≡ definition_number d before n
none_before d before n e = subst (λ k. None ≡ definition_number d k n) (sym e) (nothing (is_named_in (map (λ r. r.name) d.relations) n))

pub denied : (b : Bool) → not b ≡ false → b ≡ true
denied true e = refl
denied false e = sym e

pub allowed : (b : Bool) → not b ≡ true → b ≡ false
allowed true e = sym e
allowed false e = refl

-- by the number that is kept
pub number_of : (d : Defined) (before : ℕ) (n : Identifier) (o : Option ℕ) → o ≡ cond (is_named_in (map (λ r. r.name) d.relations) n) None (position (bytes_eq n) (map (λ r. r.name) d.definitions)) → among before o ≡ definition_number d before n
number_of d before n o e =
    let place : Option ℕ = position (bytes_eq n) (map (λ r. r.name) d.definitions) in
    let related : Bool = is_named_in (map (λ r. r.name) d.relations) n in
    ap (among before) e ∙ by related place ∙ ap (cond related None) (sym (names_taken (λ r. r.name) d.definitions before n))
  where
    by : (b : Bool) (p : Option ℕ) → among before (cond b None p) ≡ cond b None (among before p)
    by true p = refl
    by false p = refl

-- it is one of theirs
pub number_there : (d : Defined) (n : Identifier) (i : ℕ) → Some i ≡ cond (is_named_in (map (λ r. r.name) d.relations) n) None (position (bytes_eq n) (map (λ r. r.name) d.definitions)) → i < length d.definitions
number_there d n i e = by (is_named_in (map (λ r. r.name) d.relations) n) e
  where
    by : (b : Bool) → Some i ≡ cond b None (position (bytes_eq n) (map (λ r. r.name) d.definitions)) → i < length d.definitions
    by true e = absurd cc
    by false e = place_within (λ r. r.name) d.definitions n i (sym e)

-- the number, if it is below a bound
pub below_is : (i before : ℕ) → then_some (nat_lt i before) i ≡ among before (Some i)
below_is i before = by (nat_lt i before)
  where
    by : (b : Bool) → then_some b i ≡ cond b (Some i) None
    by true = refl
    by false = refl

pub below_some : (i before : ℕ) (P : ℕ → Type 0) (r : Option ℕ) → r ≡ then_some (nat_lt i before) i → (i < before → P i) → IfSome r P
below_some i before P r e h = subst (λ o. IfSome o P) (sym e) (by (nat_lt i before) refl)
  where
    by : (b : Bool) → nat_lt i before ≡ b → IfSome (then_some b i) P
    by true f = h (grind (arith, f))
    by false f = tt

-- ---- one name more

module _ (taken names : List Identifier) (k : Identifier) where
  other : is_named_in taken k ≡ true → (n : Identifier) → is_named_in taken n ≡ false → bytes_eq n k ≡ false
  other t n f = by (bytes_eq n k) refl
    where
      by : (b : Bool) → bytes_eq n k ≡ b → b ≡ false
      by true e = let same : is_named_in taken n ≡ is_named_in taken k = ap (is_named_in taken) ((bytes_decides n k).0 e) in grind (arith, same, t, f)
      by false e = refl

  -- one that is taken changes no number
  pub taken_stays : is_named_in taken k ≡ true → (n : Identifier) → cond (is_named_in taken n) None (position (bytes_eq n) names) ≡ cond (is_named_in taken n) None (position (bytes_eq n) (names ++ k ∷ []))
  taken_stays t n = by (is_named_in taken n) refl
    where
      by : (b : Bool) → is_named_in taken n ≡ b → cond b None (position (bytes_eq n) names) ≡ cond b None (position (bytes_eq n) (names ++ k ∷ []))
      by true e = refl
      by false e = position_other names k n (other t n e)

  -- nor does one that is there
  pub numbered_stays : is_some (position (bytes_eq k) names) ≡ true → (n : Identifier) → cond (is_named_in taken n) None (position (bytes_eq n) names) ≡ cond (is_named_in taken n) None (position (bytes_eq n) (names ++ k ∷ []))
  numbered_stays there n = ap (cond (is_named_in taken n) None) (position_again names k there n)

  -- a new one has the number after the others
  pub new_number : is_named_in taken k ≡ false → is_some (position (bytes_eq k) names) ≡ false → (n : Identifier)
      → cond (bytes_eq k n) (Some (length names)) (cond (is_named_in taken n) None (position (bytes_eq n) names)) ≡ cond (is_named_in taken n) None (position (bytes_eq n) (names ++ k ∷ []))
  new_number f new n = by (is_named_in taken n) refl
    where
      apart : (b : Bool) → bytes_eq k n ≡ b → is_named_in taken n ≡ true → b ≡ false
      apart true e t = let same : is_named_in taken k ≡ is_named_in taken n = ap (is_named_in taken) ((bytes_decides k n).0 e) in grind (arith, same, t, f)
      apart false e t = refl

      by : (b : Bool) → is_named_in taken n ≡ b → cond (bytes_eq k n) (Some (length names)) (cond b None (position (bytes_eq n) names)) ≡ cond b None (position (bytes_eq n) (names ++ k ∷ []))
      by true e = ap (λ b. cond b (Some (length names)) None) (apart (bytes_eq k n) refl e)
      by false e = position_new names k new n

  -- whether it is new, where it isn't taken
  pub new_name : (new : Bool) → is_named_in taken k ≡ false → new ≡ not (list_any (bytes_eq k) names) → new ≡ not (is_named_in (taken ++ names) k)
  new_name new f e = e ∙ ap (λ b. not (b || list_any (bytes_eq k) names)) (sym f) ∙ ap not (sym (list_any-append (bytes_eq k) taken names))

  pub taken_name : is_named_in taken k ≡ true → false ≡ not (is_named_in (taken ++ names) k)
  taken_name t = ap (λ b. not (b || list_any (bytes_eq k) names)) (sym t) ∙ ap not (sym (list_any-append (bytes_eq k) taken names))

-- a number that is put back
pub put_back : (k n : Identifier) (number : ℕ) (o : Option ℕ) (was : Identifier → Option ℕ) → o ≡ was k → cond (bytes_eq k n) o (cond (bytes_eq k n) (Some number) (was n)) ≡ was n
put_back k n number o was e = by (bytes_eq k n) refl
  where
    by : (b : Bool) → bytes_eq k n ≡ b → cond b o (cond b (Some number) (was n)) ≡ was n
    by true s = e ∙ ap was ((bytes_decides k n).0 s)
    by false s = refl

-- what one test denies denies it
pub turned : (a b : Bool) → a ≡ not b → b ≡ not a
turned true true e = absurd (grind (arith, e))
turned true false e = refl
turned false true e = refl
turned false false e = absurd (grind (arith, e))
