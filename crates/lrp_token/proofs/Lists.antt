-- Texts with commas between: what their pieces are.
use Rattle.std.proofs.Common.{◌≡◌, ◌≢◌, ◌<◌, ℕ, zero, suc, Bool, false, List, [], ◌∷◌, ◌++◌, length, map, get_or, eqb, refl, ap, ap₂, subst, sym, ◌∙◌, arith}
use Rattle.std.specs.List.{AllByRecursion, slice_split, join_with_byte}
use Rattle.std.proofs.lemmas.Bool.Decides.{nat_tests}
use Rattle.std.proofs.lemmas.List.Splits.{slice_split_none, slice_split_at, join_with_byte-slice_split}
use Rattle.std.proofs.lemmas.List.Elements.{All-from_recursion}
use mathlib.Core.List.{map-append}
use Rattle.lrp_model.specs.Printed.{joined_by}
use Rattle.lrp_model.proofs.Logic.{all_append}
use Rattle.lrp_token.specs.Parts.{IsListOf, IsSpelling}
pub use Rattle.lrp_model.proofs.TokenLaws.{Lacks, lacks_append}

-- ---- bytes that a list lacks

pub lacks_at : (c : ℕ) (xs : List ℕ) → Lacks c xs → (i : ℕ) → i < length xs → get_or xs i 0 ≢ c
lacks_at c xs h i lt = All-from_recursion (λ b. b ≢ c) xs h i 0 lt

not_equal : (b c : ℕ) → b ≢ c → eqb b c ≡ false
not_equal b c h = grind (arith, nat_tests)

lacks_none : (c : ℕ) (xs : List ℕ) → Lacks c xs → AllByRecursion (λ b. eqb b c ≡ false) xs
lacks_none c [] h = tt
lacks_none c (x ∷ xs) h = (not_equal x c h.0, lacks_none c xs h.1)

-- ---- pieces

-- whether a byte is a comma
abbrev pub is_comma : ℕ → Bool
is_comma b = eqb b 44

-- pieces with commas between
joined_pieces : {A : Type 0} (f : A → List ℕ) (all : List A) → join_with_byte 44 (map f all) ≡ joined_by (44 ∷ []) f all
joined_pieces f [] = refl
joined_pieces f (a ∷ []) = refl
joined_pieces f (a ∷ b ∷ all) = ap (λ z. f a ++ 44 ∷ z) (joined_pieces f (b ∷ all))

-- an element of a list that is spelled out
at_map : {A : Type 0} (P : A → Type 0) (f : A → List ℕ) (all : List A) → AllByRecursion P all → (n : ℕ) (part : List ℕ) → n < length (map f all) → part ≡ get_or (map f all) n part → (a : A) × IsSpelling P f part a
at_map P f [] h n part lt e = absurd (omega arith)
at_map P f (a ∷ all) h zero part lt e = (a, record { fits = h.0; spelled = e })
at_map P f (a ∷ all) h (suc n) part lt e = at_map P f all h.1 n part (omega arith) e

module _ {A : Type 0} (P : A → Type 0) (f : A → List ℕ) (free : (a : A) → P a → Lacks 44 (f a)) where
  pieces_of : (a : A) (all : List A) → AllByRecursion P (a ∷ all) → slice_split is_comma (joined_by (44 ∷ []) f (a ∷ all)) ≡ map f (a ∷ all)
  pieces_of a [] h = slice_split_none is_comma (f a) (All-from_recursion (λ b. is_comma b ≡ false) (f a) (lacks_none 44 (f a) (free a h.0)))
  pieces_of a (b ∷ all) h =
      slice_split_at is_comma (f a) 44 (joined_by (44 ∷ []) f (b ∷ all)) (All-from_recursion (λ b. is_comma b ≡ false) (f a) (lacks_none 44 (f a) (free a h.0))) refl
      ∙ ap (λ z. f a ∷ z) (pieces_of b all h.1)

  -- where a piece of a text spells nothing, the text spells no list
  pub no_list : (text : List ℕ) → (text ≡ [] → ⊥) → (n : ℕ) (part : List ℕ) → n < length (slice_split is_comma text) → part ≡ get_or (slice_split is_comma text) n part → ((a : A) → IsSpelling P f part a → ⊥) → (all : List A) → IsListOf P f text all → ⊥
  no_list text some n part lt e none [] h = some h.spelled
  no_list text some n part lt e none (a ∷ all) h =
      let pieces : slice_split is_comma text ≡ map f (a ∷ all) = ap (slice_split is_comma) h.spelled ∙ pieces_of a all h.fit in
      let size : length (slice_split is_comma text) ≡ length (map f (a ∷ all)) = ap length pieces in
      let found = at_map P f (a ∷ all) h.fit n part (omega arith) (e ∙ ap (λ l. get_or l n part) pieces) in
      none found.0 found.1

-- where the pieces of a text spell values, the text spells their list
pub some_list : {A : Type 0} (P : A → Type 0) (f : A → List ℕ) (text : List ℕ) (all : List A) → AllByRecursion P all → map f all ≡ slice_split is_comma text → IsListOf P f text all
some_list P f text all h e = record {
  fit = h;
  spelled = sym (join_with_byte-slice_split 44 text) ∙ ap (join_with_byte 44) (sym e) ∙ joined_pieces f all;
}

-- one value more
pub list_more : {A B : Type 0} (P : A → Type 0) (f : A → List ℕ) (now : B → List ℕ) (all more : List A) (a : A) (parts : List B) (part : B) → map f all ≡ map now parts → more ≡ all ++ a ∷ [] → now part ≡ f a → map f more ≡ map now (parts ++ part ∷ [])
list_more P f now all more a parts part e m s = ap (map f) m ∙ map-append f all (a ∷ []) ∙ ap₂ (λ x y. x ++ y ∷ []) e (sym s) ∙ sym (map-append now parts (part ∷ []))

pub fit_more : {A : Type 0} (P : A → Type 0) (all more : List A) (a : A) → AllByRecursion P all → more ≡ all ++ a ∷ [] → P a → AllByRecursion P more
fit_more P all more a h m p = subst (AllByRecursion P) (sym m) ((all_append P all (a ∷ [])).1 (h, (p, tt)))

-- the text of a list whose values are each made of another
pub joined_map : {A B : Type 0} (between : List ℕ) (f : B → List ℕ) (g : A → B) (all : List A) → joined_by between (λ a. f (g a)) all ≡ joined_by between f (map g all)
joined_map between f g [] = refl
joined_map between f g (a ∷ []) = refl
joined_map between f g (a ∷ b ∷ all) = ap (λ z. f (g a) ++ (between ++ z)) (joined_map between f g (b ∷ all))
