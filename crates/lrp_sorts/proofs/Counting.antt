-- How many names of a kind occur free, told by names that are kept once each.
use Rattle.std.proofs.Common.{◌≡◌, ℕ, suc, ◌+◌, ◌≤◌, Bool, true, false, not, cond, ◌&&◌, ◌||◌, List, [], ◌∷◌, ◌++◌, length, Option, Some, None, refl, ap, sym, ◌∙◌, arith, bytes_eq, subst}
use Rattle.std.proofs.lemmas.List.Folds.{list_any-append}
use Rattle.std.proofs.lemmas.Slice.Eq.{bytes_eq-Decides}
use Rattle.lrp_model.specs.Texts.{Identifier, without}
use Rattle.lrp_model.specs.Faults.{is_named_in}
use Rattle.lrp_model.specs.Sorting.{Binders, binder_sort, count, counted}
use Rattle.lrp_model.specs.declared.relations.Sort.{Sort}
use Rattle.lrp_sorts.specs.Widths.{passing}

-- ---- tests

-- what is true decides
pub or_true : (a : Bool) → (a || true) ≡ true
or_true true = refl
or_true false = refl

-- what is false adds nothing
pub or_false : (a : Bool) → (a || false) ≡ a
or_false true = refl
or_false false = refl

-- none of two holds
pub or_neither : (a b : Bool) → (a || b) ≡ false → (a ≡ false) × (b ≡ false)
or_neither true b h = absurd cc
or_neither false b h = (refl, h)

-- both hold
pub and_both : (a b : Bool) → (a && b) ≡ true → (a ≡ true) × (b ≡ true)
and_both true b e = (refl, e)
and_both false b e = absurd cc

-- ---- names

-- names that pass the test are one
pub same_name : (m n : Identifier) → bytes_eq m n ≡ true → m ≡ n
same_name m n e = (bytes_eq-Decides m n).0 e

-- a name is its own
pub own_name : (n : Identifier) → bytes_eq n n ≡ true
own_name n = (bytes_eq-Decides n n).1 refl

other_way : (m n : Identifier) (b : Bool) → bytes_eq m n ≡ b → bytes_eq n m ≡ false → b ≡ false
other_way m n false e h = refl
other_way m n true e h =
    let t : bytes_eq n m ≡ true = ap (λ k. bytes_eq n k) (same_name m n e) ∙ own_name n in
    cc

-- other names are so both ways round
pub otherwise : (m n : Identifier) → bytes_eq n m ≡ false → bytes_eq m n ≡ false
otherwise m n h = other_way m n (bytes_eq m n) refl h

apart_at : (names : List Identifier) (x m : Identifier) (b : Bool) → bytes_eq x m ≡ b → is_named_in names x ≡ false → is_named_in names m ≡ true → b ≡ false
apart_at names x m false e f h = refl
apart_at names x m true e f h =
    let t : is_named_in names x ≡ true = ap (is_named_in names) (same_name x m e) ∙ h in
    cc

-- a name of a list is another than one that the list lacks
pub apart : (names : List Identifier) (x m : Identifier) → is_named_in names x ≡ false → is_named_in names m ≡ true → bytes_eq x m ≡ false
apart names x m f h = apart_at names x m (bytes_eq x m) refl f h

-- ---- a name taken out of a list

stays_at : (n m x : Identifier) (xs : List Identifier) (b : Bool) → bytes_eq n x ≡ b → bytes_eq n m ≡ false → is_named_in (without n xs) m ≡ is_named_in xs m
    → is_named_in (cond (not b) (x ∷ without n xs) (without n xs)) m ≡ (bytes_eq m x || is_named_in xs m)
stays_at n m x xs false e h rest = ap (λ t. bytes_eq m x || t) rest
stays_at n m x xs true e h rest =
    rest ∙ sym (ap (λ t. t || is_named_in xs m) (ap (λ k. bytes_eq m k) (sym (same_name n x e)) ∙ otherwise m n h))

-- the other names stay
pub stays : (n m : Identifier) (names : List Identifier) → bytes_eq n m ≡ false → is_named_in (without n names) m ≡ is_named_in names m
stays n m [] h = refl
stays n m (x ∷ xs) h = stays_at n m x xs (bytes_eq n x) refl h (stays n m xs h)

gone_at : (n x : Identifier) (xs : List Identifier) (b : Bool) → bytes_eq n x ≡ b → is_named_in (without n xs) n ≡ false
    → is_named_in (cond (not b) (x ∷ without n xs) (without n xs)) n ≡ false
gone_at n x xs false e rest = ap (λ t. t || is_named_in (without n xs) n) e ∙ rest
gone_at n x xs true e rest = rest

-- the name itself is gone
pub gone : (n : Identifier) (names : List Identifier) → is_named_in (without n names) n ≡ false
gone n [] = refl
gone n (x ∷ xs) = gone_at n x xs (bytes_eq n x) refl (gone n xs)

-- a name that is left is another
pub left_apart : (n m : Identifier) (names : List Identifier) → is_named_in (without n names) m ≡ true → bytes_eq n m ≡ false
left_apart n m names h = apart (without n names) n m (gone n names) h

-- ---- counts

-- a number counted unless the test holds
more_cond : (b : Bool) (k m n : ℕ) → m ≤ n → cond b m (k + m) ≤ cond b n (k + n)
more_cond true k m n h = h
more_cond false k m n h = omega (arith, h)

most_cond : (b : Bool) (k n : ℕ) → n ≤ cond b n (k + n)
most_cond true k n = omega arith
most_cond false k n = omega arith

sooner_cond : (b : Bool) (k m n : ℕ) → suc m ≤ n → suc (cond b m (k + m)) ≤ cond b n (k + n)
sooner_cond true k m n h = h
sooner_cond false k m n h = omega (arith, h)

-- one that passes counts once, and one that doesn't, nothing
counted_once : (passes : Sort → Bool) (s : Option Sort) → passing passes s ≡ true → counted passes s ≡ 1
counted_once passes None e = absurd cc
counted_once passes (Some s) e = ap (λ b. cond b 1 0) e

counted_never : (passes : Sort → Bool) (s : Option Sort) → passing passes s ≡ false → counted passes s ≡ 0
counted_never passes None e = refl
counted_never passes (Some s) e = ap (λ b. cond b 1 0) e

pub counted_most : (passes : Sort → Bool) (s : Option Sort) → counted passes s ≤ 1
counted_most passes None = omega arith
counted_most passes (Some s) = one_at (passes s)
  where
    one_at : (b : Bool) → cond b 1 0 ≤ 1
    one_at true = omega arith
    one_at false = omega arith

pub counted_passing : (passes : Sort → Bool) (s : Option Sort) → counted passes s ≡ 1 → passing passes s ≡ true
counted_passing passes None e = absurd (omega (arith, e))
counted_passing passes (Some s) e = passes_at (passes s) e
  where
    passes_at : (b : Bool) → ◌≡◌ {A = ℕ} (cond b 1 0) 1 → b ≡ true
    passes_at true h = refl
    passes_at false h = absurd (omega (arith, h))

module _ (passes : Sort → Bool) (bs : Binders) where
  -- a name that stands further on too isn't counted again
  again : (x : Identifier) (xs : List Identifier) → is_named_in xs x ≡ true → count passes bs (x ∷ xs) ≡ count passes bs xs
  again x xs e = ap (λ b. cond b (count passes bs xs) (counted passes (binder_sort bs x) + count passes bs xs)) e

  -- the last of its name is
  newly : (x : Identifier) (xs : List Identifier) → is_named_in xs x ≡ false → count passes bs (x ∷ xs) ≡ counted passes (binder_sort bs x) + count passes bs xs
  newly x xs e = ap (λ b. cond b (count passes bs xs) (counted passes (binder_sort bs x) + count passes bs xs)) e

  -- so a name more is no fewer
  no_fewer : (x : Identifier) (xs : List Identifier) → count passes bs xs ≤ count passes bs (x ∷ xs)
  no_fewer x xs = most_cond (is_named_in xs x) (counted passes (binder_sort bs x)) (count passes bs xs)

  -- the count of a list in which a name was taken out after another
  after : (n x : Identifier) (xs : List Identifier) → bytes_eq n x ≡ false
      → count passes bs (x ∷ without n xs) ≡ cond (is_named_in xs x) (count passes bs (without n xs)) (counted passes (binder_sort bs x) + count passes bs (without n xs))
  after n x xs e = ap (λ b. cond b (count passes bs (without n xs)) (counted passes (binder_sort bs x) + count passes bs (without n xs))) (stays n x xs e)

  fewer_at : (n x : Identifier) (xs : List Identifier) (b : Bool) → bytes_eq n x ≡ b → count passes bs (without n xs) ≤ count passes bs xs
      → count passes bs (cond (not b) (x ∷ without n xs) (without n xs)) ≤ count passes bs (x ∷ xs)
  fewer_at n x xs true e rest = let more : count passes bs xs ≤ count passes bs (x ∷ xs) = no_fewer x xs in omega (arith, rest, more)
  fewer_at n x xs false e rest =
      subst (λ k. k ≤ count passes bs (x ∷ xs)) (sym (after n x xs e)) (more_cond (is_named_in xs x) (counted passes (binder_sort bs x)) (count passes bs (without n xs)) (count passes bs xs) rest)

  -- without a name there are no more
  fewer : (n : Identifier) (xs : List Identifier) → count passes bs (without n xs) ≤ count passes bs xs
  fewer n [] = omega arith
  fewer n (x ∷ xs) = fewer_at n x xs (bytes_eq n x) refl (fewer n xs)

  out_here : (n x : Identifier) (xs : List Identifier) (b : Bool) → n ≡ x → is_named_in xs n ≡ b → passing passes (binder_sort bs n) ≡ true
      → (is_named_in xs n ≡ true → suc (count passes bs (without n xs)) ≤ count passes bs xs) → suc (count passes bs (without n xs)) ≤ count passes bs (x ∷ xs)
  out_here n x xs true s i p rest =
      let less : suc (count passes bs (without n xs)) ≤ count passes bs xs = rest i in
      let more : count passes bs xs ≤ count passes bs (x ∷ xs) = no_fewer x xs in
      omega (arith, less, more)
  out_here n x xs false s i p rest =
      let whole : count passes bs (x ∷ xs) ≡ counted passes (binder_sort bs x) + count passes bs xs = newly x xs (ap (is_named_in xs) (sym s) ∙ i) in
      let one : counted passes (binder_sort bs x) ≡ 1 = counted_once passes (binder_sort bs x) (ap (λ k. passing passes (binder_sort bs k)) (sym s) ∙ p) in
      let less : count passes bs (without n xs) ≤ count passes bs xs = fewer n xs in
      omega (arith, whole, one, less)

  out_at : (n x : Identifier) (xs : List Identifier) (b : Bool) → bytes_eq n x ≡ b → (b || is_named_in xs n) ≡ true → passing passes (binder_sort bs n) ≡ true
      → (is_named_in xs n ≡ true → suc (count passes bs (without n xs)) ≤ count passes bs xs) → suc (count passes bs (cond (not b) (x ∷ without n xs) (without n xs))) ≤ count passes bs (x ∷ xs)
  out_at n x xs true e i p rest = out_here n x xs (is_named_in xs n) (same_name n x e) refl p rest
  out_at n x xs false e i p rest =
      subst (λ k. suc k ≤ count passes bs (x ∷ xs)) (sym (after n x xs e)) (sooner_cond (is_named_in xs x) (counted passes (binder_sort bs x)) (count passes bs (without n xs)) (count passes bs xs) (rest i))

  -- without a name that is counted there are fewer
  out : (n : Identifier) (xs : List Identifier) → is_named_in xs n ≡ true → passing passes (binder_sort bs n) ≡ true → suc (count passes bs (without n xs)) ≤ count passes bs xs
  out n [] i p = absurd cc
  out n (x ∷ xs) i p = out_at n x xs (bytes_eq n x) refl i p (λ h. out n xs h p)

  within_at : (x : Identifier) (xs names : List Identifier) (b d : Bool) → is_named_in xs x ≡ b → passing passes (binder_sort bs x) ≡ d
      → ((m : Identifier) → (bytes_eq m x || is_named_in xs m) ≡ true → passing passes (binder_sort bs m) ≡ true → is_named_in names m ≡ true)
      → ((others : List Identifier) → ((m : Identifier) → is_named_in xs m ≡ true → passing passes (binder_sort bs m) ≡ true → is_named_in others m ≡ true) → count passes bs xs ≤ count passes bs others)
      → count passes bs (x ∷ xs) ≤ count passes bs names
  within_at x xs names true d i p h rest =
      let same : count passes bs (x ∷ xs) ≡ count passes bs xs = again x xs i in
      let less : count passes bs xs ≤ count passes bs names = rest names (λ m j q. h m (ap (λ t. bytes_eq m x || t) j ∙ or_true (bytes_eq m x)) q) in
      omega (arith, same, less)
  within_at x xs names false false i p h rest =
      let same : count passes bs (x ∷ xs) ≡ counted passes (binder_sort bs x) + count passes bs xs = newly x xs i in
      let none : counted passes (binder_sort bs x) ≡ 0 = counted_never passes (binder_sort bs x) p in
      let less : count passes bs xs ≤ count passes bs names = rest names (λ m j q. h m (ap (λ t. bytes_eq m x || t) j ∙ or_true (bytes_eq m x)) q) in
      omega (arith, same, none, less)
  within_at x xs names false true i p h rest =
      let same : count passes bs (x ∷ xs) ≡ counted passes (binder_sort bs x) + count passes bs xs = newly x xs i in
      let one : counted passes (binder_sort bs x) ≡ 1 = counted_once passes (binder_sort bs x) p in
      let there : is_named_in names x ≡ true = h x (ap (λ t. t || is_named_in xs x) (own_name x)) p in
      let fewer : suc (count passes bs (without x names)) ≤ count passes bs names = out x names there p in
      let less : count passes bs xs ≤ count passes bs (without x names) =
      rest (without x names) (λ m j q. stays x m names (apart xs x m i j) ∙ h m (ap (λ t. bytes_eq m x || t) j ∙ or_true (bytes_eq m x)) q) in
      omega (arith, same, one, fewer, less)

  -- names that all stand in another list are no more than those
  pub within : (xs names : List Identifier) → ((m : Identifier) → is_named_in xs m ≡ true → passing passes (binder_sort bs m) ≡ true → is_named_in names m ≡ true) → count passes bs xs ≤ count passes bs names
  within [] names h = omega arith
  within (x ∷ xs) names h = within_at x xs names (is_named_in xs x) (passing passes (binder_sort bs x)) refl refl h (λ others k. within xs others k)

  -- ---- names that are each counted

  most_at : (b : Bool) (k n l : ℕ) → k ≤ 1 → n ≤ l → cond b n (k + n) ≤ suc l
  most_at true k n l h j = omega (arith, j)
  most_at false k n l h j = omega (arith, h, j)

  -- no list counts more than its length
  pub at_most : (xs : List Identifier) → count passes bs xs ≤ length xs
  at_most [] = omega arith
  at_most (x ∷ xs) = most_at (is_named_in xs x) (counted passes (binder_sort bs x)) (count passes bs xs) (length xs) (counted_most passes (binder_sort bs x)) (at_most xs)

  push_at : (x n : Identifier) (xs : List Identifier) (b : Bool) → is_named_in xs x ≡ b → bytes_eq x n ≡ false → count passes bs (xs ++ n ∷ []) ≡ count passes bs xs + 1
      → count passes bs (x ∷ (xs ++ n ∷ [])) ≡ count passes bs (x ∷ xs) + 1
  push_at x n xs b e d rest =
      let front : is_named_in (xs ++ n ∷ []) x ≡ b = list_any-append (bytes_eq x) xs (n ∷ []) ∙ ap (λ t. is_named_in xs x || (t || false)) d ∙ or_false (is_named_in xs x) ∙ e in
      ap (λ t. cond t (count passes bs (xs ++ n ∷ [])) (counted passes (binder_sort bs x) + count passes bs (xs ++ n ∷ []))) front
      ∙ plus_one b
      ∙ sym (ap (λ t. cond t (count passes bs xs) (counted passes (binder_sort bs x) + count passes bs xs) + 1) e)
    where
      plus_one : (b : Bool) → cond b (count passes bs (xs ++ n ∷ [])) (counted passes (binder_sort bs x) + count passes bs (xs ++ n ∷ [])) ≡ cond b (count passes bs xs) (counted passes (binder_sort bs x) + count passes bs xs) + 1
      plus_one true = rest
      plus_one false = omega (arith, rest)

  -- one that is new and passes is one more
  pub pushed : (n : Identifier) (xs : List Identifier) → is_named_in xs n ≡ false → passing passes (binder_sort bs n) ≡ true → count passes bs (xs ++ n ∷ []) ≡ count passes bs xs + 1
  pushed n [] f p = let one : counted passes (binder_sort bs n) ≡ 1 = counted_once passes (binder_sort bs n) p in omega (arith, one)
  pushed n (x ∷ xs) f p =
      let neither = or_neither (bytes_eq n x) (is_named_in xs n) f in
      push_at x n xs (is_named_in xs x) refl (otherwise x n neither.0) (pushed n xs neither.1 p)
