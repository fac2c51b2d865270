-- Names that are kept once each, as one is added, as two lists are joined, and as a quantifier takes one off.
use Rattle.std.proofs.Common.{◌≡◌, ℕ, suc, ◌+◌, ◌≤◌, Bool, true, false, not, cond, ◌&&◌, ◌||◌, List, [], ◌∷◌, ◌++◌, length, Some, option_map, refl, ap, sym, ◌∙◌, arith, bytes_eq, length-append, nat_lt}
use Rattle.std.specs.List.{find}
use Rattle.std.proofs.lemmas.List.Folds.{list_any-append}
use Rattle.std.proofs.lemmas.Bool.Decides.{nat_tests}
use Rattle.lrp_model.specs.Texts.{Identifier, without}
use Rattle.lrp_model.specs.Faults.{is_named_in}
use Rattle.lrp_model.specs.Sorting.{Binders, binder_sort, count, counted}
use Rattle.lrp_model.specs.declared.relations.Sort.{Sort}
use Rattle.lrp_model.specs.declared.raw.RawColumn.{RawColumn}
use Rattle.lrp_sorts.specs.Widths.{passing, AreKeptNames}
use Rattle.lrp_sorts.proofs.Counting.{or_true, or_false, and_both, same_name, own_name, stays, left_apart, within, at_most, pushed, counted_most}

-- a name is in two lists where it is in one of them
in_front : (names : List Identifier) (n m : Identifier) → is_named_in names m ≡ true → is_named_in (names ++ n ∷ []) m ≡ true
in_front names n m h = list_any-append (bytes_eq m) names (n ∷ []) ∙ ap (λ t. t || (bytes_eq m n || false)) h

at_end : (names : List Identifier) (n : Identifier) → is_named_in (names ++ n ∷ []) n ≡ true
at_end names n = list_any-append (bytes_eq n) names (n ∷ []) ∙ ap (λ t. is_named_in names n || (t || false)) (own_name n) ∙ or_true (is_named_in names n)

-- either of two
either : (a b : Bool) → (a || b) ≡ true → (P : Type 0) → (a ≡ true → P) → (b ≡ true → P) → P
either true b h P f g = f refl
either false b h P f g = g h

-- a name of a list with one more is one of the list or that one
of_both : (names : List Identifier) (n m : Identifier) → is_named_in (names ++ n ∷ []) m ≡ true → (P : Type 0) → (is_named_in names m ≡ true → P) → (m ≡ n → P) → P
of_both names n m h P f g =
    either (is_named_in names m) (bytes_eq m n || false) (sym (list_any-append (bytes_eq m) names (n ∷ [])) ∙ h) P f (λ e. g (same_name m n (sym (or_false (bytes_eq m n)) ∙ e)))

-- two hold
both_hold : (a b : Bool) → a ≡ true → b ≡ true → (a && b) ≡ true
both_hold a b e f = ap (λ t. t && b) e ∙ f

-- more than 8, and not more
above : (l m n : ℕ) → m ≡ l → m ≤ n → nat_lt 8 l ≡ true → nat_lt 8 n ≡ true
above l m n e h t = grind (arith, nat_tests)

below : (l : ℕ) → nat_lt 8 l ≡ false → l ≤ 8
below l t = grind (arith, nat_tests)

not_above : (n : ℕ) → n ≤ 8 → nat_lt 8 n ≡ false
not_above n h = grind (arith, nat_tests)

-- nothing is kept of no names
pub none_kept : (passes : Sort → Bool) (bs : Binders) (q : ℕ) → AreKeptNames passes bs q [] []
none_kept passes bs q = record { once = refl; among = λ n h. absurd cc; every = λ l n h p. h }

module _ (passes : Sort → Bool) (bs : Binders) (q : ℕ) where
  -- another list of the same names
  pub same_kept : (names others kept : List Identifier) → ((n : Identifier) → is_named_in names n ≡ is_named_in others n) → AreKeptNames passes bs q names kept → AreKeptNames passes bs q others kept
  same_kept names others kept e k = record {
    once = k.once;
    among = λ n h. sym (ap (λ t. t && passing passes (binder_sort bs n)) (e n)) ∙ k.among n h;
    every = λ l n h p. k.every l n (e n ∙ h) p;
  }

  module _ (names kept : List Identifier) (n : Identifier) (k : AreKeptNames passes bs q names kept) where
    -- a name that need not be kept, or is already
    pub as_is : (length kept ≤ 8 + q → passing passes (binder_sort bs n) ≡ true → is_named_in kept n ≡ true) → AreKeptNames passes bs q (names ++ n ∷ []) kept
    as_is f = record {
      once = k.once;
      among = λ m h. let p = and_both (is_named_in names m) _ (k.among m h) in both_hold _ _ (in_front names n m p.0) p.1;
      every = λ l m h p. of_both names n m h _ (λ i. k.every l m i p) (λ e. ap (is_named_in kept) e ∙ f l (ap (λ m. passing passes (binder_sort bs m)) (sym e) ∙ p));
    }

    -- a name of another kind
    pub not_kept : passing passes (binder_sort bs n) ≡ false → AreKeptNames passes bs q (names ++ n ∷ []) kept
    not_kept h = as_is (λ l p. absurd (cc (h, p)))

    -- a name that is kept from then on
    pub kept_too : is_named_in kept n ≡ false → passing passes (binder_sort bs n) ≡ true → AreKeptNames passes bs q (names ++ n ∷ []) (kept ++ n ∷ [])
    kept_too f p =
        let long : length (kept ++ n ∷ []) ≡ length kept + 1 = length-append kept (n ∷ []) in
        record {
          once = pushed passes bs n kept f p ∙ ap (λ x. x + 1) k.once ∙ sym long;
          among = λ m h. of_both kept n m h _
              (λ i. let r = and_both (is_named_in names m) _ (k.among m i) in both_hold _ _ (in_front names n m r.0) r.1)
              (λ e. both_hold _ _ (ap (is_named_in (names ++ n ∷ [])) e ∙ at_end names n) (ap (λ m. passing passes (binder_sort bs m)) e ∙ p));
          every = λ l m h r. of_both names n m h _
              (λ i. in_front kept n m (k.every (omega (arith, l, long)) m i r))
              (λ e. ap (is_named_in (kept ++ n ∷ [])) e ∙ at_end kept n);
        }

  -- ---- whether they are too many

  wide_at : (names kept : List Identifier) (b : Bool) → nat_lt 8 (length kept) ≡ b → AreKeptNames passes bs q names kept → nat_lt 8 (count passes bs names) ≡ b
  wide_at names kept true e k =
      let less : count passes bs kept ≤ count passes bs names = within passes bs kept names (λ m h p. (and_both (is_named_in names m) _ (k.among m h)).0) in
      above (length kept) (count passes bs kept) (count passes bs names) k.once less e
  wide_at names kept false e k =
      let short : length kept ≤ 8 = below (length kept) e in
      let less : count passes bs names ≤ count passes bs kept = within passes bs names kept (λ m h p. k.every (omega (arith, short)) m h p) in
      let same : count passes bs kept ≡ length kept = k.once in
      not_above (count passes bs names) (omega (arith, short, less, same))

  -- as many are kept as it takes to tell whether they are more than 8
  pub wide_kept : (names kept : List Identifier) → AreKeptNames passes bs q names kept → nat_lt 8 (length kept) ≡ nat_lt 8 (count passes bs names)
  wide_kept names kept k = sym (wide_at names kept (nat_lt 8 (length kept)) refl k)

  -- ---- two lists joined

  -- the names that were kept of a list serve for the list
  pub joined : (before names more kept : List Identifier) → AreKeptNames passes bs q (before ++ more) kept → AreKeptNames passes bs q names more → AreKeptNames passes bs q (before ++ names) kept
  joined before names more kept k j = record {
    once = k.once;
    among = λ m h.
        let r = and_both (is_named_in (before ++ more) m) _ (k.among m h) in
        both_hold _ _
        (either (is_named_in before m) (is_named_in more m) (sym (list_any-append (bytes_eq m) before more) ∙ r.0) _
        (λ i. list_any-append (bytes_eq m) before names ∙ ap (λ t. t || is_named_in names m) i)
        (λ i. list_any-append (bytes_eq m) before names ∙ ap (λ t. is_named_in before m || t) ((and_both (is_named_in names m) _ (j.among m i)).0) ∙ or_true (is_named_in before m)))
        r.1;
    every = λ l m h p.
        either (is_named_in before m) (is_named_in names m) (sym (list_any-append (bytes_eq m) before names) ∙ h) _
        (λ i. k.every l m (list_any-append (bytes_eq m) before more ∙ ap (λ t. t || is_named_in more m) i) p)
        (λ i. k.every l m (list_any-append (bytes_eq m) before more ∙ ap (λ t. is_named_in before m || t) (j.every (room l) m i p) ∙ or_true (is_named_in before m)) p);
  }
    where
      room : length kept ≤ 8 + q → length more ≤ 8 + q
      room l =
          let less : count passes bs more ≤ count passes bs kept =
          within passes bs more kept (λ m h p. k.every l m (list_any-append (bytes_eq m) before more ∙ ap (λ t. is_named_in before m || t) h ∙ or_true (is_named_in before m)) p) in
          let one : count passes bs more ≡ length more = j.once in
          let other : count passes bs kept ≡ length kept = k.once in
          omega (arith, less, one, other, l)

-- ---- outside a quantifier

untouched_at : (n x : Identifier) (xs : List Identifier) (b : Bool) → bytes_eq n x ≡ b → (b || is_named_in xs n) ≡ false → (is_named_in xs n ≡ false → without n xs ≡ xs)
    → cond (not b) (x ∷ without n xs) (without n xs) ≡ x ∷ xs
untouched_at n x xs true e h rest = absurd cc
untouched_at n x xs false e h rest = ap (λ l. x ∷ l) (rest h)

-- nothing is taken out where the name isn't there
untouched : (n : Identifier) (xs : List Identifier) → is_named_in xs n ≡ false → without n xs ≡ xs
untouched n [] h = refl
untouched n (x ∷ xs) h = untouched_at n x xs (bytes_eq n x) refl h (untouched n xs)

-- the first of names that are each counted stands for itself
record IsFirst (passes : Sort → Bool) (bs : Binders) (x : Identifier) (xs : List Identifier) : Type 0 where
  alone : is_named_in xs x ≡ false
  counts : counted passes (binder_sort bs x) ≡ 1
  others : count passes bs xs ≡ length xs

module _ (passes : Sort → Bool) where
  first_at : (bs : Binders) (x : Identifier) (xs : List Identifier) (b : Bool) → is_named_in xs x ≡ b
      → cond b (count passes bs xs) (counted passes (binder_sort bs x) + count passes bs xs) ≡ suc (length xs) → IsFirst passes bs x xs
  first_at bs x xs true e h = let most : count passes bs xs ≤ length xs = at_most passes bs xs in absurd (omega (arith, h, most))
  first_at bs x xs false e h =
      let most : count passes bs xs ≤ length xs = at_most passes bs xs in
      let one : counted passes (binder_sort bs x) ≤ 1 = counted_most passes (binder_sort bs x) in
      record { alone = e; counts = omega (arith, h, most, one); others = omega (arith, h, most, one) }

  module _ (c : RawColumn) (bs : Binders) where
    -- another name has the binder that it has outside
    pub outside : (m : Identifier) → bytes_eq c.name m ≡ false → binder_sort (c ∷ bs) m ≡ binder_sort bs m
    outside m e = ap (λ t. option_map (λ (x : RawColumn). x.sort) (cond t (Some c) (find (λ x. bytes_eq x.name m) bs))) e

    outer_at : (x : Identifier) (xs : List Identifier) (b : Bool) → bytes_eq c.name x ≡ b → IsFirst passes (c ∷ bs) x xs
        → (count passes bs (without c.name xs) ≡ length (without c.name xs)) × (length xs ≤ suc (length (without c.name xs)))
        → (count passes bs (cond (not b) (x ∷ without c.name xs) (without c.name xs)) ≡ length (cond (not b) (x ∷ without c.name xs) (without c.name xs)))
        × (suc (length xs) ≤ suc (length (cond (not b) (x ∷ without c.name xs) (without c.name xs))))
    outer_at x xs true e f rest =
        let same : without c.name xs ≡ xs = untouched c.name xs (ap (is_named_in xs) (same_name c.name x e) ∙ f.alone) in
        let long : length (without c.name xs) ≡ length xs = ap length same in
        (rest.0, omega (arith, long))
    outer_at x xs false e f rest =
        let one : counted passes (binder_sort bs x) ≡ 1 = ap (counted passes) (sym (outside x e)) ∙ f.counts in
        let whole : count passes bs (x ∷ without c.name xs) ≡ counted passes (binder_sort bs x) + count passes bs (without c.name xs) =
        ap (λ t. cond t (count passes bs (without c.name xs)) (counted passes (binder_sort bs x) + count passes bs (without c.name xs))) (stays c.name x xs e ∙ f.alone) in
        let others : count passes bs (without c.name xs) ≡ length (without c.name xs) = rest.0 in
        let less : length xs ≤ suc (length (without c.name xs)) = rest.1 in
        (omega (arith, one, whole, others), omega (arith, less))

    -- names that are each counted inside are so outside, without the quantifier's own
    outer_once : (xs : List Identifier) → count passes (c ∷ bs) xs ≡ length xs
        → (count passes bs (without c.name xs) ≡ length (without c.name xs)) × (length xs ≤ suc (length (without c.name xs)))
    outer_once [] h = (refl, omega arith)
    outer_once (x ∷ xs) h =
        let f = first_at (c ∷ bs) x xs (is_named_in xs x) refl h in
        outer_at x xs (bytes_eq c.name x) refl f (outer_once xs f.others)

    -- what is kept inside serves outside, without the quantifier's own
    pub kept_outside : (q : ℕ) (names kept : List Identifier) → AreKeptNames passes (c ∷ bs) (suc q) names kept → AreKeptNames passes bs q (without c.name names) (without c.name kept)
    kept_outside q names kept k =
        let o = outer_once kept k.once in
        let less : length kept ≤ suc (length (without c.name kept)) = o.1 in
        record {
          once = o.0;
          among = λ m h.
              let d : bytes_eq c.name m ≡ false = left_apart c.name m kept h in
              let r = and_both (is_named_in names m) _ (k.among m (sym (stays c.name m kept d) ∙ h)) in
              both_hold _ _ (stays c.name m names d ∙ r.0) (ap (passing passes) (sym (outside m d)) ∙ r.1);
          every = λ l m h p.
              let d : bytes_eq c.name m ≡ false = left_apart c.name m names h in
              stays c.name m kept d ∙ k.every (omega (arith, l, less)) m (sym (stays c.name m names d) ∙ h) (ap (passing passes) (outside m d) ∙ p);
        }
