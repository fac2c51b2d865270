-- Links that are chained stay so where one is taken out or put in.
use Rattle.std.proofs.Common.{◌≡◌, ◌≢◌, ℕ, zero, suc, ◌<◌, ◌⊎◌, inl, inr, List, length, Option, Some, None, IsSome, refl, sym, ap, subst, ◌∙◌, arith}
use Rattle.std.specs.Prelude.{slice_set}
use Rattle.std.proofs.lemmas.List.{get_or-set_same, get_or-set_other, length-set}
use Rattle.lrp_holdings.proofs.Cases.{eq_or}
use Rattle.lrp_holdings.specs.Chains.{AreChained, HasRoomForFirst, IsLedTo, first_of}
use Rattle.lrp_holdings.specs.declared.chains.OwnerLink.{OwnerLink}
use Rattle.lrp_holdings.specs.declared.chains.Owner.{Owner}

pub some_is : {X : Type 0} (a b : X) → Some a ≡ Some b → a ≡ b
some_is a b e = cc

pub not_some : (X : Type 0) → IsSome {T = X} None → ⊥
not_some X h = cc

pub some_stands : {X : Type 0} (x : Option X) (p : X) → x ≡ Some p → IsSome x
some_stands x p e = subst (λ y. IsSome y) (sym e) refl

-- equal in both numbers
pub same_link : (a b : OwnerLink) → a.slot ≡ b.slot → a.place ≡ b.place → a ≡ b
same_link a b s p = ap (λ n. record { slot = n; place = a.place }) s ∙ ap (λ n. record { slot = b.slot; place = n }) p

pub none_some : {X : Type 0} (a : X) → None ≡ Some a → ⊥
none_some a e = cc

-- equal or not
pub link_or : (a b : OwnerLink) → (a ≡ b) ⊎ (a ≢ b)
link_or a b = elim (eq_or a.slot b.slot) [
  | inl s ↦ elim (eq_or a.place b.place) [ inl p ↦ inl (same_link a b s p) | inr d ↦ inr (λ e. d (ap (λ (l : OwnerLink). l.place) e)) ]
  | inr d ↦ inr (λ e. d (ap (λ (l : OwnerLink). l.slot) e))
]

pub some_or : (a : Option OwnerLink) (l : OwnerLink) → (a ≡ Some l) ⊎ (a ≢ Some l)
some_or None l = inr (λ e. none_some l e)
some_or (Some m) l = elim (link_or m l) [ inl e ↦ inl (ap (λ k. Some k) e) | inr d ↦ inr (λ e. d (some_is m l e)) ]

-- the same links
pub mapped : (P Q : OwnerLink → Owner → Type 0) (chains : List (Option OwnerLink)) → ((m : OwnerLink) (o : Owner) → P m o → Q m o) → ((m : OwnerLink) (o : Owner) → Q m o → P m o) → AreChained P chains → AreChained Q chains
mapped P Q chains f g c = record {
  serial = c.serial;
  room = λ l o h. c.room l o (g l o h);
  first_to = λ l o h e. c.first_to l o (g l o h) e;
  first_from = λ n l e. let x = c.first_from n l e in (x.0, f l x.0 x.1, x.2, x.3);
  next = λ l o m h e. let x = c.next l o m (g l o h) e in (x.0, f m x.0 x.1, x.2, x.3);
  before = λ l o m h e. let x = c.before l o m (g l o h) e in (x.0, f m x.0 x.1, x.2, x.3, x.4);
}

-- room for more chains
pub roomier : (P : OwnerLink → Owner → Type 0) (old new : List (Option OwnerLink)) → HasRoomForFirst old new → AreChained P old → AreChained P new
roomier P old new w c = record {
  serial = c.serial;
  room = λ l o h. let x = c.room l o h in omega (arith, x, w.more);
  first_to = λ l o h e. w.same o.number ∙ c.first_to l o h e;
  first_from = λ n l e. c.first_from n l (sym (w.same n) ∙ e);
  next = c.next;
  before = c.before;
}

-- where no chain begins, no owner of that number stands: from each link one comes back to a beginning
module _ (P : OwnerLink → Owner → Type 0) (chains : List (Option OwnerLink)) (c : AreChained P chains) (n : ℕ) (none : first_of chains n ≡ None) where
  absent_from : (l : OwnerLink) (o : Owner) → P l o → o.number ≡ n → ((m : OwnerLink) (p : Owner) → c.serial m < c.serial l → P m p → p.number ≡ n → ⊥) → ⊥
  absent_from l o h e rest = by o.before refl
    where
      by : (b : Option OwnerLink) → o.before ≡ b → ⊥
      by None i = none_some l (sym none ∙ sym (ap (λ x. first_of chains x) e) ∙ c.first_to l o h i)
      by (Some m) i = let x = c.before l o m h i in rest m x.0 x.4 x.1 (x.2 ∙ e)

  absent_by : (k : ℕ) (l : OwnerLink) (o : Owner) → c.serial l < k → P l o → o.number ≡ n → ⊥
  absent_by zero l o low h e = omega (arith, low)
  absent_by (suc k) l o low h e = absent_from l o h e (λ m p s i j. absent_by k m p (omega (arith, low, s)) i j)

  pub absent : (l : OwnerLink) (o : Owner) → P l o → o.number ≡ n → ⊥
  absent l o h e = absent_by (suc (c.serial l)) l o (omega arith) h e

-- ---- a link is taken out

-- what was linked to it is linked to what it was linked to
pub record IsRedirected (l : OwnerLink) (o p q : Owner) : Type 0 where
  pub number : q.number ≡ p.number
  pub next_to : p.next ≡ Some l → q.next ≡ o.next
  pub next_same : p.next ≢ Some l → q.next ≡ p.next
  pub before_to : p.before ≡ Some l → q.before ≡ o.before
  pub before_same : p.before ≢ Some l → q.before ≡ p.before

pub record IsUnlinked (P Q : OwnerLink → Owner → Type 0) (l : OwnerLink) (o : Owner) : Type 0 where
  pub to : (m : OwnerLink) (q : Owner) → Q m q → (p : Owner) × P m p × (m ≢ l) × IsRedirected l o p q
  pub from : (m : OwnerLink) (p : Owner) → P m p → m ≢ l → (q : Owner) × Q m q × IsRedirected l o p q

module _ (P Q : OwnerLink → Owner → Type 0) (old new : List (Option OwnerLink)) (c : AreChained P old) (one : (m : OwnerLink) (p q : Owner) → P m p → P m q → p ≡ q)
    (l : OwnerLink) (o : Owner) (at : P l o) (led : IsLedTo o old new) (w : IsUnlinked P Q l o) where
  first_same : (n : ℕ) → n ≢ o.number → first_of new n ≡ first_of old n
  first_same n d = by o.before refl
    where
      by : (b : Option OwnerLink) → o.before ≡ b → first_of new n ≡ first_of old n
      by None e = ap (λ cs. first_of cs n) (led.first e) ∙ get_or-set_other old o.number n o.next None d
      by (Some b) e = ap (λ cs. first_of cs n) (led.later b e)

  first_later : (b : OwnerLink) → o.before ≡ Some b → (n : ℕ) → first_of new n ≡ first_of old n
  first_later b e n = ap (λ cs. first_of cs n) (led.later b e)

  first_led : o.before ≡ None → first_of new o.number ≡ o.next
  first_led e = ap (λ cs. first_of cs o.number) (led.first e) ∙ get_or-set_same old o.number o.next None (c.room l o at)

  same_size : length new ≡ length old
  same_size = by o.before refl
    where
      by : (b : Option OwnerLink) → o.before ≡ b → length new ≡ length old
      by None e = ap (λ (cs : List (Option OwnerLink)). length cs) (led.first e) ∙ length-set old o.number o.next
      by (Some b) e = ap (λ (cs : List (Option OwnerLink)). length cs) (led.later b e)

  -- a link with this one before or after it is another one
  apart_before : (m : OwnerLink) (p : Owner) → P m p → p.before ≡ Some l → m ≢ l
  apart_before m p h b e = let x = c.before m p l h b in let s : c.serial l < c.serial m = x.4 in let t : c.serial m ≡ c.serial l = ap c.serial e in omega (arith, s, t)

  keeps : (m : OwnerLink) (p : Owner) → P m p → m ≢ l → p.before ≡ None → first_of new p.number ≡ Some m
  keeps m p h d none = elim (eq_or p.number o.number) [
    | inr differ ↦ first_same p.number differ ∙ c.first_to m p h none
    | inl same ↦ by same o.before refl
  ]
    where
      by : p.number ≡ o.number → (b : Option OwnerLink) → o.before ≡ b → first_of new p.number ≡ Some m
      by same (Some b) e = first_later b e p.number ∙ c.first_to m p h none
      by same None e = absurd (d (some_is m l (sym (c.first_to m p h none) ∙ ap (λ n. first_of old n) same ∙ c.first_to l o at e)))

  to_first : (m : OwnerLink) (q : Owner) → Q m q → q.before ≡ None → first_of new q.number ≡ Some m
  to_first m q h e =
      let x = w.to m q h in
      elim (some_or x.0.before l) [
        | inl b ↦ let y = c.before m x.0 l x.1 b in
            let same : y.0 ≡ o = one l y.0 o y.1 at in
            ap (λ n. first_of new n) (x.3.number ∙ sym y.2 ∙ ap (λ (p : Owner). p.number) same) ∙ first_led (sym (x.3.before_to b) ∙ e) ∙ sym (ap (λ (p : Owner). p.next) same) ∙ y.3
        | inr d ↦ ap (λ n. first_of new n) x.3.number ∙ keeps m x.0 x.1 x.2 (sym (x.3.before_same d) ∙ e)
      ]

  from_first : (n : ℕ) (m : OwnerLink) → first_of new n ≡ Some m → (q : Owner) × Q m q × (q.number ≡ n) × (q.before ≡ None)
  from_first n m h = elim (eq_or n o.number) [ inr d ↦ stays (sym (first_same n d) ∙ h) (λ same none. d (sym same)) | inl s ↦ by s o.before refl ]
    where
      stays : first_of old n ≡ Some m → (o.number ≡ n → o.before ≡ None → ⊥) → (q : Owner) × Q m q × (q.number ≡ n) × (q.before ≡ None)
      stays g differ =
          let x = c.first_from n m g in
          let d : m ≢ l = λ e. let same : x.0 ≡ o = one l x.0 o (subst (λ k. P k x.0) e x.1) at in differ (sym (ap (λ (p : Owner). p.number) same) ∙ x.2) (sym (ap (λ (p : Owner). p.before) same) ∙ x.3) in
          let y = w.from m x.0 x.1 d in
          (y.0, y.1, y.2.number ∙ x.2, y.2.before_same (λ e. none_some l (sym x.3 ∙ e)) ∙ x.3)

      by : n ≡ o.number → (b : Option OwnerLink) → o.before ≡ b → (q : Owner) × Q m q × (q.number ≡ n) × (q.before ≡ None)
      by s (Some b) e = stays (sym (first_later b e n) ∙ h) (λ same none. none_some b (sym none ∙ e))
      by s None e =
          let x = c.next l o m at (sym (first_led e) ∙ ap (λ k. first_of new k) (sym s) ∙ h) in
          let y = w.from m x.0 x.1 (apart_before m x.0 x.1 x.3) in
          (y.0, y.1, y.2.number ∙ x.2 ∙ sym s, y.2.before_to x.3 ∙ e)

  to_next : (m : OwnerLink) (q : Owner) (k : OwnerLink) → Q m q → q.next ≡ Some k → (p : Owner) × Q k p × (p.number ≡ q.number) × (p.before ≡ Some m)
  to_next m q k h e =
      let x = w.to m q h in
      elim (some_or x.0.next l) [
        | inl s ↦ let y = c.next m x.0 l x.1 s in
            let same : y.0 ≡ o = one l y.0 o y.1 at in
            let z = c.next l o k at (sym (x.3.next_to s) ∙ e) in
            let u = w.from k z.0 z.1 (apart_before k z.0 z.1 z.3) in
            (u.0, u.1, u.2.number ∙ z.2 ∙ sym (ap (λ (p : Owner). p.number) same) ∙ y.2 ∙ sym x.3.number, u.2.before_to z.3 ∙ sym (ap (λ (p : Owner). p.before) same) ∙ y.3)
        | inr d ↦ let g : x.0.next ≡ Some k = sym (x.3.next_same d) ∙ e in
            let z = c.next m x.0 k x.1 g in
            let u = w.from k z.0 z.1 (λ i. d (g ∙ ap (λ j. Some j) i)) in
            (u.0, u.1, u.2.number ∙ z.2 ∙ sym x.3.number, u.2.before_same (λ i. x.2 (some_is m l (sym z.3 ∙ i))) ∙ z.3)
      ]

  to_before : (m : OwnerLink) (q : Owner) (k : OwnerLink) → Q m q → q.before ≡ Some k → (p : Owner) × Q k p × (p.number ≡ q.number) × (p.next ≡ Some m) × (c.serial k < c.serial m)
  to_before m q k h e =
      let x = w.to m q h in
      elim (some_or x.0.before l) [
        | inl s ↦ let y = c.before m x.0 l x.1 s in
            let same : y.0 ≡ o = one l y.0 o y.1 at in
            let z = c.before l o k at (sym (x.3.before_to s) ∙ e) in
            let a : c.serial l < c.serial m = y.4 in
            let b : c.serial k < c.serial l = z.4 in
            let u = w.from k z.0 z.1 (λ i. let t : c.serial k ≡ c.serial l = ap c.serial i in omega (arith, b, t)) in
            (u.0, u.1, u.2.number ∙ z.2 ∙ sym (ap (λ (p : Owner). p.number) same) ∙ y.2 ∙ sym x.3.number, u.2.next_to z.3 ∙ sym (ap (λ (p : Owner). p.next) same) ∙ y.3, omega (arith, a, b))
        | inr d ↦ let g : x.0.before ≡ Some k = sym (x.3.before_same d) ∙ e in
            let z = c.before m x.0 k x.1 g in
            let u = w.from k z.0 z.1 (λ i. d (g ∙ ap (λ j. Some j) i)) in
            (u.0, u.1, u.2.number ∙ z.2 ∙ sym x.3.number, u.2.next_same (λ i. x.2 (some_is m l (sym z.3 ∙ i))) ∙ z.3, z.4)
      ]

  pub unlinked : AreChained Q new
  unlinked = record {
    serial = c.serial;
    room = λ m q h. let x = w.to m q h in let r = c.room m x.0 x.1 in let s = x.3.number in omega (arith, r, s, same_size);
    first_to = to_first;
    first_from = from_first;
    next = to_next;
    before = to_before;
  }

-- ---- a link is put before the others of a chain

-- the link that was the first has this one before it
pub record IsFronted (l : OwnerLink) (first : Option OwnerLink) (m : OwnerLink) (p q : Owner) : Type 0 where
  pub number : q.number ≡ p.number
  pub next : q.next ≡ p.next
  pub before_to : first ≡ Some m → q.before ≡ Some l
  pub before_same : first ≢ Some m → q.before ≡ p.before

pub record IsLinked (P Q : OwnerLink → Owner → Type 0) (l : OwnerLink) (n : ℕ) (first : Option OwnerLink) : Type 0 where
  pub free : (p : Owner) → P l p → ⊥
  pub there : (q : Owner) × Q l q × (q.number ≡ n) × (q.before ≡ None) × (q.next ≡ first)
  pub one : (p q : Owner) → Q l p → Q l q → p ≡ q
  pub to : (m : OwnerLink) (q : Owner) → Q m q → m ≢ l → (p : Owner) × P m p × IsFronted l first m p q
  pub from : (m : OwnerLink) (p : Owner) → P m p → (q : Owner) × Q m q × IsFronted l first m p q

module _ (P Q : OwnerLink → Owner → Type 0) (old : List (Option OwnerLink)) (c : AreChained P old) (one : (m : OwnerLink) (p q : Owner) → P m p → P m q → p ≡ q)
    (l : OwnerLink) (n : ℕ) (low : n < length old) (w : IsLinked P Q l n (first_of old n)) where
  abbrev New : List (Option OwnerLink)
  New = slice_set old n (Some l)

  abbrev first : Option OwnerLink
  first = first_of old n

  abbrev rank : (m : OwnerLink) → (m ≡ l) ⊎ (m ≢ l) → ℕ
  rank m (inl e) = 0
  rank m (inr d) = suc (c.serial m)

  abbrev ranked : OwnerLink → ℕ
  ranked m = rank m (link_or m l)

  ranked_here : ranked l ≡ 0
  ranked_here = by (link_or l l)
    where
      by : (x : (l ≡ l) ⊎ (l ≢ l)) → rank l x ≡ 0
      by (inl e) = refl
      by (inr d) = absurd (d refl)

  ranked_other : (m : OwnerLink) → m ≢ l → ranked m ≡ suc (c.serial m)
  ranked_other m d = by (link_or m l)
    where
      by : (x : (m ≡ l) ⊎ (m ≢ l)) → rank m x ≡ suc (c.serial m)
      by (inl e) = absurd (d e)
      by (inr d) = refl

  begins : first_of New n ≡ Some l
  begins = get_or-set_same old n (Some l) None low

  others : (k : ℕ) → k ≢ n → first_of New k ≡ first_of old k
  others k d = get_or-set_other old n k (Some l) None d

  size : length New ≡ length old
  size = length-set old n (Some l)

  -- what stands at the link
  here : (q : Owner) → Q l q → (q.number ≡ n) × (q.before ≡ None) × (q.next ≡ first)
  here q h = let same : q ≡ w.there.0 = w.one q w.there.0 h w.there.1 in
      (ap (λ (p : Owner). p.number) same ∙ w.there.2, ap (λ (p : Owner). p.before) same ∙ w.there.3, ap (λ (p : Owner). p.next) same ∙ w.there.4)

  at_other : (m : OwnerLink) (p : Owner) → P m p → m ≢ l
  at_other m p h e = w.free p (subst (λ k. P k p) e h)

  linked_room : (m : OwnerLink) (q : Owner) → Q m q → q.number < length New
  linked_room m q h = elim (link_or m l) [
    | inl e ↦ let x = here q (subst (λ k. Q k q) e h) in let s : q.number ≡ n = x.0 in omega (arith, s, low, size)
    | inr d ↦ let x = w.to m q h d in let r = c.room m x.0 x.1 in let s = x.2.number in omega (arith, r, s, size)
  ]

  linked_first_to : (m : OwnerLink) (q : Owner) → Q m q → q.before ≡ None → first_of New q.number ≡ Some m
  linked_first_to m q h e = elim (link_or m l) [
    | inl s ↦ let x = here q (subst (λ k. Q k q) s h) in ap (λ k. first_of New k) x.0 ∙ begins ∙ ap (λ k. Some k) (sym s)
    | inr d ↦ let x = w.to m q h d in
        elim (some_or first m) [
          | inl f ↦ absurd (none_some l (sym e ∙ x.2.before_to f))
          | inr g ↦ let was : first_of old x.0.number ≡ Some m = c.first_to m x.0 x.1 (sym (x.2.before_same g) ∙ e) in
              ap (λ k. first_of New k) x.2.number ∙ others x.0.number (λ i. g (sym (ap (λ k. first_of old k) i) ∙ was)) ∙ was
        ]
  ]

  linked_first_from : (k : ℕ) (m : OwnerLink) → first_of New k ≡ Some m → (q : Owner) × Q m q × (q.number ≡ k) × (q.before ≡ None)
  linked_first_from k m h = elim (eq_or k n) [
    | inl e ↦ let s : l ≡ m = some_is l m (sym begins ∙ ap (λ j. first_of New j) (sym e) ∙ h) in (w.there.0, subst (λ j. Q j w.there.0) s w.there.1, w.there.2 ∙ sym e, w.there.3)
    | inr d ↦ let x = c.first_from k m (sym (others k d) ∙ h) in
        let u = w.from m x.0 x.1 in
        elim (some_or first m) [
          | inl f ↦ let y = c.first_from n m f in absurd (d (sym x.2 ∙ ap (λ (p : Owner). p.number) (one m x.0 y.0 x.1 y.1) ∙ y.2))
          | inr g ↦ (u.0, u.1, u.2.number ∙ x.2, u.2.before_same g ∙ x.3)
        ]
  ]

  linked_next : (m : OwnerLink) (q : Owner) (k : OwnerLink) → Q m q → q.next ≡ Some k → (p : Owner) × Q k p × (p.number ≡ q.number) × (p.before ≡ Some m)
  linked_next m q k h e = elim (link_or m l) [
    | inl s ↦ let x = here q (subst (λ j. Q j q) s h) in
        let f : first ≡ Some k = sym x.2 ∙ e in
        let y = c.first_from n k f in
        let u = w.from k y.0 y.1 in
        (u.0, u.1, u.2.number ∙ y.2 ∙ sym x.0, u.2.before_to f ∙ ap (λ j. Some j) (sym s))
    | inr d ↦ let x = w.to m q h d in
        let z = c.next m x.0 k x.1 (sym x.2.next ∙ e) in
        let u = w.from k z.0 z.1 in
        let g : first ≢ Some k = λ f. let y = c.first_from n k f in none_some m (sym y.3 ∙ ap (λ (p : Owner). p.before) (one k y.0 z.0 y.1 z.1) ∙ z.3) in
        (u.0, u.1, u.2.number ∙ z.2 ∙ sym x.2.number, u.2.before_same g ∙ z.3)
  ]

  linked_before : (m : OwnerLink) (q : Owner) (k : OwnerLink) → Q m q → q.before ≡ Some k → (p : Owner) × Q k p × (p.number ≡ q.number) × (p.next ≡ Some m) × (ranked k < ranked m)
  linked_before m q k h e = elim (link_or m l) [
    | inl s ↦ let x = here q (subst (λ j. Q j q) s h) in absurd (none_some k (sym x.1 ∙ e))
    | inr d ↦ let x = w.to m q h d in
        elim (some_or first m) [
          | inl f ↦ let y = c.first_from n m f in
              let s : l ≡ k = some_is l k (sym (x.2.before_to f) ∙ e) in
              let a : ranked k ≡ 0 = ap ranked (sym s) ∙ ranked_here in
              let b : ranked m ≡ suc (c.serial m) = ranked_other m d in
              (w.there.0, subst (λ j. Q j w.there.0) s w.there.1, w.there.2 ∙ sym y.2 ∙ ap (λ (p : Owner). p.number) (one m y.0 x.0 y.1 x.1) ∙ sym x.2.number, w.there.4 ∙ f, omega (arith, a, b))
          | inr g ↦ let z = c.before m x.0 k x.1 (sym (x.2.before_same g) ∙ e) in
              let u = w.from k z.0 z.1 in
              let a : ranked k ≡ suc (c.serial k) = ranked_other k (at_other k z.0 z.1) in
              let b : ranked m ≡ suc (c.serial m) = ranked_other m d in
              let s : c.serial k < c.serial m = z.4 in
              (u.0, u.1, u.2.number ∙ z.2 ∙ sym x.2.number, u.2.next ∙ z.3, omega (arith, a, b, s))
        ]
  ]

  pub linked : AreChained Q New
  linked = record {
    serial = ranked;
    room = linked_room;
    first_to = linked_first_to;
    first_from = linked_first_from;
    next = linked_next;
    before = linked_before;
  }
