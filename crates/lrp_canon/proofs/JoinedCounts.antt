-- The rows of sets that have no texts in common are those of each of them.
use Rattle.std.proofs.Common.{◌≡◌, ◌≢◌, ℕ, ◌+◌, ◌-◌, ◌*◌, ◌<◌, ◌≤◌, ◌^◌, ◌⊎◌, inl, inr, List, [], ◌∷◌, ◌++◌, length, length-append, get_or, arith, refl, sym, subst, ap, ◌∙◌}
use Rattle.std.specs.Prelude.{ℤ, pos, nat_abs, ◌-ℤ◌, ◌≤ℤ◌, AllPairs, Contains, min}
use Rattle.std.proofs.lemmas.Int.{ints}
use Rattle.std.proofs.lemmas.List.Elements.{Contains-append_cases, Contains-append_left, Contains-append_right}
use Rattle.std.proofs.lemmas.List.{get_or_append_left}
use Rattle.lrp_theory.specs.Divides.{Divides}
use Rattle.lrp_theory.proofs.Modulo.{Divides--, Divides-is, Divides-zero}
use Rattle.lrp_theory.proofs.Multiples.{Divides-multiple}
use Rattle.lrp_model.specs.declared.tuples.Cell.{Cell}
use Rattle.lrp_slots.specs.Lists.{list_at}
use Rattle.lrp_spans.specs.declared.spans.Span.{Span}
use Rattle.lrp_spans.specs.Groups.{SpanLists}
use Rattle.lrp_spans.specs.Spans.{AreMergedSpans, SpansHaveNumber}
use Rattle.lrp_spans.proofs.Lists.{in_none, in_one, one_in, pairs_append, pairs_left, pairs_none}
use Rattle.lrp_canon.specs.declared.edges.Periods.{Periods}
use Rattle.lrp_canon.specs.Counting.{HaveOwnTexts, HasRows, HasWith, InGroups, IsCount, IsCountOf, capped_count}
use Rattle.lrp_canon.specs.Rows.{AreJust, IsOpenBelow, IsStart, Moment}
use Rattle.lrp_canon.proofs.Stepping.{at_least}

-- a set has the numbers of two others
pub record IsBoth (a b c : ℤ → List ℕ → Type 0) : Type 0 where
  pub apart : (x y : ℤ) (texts : List ℕ) → a x texts → b y texts → ⊥
  pub to : (x : ℤ) (texts : List ℕ) → c x texts → a x texts ⊎ b x texts
  pub left : (x : ℤ) (texts : List ℕ) → a x texts → c x texts
  pub right : (x : ℤ) (texts : List ℕ) → b x texts → c x texts

turned : (a b c : ℤ → List ℕ → Type 0) → IsBoth a b c → IsBoth b a c
turned a b c is = record {
  apart = λ x y texts h g. is.apart y x texts g h;
  to = λ x texts h. elim (is.to x texts h) [ inl p ↦ inr p | inr p ↦ inl p ];
  left = is.right;
  right = is.left;
}

module _ (a b c : ℤ → List ℕ → Type 0) (is : IsBoth a b c) (period : ℕ) (low : 0 < period) where
  start_to : (p : Moment ℕ) → IsStart a period p → IsStart c period p
  start_to p s = record {
    inside = is.left p.number p.texts s.inside;
    first = λ h. elim (is.to (p.number -ℤ pos period) p.texts h) [ inl q ↦ s.first q | inr q ↦ is.apart p.number (p.number -ℤ pos period) p.texts s.inside q ];
  }

  open_to : (p : Moment ℕ) → IsOpenBelow a period p → IsOpenBelow c period p
  open_to p o = record { residue = o.residue; bound = o.bound; all = λ x le d. is.left x p.texts (o.all x le d) }

  -- some number of an open residue
  low_number : (p : Moment ℕ) (bound : ℤ) → (x : ℤ) × (x ≤ℤ bound) × Divides (pos period) (x -ℤ p.number)
  low_number p bound =
      let m : ℕ = nat_abs (bound -ℤ p.number) in
      let v : m ≤ period * m = at_least period m low in
      (p.number -ℤ pos (period * m), omega (arith, ints, v), Divides-is (pos period) (pos 0 -ℤ pos (period * m)) _ (omega (arith, ints)) (Divides-- (pos period) (pos 0) (pos (period * m)) (Divides-zero (pos period)) (Divides-multiple period m)))

  open_from : (p : Moment ℕ) → IsOpenBelow c period p → (x : ℤ) → a x p.texts → IsOpenBelow a period p
  open_from p o x h = record {
    residue = o.residue;
    bound = o.bound;
    all = λ y le d. elim (is.to y p.texts (o.all y le d)) [ inl q ↦ q | inr q ↦ absurd (is.apart x y p.texts h q) ];
  }

module _ (a b c : ℤ → List ℕ → Type 0) (is : IsBoth a b c) (period : ℕ) (low : 0 < period) (n m : ℕ) (ra : HasRows a period n) (rb : HasRows b period m) where
  starts : AreJust (IsStart c period) (ra.starts ++ rb.starts)
  starts = record {
    apart = pairs_append ◌≢◌ ra.starts rb.starts ra.begun.apart rb.begun.apart
        (λ p q l k e. is.apart p.number q.number p.texts (ra.begun.to p l).inside (subst (λ t. b q.number t) (ap (λ (v : Moment ℕ). v.texts) (sym e)) (rb.begun.to q k).inside));
    to = λ p l. elim (Contains-append_cases ra.starts rb.starts p l) [
      | inl k ↦ start_to a b c is period low p (ra.begun.to p k)
      | inr k ↦ start_to b a c (turned a b c is) period low p (rb.begun.to p k)
    ];
    from = λ p s. elim (is.to p.number p.texts s.inside) [
      | inl h ↦ Contains-append_left ra.starts rb.starts p (ra.begun.from p (record { inside = h; first = λ g. s.first (is.left (p.number -ℤ pos period) p.texts g) }))
      | inr h ↦ Contains-append_right ra.starts rb.starts p (rb.begun.from p (record { inside = h; first = λ g. s.first (is.right (p.number -ℤ pos period) p.texts g) }))
    ];
  }

  endless : AreJust (IsOpenBelow c period) (ra.endless ++ rb.endless)
  endless = record {
    apart = pairs_append ◌≢◌ ra.endless rb.endless ra.unbegun.apart rb.unbegun.apart (λ p q l k e. (
        let o = ra.unbegun.to p l in
        let u = rb.unbegun.to q k in
        let x = low_number a b c is period low p o.bound in
        let y = low_number a b c is period low q u.bound in
        is.apart x.0 y.0 p.texts (o.all x.0 x.1 x.2) (subst (λ t. b y.0 t) (ap (λ (v : Moment ℕ). v.texts) (sym e)) (u.all y.0 y.1 y.2))));
    to = λ p l. elim (Contains-append_cases ra.endless rb.endless p l) [
      | inl k ↦ open_to a b c is period low p (ra.unbegun.to p k)
      | inr k ↦ open_to b a c (turned a b c is) period low p (rb.unbegun.to p k)
    ];
    from = λ p o. (
        let x = low_number a b c is period low p o.bound in
        elim (is.to x.0 p.texts (o.all x.0 x.1 x.2)) [
          | inl h ↦ Contains-append_left ra.endless rb.endless p (ra.unbegun.from p (open_from a b c is period low p o x.0 h))
          | inr h ↦ Contains-append_right ra.endless rb.endless p (rb.unbegun.from p (open_from b a c (turned a b c is) period low p o x.0 h))
        ]);
  }

  pub both_rows : HasRows c period (n + m)
  both_rows = record {
    starts = ra.starts ++ rb.starts;
    begun = starts;
    endless = ra.endless ++ rb.endless;
    unbegun = endless;
    total = (
        let e : length (ra.starts ++ rb.starts) ≡ length ra.starts + length rb.starts = length-append ra.starts rb.starts in
        let f : length (ra.endless ++ rb.endless) ≡ length ra.endless + length rb.endless = length-append ra.endless rb.endless in
        let g : length ra.starts + length ra.endless ≡ n = ra.total in
        let h : length rb.starts + length rb.endless ≡ m = rb.total in
        omega (arith, e, f, g, h));
  }

-- sets with the same numbers have the same rows
pub same_rows : (a c : ℤ → List ℕ → Type 0) (period n : ℕ) → ((x : ℤ) (texts : List ℕ) → a x texts → c x texts) → ((x : ℤ) (texts : List ℕ) → c x texts → a x texts) → HasRows a period n → HasRows c period n
same_rows a c period n to from r = record {
  starts = r.starts;
  begun = record {
    apart = r.begun.apart;
    to = λ p l. (let s = r.begun.to p l in record { inside = to p.number p.texts s.inside; first = λ h. s.first (from (p.number -ℤ pos period) p.texts h) });
    from = λ p s. r.begun.from p (record { inside = from p.number p.texts s.inside; first = λ h. s.first (to (p.number -ℤ pos period) p.texts h) });
  };
  endless = r.endless;
  unbegun = record {
    apart = r.unbegun.apart;
    to = λ p l. (let o = r.unbegun.to p l in record { residue = o.residue; bound = o.bound; all = λ x le d. to x p.texts (o.all x le d) });
    from = λ p o. r.unbegun.from p (record { residue = o.residue; bound = o.bound; all = λ x le d. from x p.texts (o.all x le d) });
  };
  total = r.total;
}

-- no set, no row
none_rows : (c : ℤ → List ℕ → Type 0) (period : ℕ) → 0 < period → ((x : ℤ) (texts : List ℕ) → c x texts → ⊥) → HasRows c period 0
none_rows c period low none = record {
  starts = [];
  begun = record { apart = pairs_none ◌≢◌; to = λ p l. absurd (in_none p l); from = λ p s. absurd (none p.number p.texts s.inside) };
  endless = [];
  unbegun = record {
    apart = pairs_none ◌≢◌;
    to = λ p l. absurd (in_none p l);
    from = λ p o. (let m : ℕ = nat_abs (o.bound -ℤ p.number) in
        let v : m ≤ period * m = at_least period m low in
        absurd (none (p.number -ℤ pos (period * m)) p.texts (o.all (p.number -ℤ pos (period * m)) (omega (arith, ints, v)) (Divides-is (pos period) (pos 0 -ℤ pos (period * m)) _ (omega (arith, ints)) (Divides-- (pos period) (pos 0) (pos (period * m)) (Divides-zero (pos period)) (Divides-multiple period m))))));
  };
  total = refl;
}

-- a relation of each two of a list holds of those of its front and its last
pub pairs_across : {X : Type 0} (R : X → X → Type 0) (xs : List X) (y : X) → AllPairs R (xs ++ y ∷ []) → (x : X) → Contains xs x → R x y
pairs_across R xs y all x l = pairs_last R xs y all l.0 l.1 x l.2
  where
    last_get : {X : Type 0} (xs : List X) (y d : X) → get_or (xs ++ y ∷ []) (length xs) d ≡ y
    last_get [] y d = refl
    last_get (x ∷ xs) y d = last_get xs y d

    pairs_last : {X : Type 0} (R : X → X → Type 0) (xs : List X) (y : X) → AllPairs R (xs ++ y ∷ []) → (i : ℕ) → i < length xs → (x : X) → get_or xs i x ≡ x → R x y
    pairs_last R xs y all i il x e =
        let n : length (xs ++ y ∷ []) ≡ length xs + 1 = length-append xs (y ∷ []) in
        let r : R (get_or (xs ++ y ∷ []) i x) (get_or (xs ++ y ∷ []) (length xs) x) = all i (length xs) x il (omega (arith, n)) in
        subst (λ v. R v y) (get_or_append_left xs (y ∷ []) x i il ∙ e) (subst (R (get_or (xs ++ y ∷ []) i x)) (last_get xs y x) r)

-- ---- group after group
module _ (periods : Periods) (lists : SpanLists) (low : 0 < periods.least) where
  pub none_counted : IsCountOf periods lists [] 0
  none_counted = record {
    count = 0;
    capped = omega arith;
    rows = λ name named. none_rows (InGroups periods.whole lists name []) periods.least low (λ x texts h. in_none h.group h.listed);
  }

  pub more_counted : (done : List Cell) (group : Cell) (spans : List Span) (old more : ℕ) → AreMergedSpans (list_at lists group) spans → IsCountOf periods lists done old → IsCount periods spans more
      → IsCountOf periods lists (done ++ group ∷ []) (min (old + more) (2 ^ 64 - 1))
  more_counted done group spans old more merged o m = record {
    count = o.count + m.count;
    capped = (let a : old ≡ capped_count o.count = o.capped in let b : more ≡ capped_count m.count = m.capped in omega (arith, a, b));
    rows = λ name named. both_rows (InGroups periods.whole lists name done) (HasWith (SpansHaveNumber periods.whole spans) (name group)) (InGroups periods.whole lists name (done ++ group ∷ [])) (both name named) periods.least low o.count m.count
        (o.rows name (pairs_left (λ g h. (p q : Span) → Contains (list_at lists g) p → Contains (list_at lists h) q → name g ≢ name h) done (group ∷ []) named)) (m.rows (name group));
  }
    where
      number_to : (x : ℤ) → SpansHaveNumber periods.whole spans x → SpansHaveNumber periods.whole (list_at lists group) x
      number_to x h = record { residue = h.residue; turn = h.turn; is = h.is; inside = merged.to h.residue h.turn h.inside }

      number_from : (x : ℤ) → SpansHaveNumber periods.whole (list_at lists group) x → SpansHaveNumber periods.whole spans x
      number_from x h = record { residue = h.residue; turn = h.turn; is = h.is; inside = merged.from h.residue h.turn h.inside }

      differ : (name : Cell → List ℕ) → HaveOwnTexts lists name (done ++ group ∷ []) → (g : Cell) → Contains done g → (p q : Span) → Contains (list_at lists g) p → Contains (list_at lists group) q → name g ≡ name group → ⊥
      differ name named g l p q lp lq e = pairs_across (λ a b. (u v : Span) → Contains (list_at lists a) u → Contains (list_at lists b) v → name a ≢ name b) done group named g l p q lp lq e

      both : (name : Cell → List ℕ) → HaveOwnTexts lists name (done ++ group ∷ []) → IsBoth (InGroups periods.whole lists name done) (HasWith (SpansHaveNumber periods.whole spans) (name group)) (InGroups periods.whole lists name (done ++ group ∷ []))
      both name named = record {
        apart = λ x y texts a b. (let n = number_to y b.inside in differ name named a.group a.listed a.inside.inside.span n.inside.span a.inside.inside.listed n.inside.listed (sym a.named ∙ b.named));
        to = λ x texts h. elim (Contains-append_cases done (group ∷ []) h.group h.listed) [
          | inl l ↦ inl (record { group = h.group; listed = l; named = h.named; inside = h.inside })
          | inr l ↦ (let e : group ≡ h.group = in_one group h.group l in inr (record { named = h.named ∙ ap name (sym e); inside = number_from x (subst (λ c. SpansHaveNumber periods.whole (list_at lists c) x) (sym e) h.inside) }))
        ];
        left = λ x texts h. record { group = h.group; listed = Contains-append_left done (group ∷ []) h.group h.listed; named = h.named; inside = h.inside };
        right = λ x texts h. record { group = group; listed = Contains-append_right done (group ∷ []) group (one_in group); named = h.named; inside = number_to x h.inside };
      }
