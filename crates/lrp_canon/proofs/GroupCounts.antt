-- The rows of spans, told by their beginnings and by the residues that go on downwards, counted.
use Rattle.std.proofs.Common.{◌≡◌, ◌≢◌, ℕ, zero, suc, ◌+◌, ◌-◌, ◌*◌, ◌<◌, ◌≤◌, ◌^◌, inl, inr, List, [], ◌∷◌, Some, length, take, map, get_or, arith, refl, sym, subst, ap, ◌∙◌}
use Rattle.std.specs.Prelude.{ℤ, pos, nat_abs, ◌+ℤ◌, ◌-ℤ◌, ◌≤ℤ◌, ◌<ℤ◌, neg_ℤ, AllPairs, Contains, slice_get, min, sum_by}
use Rattle.std.proofs.Math.IntN.{◌*ℤ◌}
use Rattle.std.proofs.lemmas.Int.{ints}
use Rattle.std.proofs.lemmas.List.{length-map, get_or-take, length-take-le}
use Rattle.lrp_theory.specs.Divides.{Divides}
use Rattle.lrp_theory.proofs.Modulo.{Divides--, Divides-is, Divides-zero, times_neg}
use Rattle.lrp_theory.proofs.Multiples.{Divides-multiple, Divides-trans}
use Rattle.lrp_matrix.specs.Ranges.{Above}
use Rattle.lrp_spans.specs.declared.spans.Span.{Span}
use Rattle.lrp_spans.specs.Repeating.{RepeatsAtEnds}
use Rattle.lrp_spans.specs.Spans.{HaveResiduesBelow, AreOpenBelow, SpansHaveNumber, IsSpan}
use Rattle.lrp_spans.proofs.EndLaws.{before_last, no_first}
use Rattle.lrp_spans.proofs.Repeats.{divisor_le}
use Rattle.lrp_spans.proofs.Lists.{below_or, pairs_map}
use Rattle.lrp_canon.specs.declared.edges.Periods.{Periods}
use Rattle.lrp_canon.specs.Counting.{HasRows, HasWith, IsCount, capped_count, turns_of}
use Rattle.lrp_canon.specs.Edges.{AreEdgeSpans, AreRepeating, Begins, GoesDown}
use Rattle.lrp_canon.specs.Rows.{AreJust, IsOpenBelow, IsStart, Moment}
use Rattle.lrp_canon.proofs.Numbers.{in_places, of_places, places, places_apart, places_length}
use Rattle.lrp_canon.proofs.StartLaws.{one_residue, one_turn}
use Rattle.lrp_canon.proofs.Stepping.{at_least, between, deep_all}
use Rattle.lrp_theory.proofs.Members.{from_map, in_map}

-- ---- residues that go on downwards are those of spans without a first turn
module _ (k high step bound : ℕ) (spans : List Span) (low : 0 < k) (positive : 0 < step) (divides : Divides (pos step) (pos k)) (each : (s : Span) → Contains spans s → IsSpan high s) (below : HaveResiduesBelow k spans)
    (ends : RepeatsAtEnds (SpansHaveNumber k spans) bound step) (residues : List ℕ) (are : AreOpenBelow spans residues) where
  -- the number of a residue so many turns down
  deep : ℕ → ℕ → ℤ
  deep r m = pos r +ℤ (pos k *ℤ neg_ℤ (pos m))

  deep_is : (r m : ℕ) → deep r m ≡ pos r -ℤ pos (k * m)
  unfolding deep
  deep_is r m =
      let f : pos k *ℤ neg_ℤ (pos m) ≡ neg_ℤ (pos k *ℤ pos m) = times_neg (pos k) (pos m) in
      let g : pos k *ℤ pos m ≡ pos (k * m) = refl in
      omega (arith, ints)

  deep_divides : (r m : ℕ) → Divides (pos step) (deep r m -ℤ pos r)
  deep_divides r m =
      let e : deep r m ≡ pos r -ℤ pos (k * m) = deep_is r m in
      let d : Divides (pos step) (pos (k * m)) = Divides-trans (pos step) (pos k) (pos (k * m)) divides (Divides-multiple k m) in
      Divides-is (pos step) (pos 0 -ℤ pos (k * m)) _ (omega (arith, ints)) (Divides-- (pos step) (pos 0) (pos (k * m)) (Divides-zero (pos step)) d)

  pub open_down : (r : ℕ) → Contains residues r → r < step → GoesDown (SpansHaveNumber k spans) step r
  unfolding deep
  open_down r l rl =
      let t = are.to r l in
      let m : ℕ = high + bound + r in
      let p : m ≤ k * m = at_least k m low in
      let e : deep r m ≡ pos r -ℤ pos (k * m) = deep_is r m in
      let here : SpansHaveNumber k spans (deep r m) = record {
        residue = r;
        turn = neg_ℤ (pos m);
        is = refl;
        inside = record { span = t.0; listed = t.1; is = record { residue = t.2; low = subst (Above (neg_ℤ (pos m))) (sym t.3) tt; high = before_last high (neg_ℤ (pos m)) t.0.last (each t.0 t.1).last (omega (arith, ints)) } };
      } in
      record {
        below = rl;
        bound = deep r m;
        all = λ x le d. deep_all (SpansHaveNumber k spans) step bound ends (deep r m) x positive (omega (arith, ints, p)) le (between step (pos r) x (deep r m) d (deep_divides r m)) here;
      }

  pub down_open : (r : ℕ) → r < k → GoesDown (SpansHaveNumber k spans) step r → Contains residues r
  unfolding deep
  down_open r rl g =
      let m : ℕ = high + 1 + nat_abs g.bound + r in
      let p : m ≤ k * m = at_least k m low in
      let e : deep r m ≡ pos r -ℤ pos (k * m) = deep_is r m in
      let h : SpansHaveNumber k spans (deep r m) = g.all (deep r m) (omega (arith, ints, p)) (deep_divides r m) in
      let s : Span = h.inside.span in
      let hl : h.residue < k = subst (λ q. q < k) h.inside.is.residue (below s h.inside.listed) in
      let a : r ≡ h.residue = one_residue k r h.residue (neg_ℤ (pos m)) h.turn rl hl h.is in
      let b : neg_ℤ (pos m) ≡ h.turn = one_turn k r h.residue (neg_ℤ (pos m)) h.turn rl hl h.is in
      subst (Contains residues) (h.inside.is.residue ∙ sym a) (are.from s h.inside.listed (no_first high h.turn s.first (each s h.inside.listed).first (omega (arith, ints, b)) h.inside.is.low))

  -- ---- the rows of the spans
  module _ (starts : List Span) (edges : AreEdgeSpans k (Begins (SpansHaveNumber k spans) step) starts) (place : ℕ) (front : (r : ℕ) → Contains (take place residues) r → r < step) (stop : (r : ℕ) → slice_get residues place ≡ Some r → step ≤ r) (le : step ≤ k) (in_list : place ≤ length residues) where
    -- the residues below the step stand in front
    in_front : (r : ℕ) → Contains residues r → r < step → Contains (take place residues) r
    in_front r l rl = elim (below_or l.0 place) [
      | inl a ↦ (l.0, (let n : length (take place residues) ≡ place = length_take place residues in_list in omega (arith, a, n)), get_or-take place residues l.0 r a ∙ l.2)
      | inr b ↦ absurd (late b)
    ]
      where
        length_take : {X : Type 0} (n : ℕ) (xs : List X) → n ≤ length xs → length (take n xs) ≡ n
        length_take zero xs h = refl
        length_take (suc n) [] h = absurd (omega arith)
        length_take (suc n) (x ∷ xs) h = let e : length (take n xs) ≡ n = length_take n xs (omega arith) in omega (arith, e)

        some_get : {X : Type 0} (xs : List X) (i : ℕ) (d : X) → i < length xs → slice_get xs i ≡ Some (get_or xs i d)
        some_get [] i d h = absurd (omega arith)
        some_get (x ∷ xs) zero d h = refl
        some_get (x ∷ xs) (suc i) d h = some_get xs i d (omega arith)

        late : place ≤ l.0 → ⊥
        late b =
            let kl : l.0 < length residues = l.1 in
            let pl : place < length residues = omega (arith, b, kl) in
            let s : step ≤ get_or residues place r = stop (get_or residues place r) (some_get residues place r pl) in
            elim (below_or place l.0) [
              | inl lt ↦ (let q : get_or residues place r < get_or residues l.0 r = are.ascending place l.0 r lt kl in let v : get_or residues l.0 r ≡ r = l.2 in omega (arith, q, v, s, rl))
              | inr ge ↦ (let q : place ≡ l.0 = omega (arith, b, ge) in let v : get_or residues place r ≡ r = ap (λ i. get_or residues i r) q ∙ l.2 in omega (arith, v, s, rl))
            ]

    module _ (texts : List ℕ) where
      set : ℤ → List ℕ → Type 0
      set = HasWith (SpansHaveNumber k spans) texts

      abbrev down_place : ℕ → Moment ℕ
      down_place r = record { number = pos r; texts = texts }

      begun : AreJust (IsStart set step) (places k texts starts)
      unfolding set
      begun = record {
        apart = places_apart k (2 ^ 62 + 2) texts starts low edges.each edges.ends edges.below edges.apart;
        to = λ p h. (
            let t = in_places k (2 ^ 62 + 2) texts starts edges.each edges.ends p h in
            let b = edges.to p.number t.1 in
            record { inside = record { named = t.0; inside = b.inside }; first = λ q. b.first q.inside });
        from = λ p s. subst (λ ts. Contains (places k texts starts) (record { number = p.number; texts = ts })) (sym s.inside.named)
            (of_places k (2 ^ 62 + 2) texts starts edges.each edges.ends p.number (edges.from p.number (record { inside = s.inside.inside; first = λ q. s.first (record { named = s.inside.named; inside = q }) })));
      }

      unbegun : AreJust (IsOpenBelow set step) (map down_place (take place residues))
      unfolding set
      unbegun = record {
        apart = pairs_map ◌≢◌ ◌<◌ down_place (take place residues) (pairs_take ◌<◌ residues place are.ascending) (λ x y _ _ lt e. (let q : pos x ≡ pos y = ap (λ (p : Moment ℕ). p.number) e in absurd (omega (arith, ints))));
        to = λ p h. (
            let t = from_map down_place (take place residues) p h in
            subst (IsOpenBelow (HasWith (SpansHaveNumber k spans) texts) step) t.2 (to t.0 t.1));
        from = λ p o. (
            let q : pos (nat_abs p.number) ≡ p.number = (let a : pos 0 ≤ℤ p.number = o.residue.low in omega (arith, ints)) in
            let rl : nat_abs p.number < step = (let b : p.number <ℤ pos step = o.residue.high in omega (arith, ints, q)) in
            let first : ℤ = o.bound -ℤ p.number in
            let g : GoesDown (SpansHaveNumber k spans) step (nat_abs p.number) = record {
              below = rl;
              bound = o.bound;
              all = λ x le d. (o.all x le (subst (λ z. Divides (pos step) (x -ℤ z)) q d)).inside;
            } in
            let named : p.texts ≡ texts = (let m : ℕ = nat_abs first in let v : m ≤ step * m = at_least step m positive in (o.all (p.number -ℤ pos (step * m)) (omega (arith, ints, v)) (Divides-is (pos step) (pos 0 -ℤ pos (step * m)) _ (omega (arith, ints)) (Divides-- (pos step) (pos 0) (pos (step * m)) (Divides-zero (pos step)) (Divides-multiple step m)))).named) in
            let l : Contains (take place residues) (nat_abs p.number) = in_front (nat_abs p.number) (down_open (nat_abs p.number) (omega (arith, rl, le)) g) rl in
            subst (Contains (map down_place (take place residues))) (same p q named) (in_map down_place (take place residues) (nat_abs p.number) l));
      }
        where
          pairs_take : (R : ℕ → ℕ → Type 0) (xs : List ℕ) (n : ℕ) → AllPairs R xs → AllPairs R (take n xs)
          pairs_take R xs n all i j d il jl =
              let jn : j < n = (let h : j < length (take n xs) = jl in omega (arith, h, take_le n xs)) in
              let jx : j < length xs = (let h : j < length (take n xs) = jl in omega (arith, h, take_short n xs)) in
              rw (get_or-take n xs i d (omega (arith, il, jn)), get_or-take n xs j d jn) (all i j d il jx)
            where
              take_le : (n : ℕ) (xs : List ℕ) → length (take n xs) ≤ n
              take_le zero xs = omega arith
              take_le (suc n) [] = omega arith
              take_le (suc n) (x ∷ xs) = let h : length (take n xs) ≤ n = take_le n xs in omega (arith, h)

              take_short : (n : ℕ) (xs : List ℕ) → length (take n xs) ≤ length xs
              take_short zero xs = omega arith
              take_short (suc n) [] = omega arith
              take_short (suc n) (x ∷ xs) = let h : length (take n xs) ≤ length xs = take_short n xs in omega (arith, h)

          to : (r : ℕ) → Contains (take place residues) r → IsOpenBelow (HasWith (SpansHaveNumber k spans) texts) step (down_place r)
          to r l =
              let rl : r < step = front r l in
              let g = open_down r (part l) rl in
              record { residue = record { low = omega (arith, ints); high = omega (arith, ints) }; bound = g.bound; all = λ x le d. record { named = refl; inside = g.all x le d } }
            where
              part : Contains (take place residues) r → Contains residues r
              part l =
                  let h : l.0 < length (take place residues) = l.1 in
                  let n : l.0 < place = omega (arith, h, length-take-le place residues) in
                  (l.0, omega (arith, n, in_list), sym (get_or-take place residues l.0 r n) ∙ l.2)

          same : (p : Moment ℕ) → pos (nat_abs p.number) ≡ p.number → p.texts ≡ texts → down_place (nat_abs p.number) ≡ p
          same p q t = by p.number p.texts q t
            where
              by : (x : ℤ) (ts : List ℕ) → pos (nat_abs x) ≡ x → ts ≡ texts → ◌≡◌ {A = Moment ℕ} (record { number = pos (nat_abs x); texts = texts }) (record { number = x; texts = ts })
              by x ts q t = rw (q, t) refl

      pub has_rows : (n : ℕ) → n ≡ length (places k texts starts) + place → HasRows (HasWith (SpansHaveNumber k spans) texts) step n
      unfolding set
      has_rows n e = record {
        starts = places k texts starts;
        begun = begun;
        endless = map down_place (take place residues);
        unbegun = unbegun;
        total = (let a : length (map down_place (take place residues)) ≡ length (take place residues) = length-map (take place residues) down_place in
            let b : length (take place residues) ≡ place = length_take place residues in_list in
            omega (arith, a, b, e));
      }
        where
          length_take : {X : Type 0} (n : ℕ) (xs : List X) → n ≤ length xs → length (take n xs) ≡ n
          length_take zero xs h = refl
          length_take (suc n) [] h = absurd (omega arith)
          length_take (suc n) (x ∷ xs) h = let e : length (take n xs) ≡ n = length_take n xs (omega arith) in omega (arith, e)

-- the count of the rows of spans, from what was counted of both
pub is_count : (periods : Periods) (spans starts : List Span) (residues : List ℕ) (numbers place made : ℕ) → AreRepeating periods spans → AreEdgeSpans periods.whole (Begins (SpansHaveNumber periods.whole spans) periods.least) starts → AreOpenBelow spans residues
    → numbers ≡ capped_count (sum_by turns_of starts) → place ≤ length residues → ((r : ℕ) → Contains (take place residues) r → r < periods.least) → ((r : ℕ) → slice_get residues place ≡ Some r → periods.least ≤ r) → made ≡ min (numbers + place) (2 ^ 64 - 1) → IsCount periods spans made
is_count periods spans starts residues numbers place made is edges are n inside front stop e = record {
  count = sum_by turns_of starts + place;
  capped = (let a : numbers ≡ min (sum_by turns_of starts) (2 ^ 64 - 1) = n in omega (arith, a, e));
  rows = λ texts. has_rows periods.whole (2 ^ 62) periods.least (2 ^ 62 - periods.whole + 1) spans is.positive is.low is.divides is.ordered.each is.below is.repeats residues are starts edges place front stop
      (divisor_le periods.least periods.whole is.positive is.divides) inside texts (sum_by turns_of starts + place) (let l : length (places periods.whole texts starts) ≡ sum_by turns_of starts = places_length periods.whole texts starts in omega (arith, l));
}
