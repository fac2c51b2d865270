-- Rows from each beginning to the first stop after it hold just the numbers of the set, and lie apart.
use Rattle.std.proofs.Common.{◌≡◌, ℕ, zero, suc, ◌+◌, ◌*◌, ◌<◌, ◌≤◌, ◌^◌, ◌⊎◌, inl, inr, List, Option, Some, None, length, get_or, arith, refl, sym, subst, ◌∙◌}
use Rattle.std.specs.Prelude.{ℤ, pos, nat_abs, ◌+ℤ◌, ◌-ℤ◌, ◌≤ℤ◌, ◌<ℤ◌, neg_ℤ, AllPairs, Contains}
use Rattle.std.proofs.lemmas.Int.{ints, by_lt_z}
use Rattle.std.proofs.lemmas.List.Elements.{Contains-get_or}
use Rattle.lrp_theory.specs.Bounds.{Within}
use Rattle.lrp_theory.specs.Divides.{Divides}
use Rattle.lrp_theory.specs.Entries.{AtMost}
use Rattle.lrp_theory.proofs.Modulo.{Divides-+, Divides--, Divides-is, Divides-self, Divides-zero}
use Rattle.lrp_theory.proofs.Multiples.{Divides-multiple}
use Rattle.lrp_matrix.specs.Ranges.{Above}
use Rattle.lrp_spans.specs.Repeating.{RepeatsAtEnds}
use Rattle.lrp_canon.specs.declared.edges.Edge.{Edge}
use Rattle.lrp_canon.specs.declared.rows.MaximalRow.{MaximalRow}
use Rattle.lrp_canon.specs.Edges.{AreBeginnings, AreStops, Begins, IsBeginning, IsEarlierEdge, IsEdgeAt, IsSooner, StopsAt}
use Rattle.lrp_canon.specs.Making.{AreRowsOf, EndsAt, IsEdgeAhead, IsInside, IsRow, IsRowEnd, IsRowFrom, LieApart}
use Rattle.lrp_canon.specs.Pairing.{AreRowsFrom}
use Rattle.lrp_canon.proofs.Stepping.{at_least, between, deep_all, one_rest, rest_of, same_apart, times_of}
use Rattle.lrp_theory.proofs.Below.{within_less}
use Rattle.lrp_matrix.proofs.NearestLemmas.{above_more}

-- an edge of this residue and number is the edge of the number
edge_is : (period : ℕ) (x : ℤ) (r : ℕ) (e : Edge) → r < period → Divides (pos period) (x -ℤ pos r) → IsEdgeAt period x e → e ≡ record { residue = r; number = Some x }
edge_is period x r e l d is =
    let q : e.residue ≡ r = one_rest period x e.residue r is.below l is.residue d in
    by e.residue e.number q is.number
  where
    by : (a : ℕ) (n : Option ℤ) → a ≡ r → n ≡ Some x → ◌≡◌ {A = Edge} (record { residue = a; number = n }) (record { residue = r; number = Some x })
    by a n p q = rw (p, q) refl

module _ (set : ℤ → Type 0) (either : (x : ℤ) → set x ⊎ (set x → ⊥)) (period bound : ℕ) (low : 0 < period) (ends : RepeatsAtEnds set bound period)
    (starts stops : List Edge) (begin : AreBeginnings set period starts) (stop : AreStops set period stops) where
  -- from a number of the set on, up to the first stop, all are in the set
  climb : (n : ℕ) (x : ℤ) → set x → ((y : ℤ) → x <ℤ y → y ≤ℤ (x +ℤ pos (period * n)) → Divides (pos period) (y -ℤ x) → StopsAt set period y → ⊥) → set (x +ℤ pos (period * n))
  climb zero x h none = let z : period * 0 ≡ 0 = omega arith in let e : x ≡ x +ℤ pos (period * 0) = omega (arith, ints, z) in subst set e h
  climb (suc n) x h none =
      let z : period * suc n ≡ period + period * n = omega arith in
      let y : ℤ = x +ℤ pos (period * n) in
      let g : set y = climb n x h (λ w lw hw. none w lw (omega (arith, ints, z))) in
      let e : y ≡ (y +ℤ pos period) -ℤ pos period = omega (arith, ints) in
      let f : y +ℤ pos period ≡ x +ℤ pos (period * suc n) = omega (arith, ints, z) in
      elim (either (y +ℤ pos period)) [
        | inl a ↦ subst set f a
        | inr b ↦ absurd (none (y +ℤ pos period) (omega (arith, ints)) (omega (arith, ints, z)) (Divides-is (pos period) (pos (period * suc n)) _ (omega (arith, ints, f)) (Divides-multiple period (suc n))) (record { inside = subst set e g; over = b }))
      ]

  -- stops lie between the bounds
  stop_low : (x : ℤ) → StopsAt set period x → neg_ℤ (pos bound) <ℤ x
  stop_low x s = by_lt_z (neg_ℤ (pos bound)) x (λ lt. lt) (λ le. absurd (s.over (ends.up x le s.inside)))

  stop_high : (x : ℤ) → StopsAt set period x → x <ℤ pos (bound + period)
  stop_high x s =
      let e : (x -ℤ pos period) +ℤ pos period ≡ x = omega (arith, ints) in
      by_lt_z x (pos (bound + period)) (λ lt. lt) (λ le. absurd (s.over (subst set e (ends.on (x -ℤ pos period) (omega (arith, ints)) s.inside))))

  -- a number of the set is after a beginning of its residue, and no stop stands between
  record IsUnder (x : ℤ) (r : ℕ) : Type 0 where
    pub edge : Edge
    pub listed : Contains starts edge
    pub residue : edge.residue ≡ r
    pub above : Above x edge.number
    pub none : (y : ℤ) → Above y edge.number → y ≤ℤ x → Divides (pos period) (y -ℤ pos r) → StopsAt set period y → ⊥

  descend : (n : ℕ) (x : ℤ) (r : ℕ) → r < period → Divides (pos period) (x -ℤ pos r) → x ≤ℤ (pos n -ℤ pos bound) → set x → IsUnder x r
  descend zero x r rl d l h = record {
    edge = record { residue = r; number = None };
    listed = begin.down r (record { below = rl; bound = x; all = λ y le e. deep y le e });
    residue = refl;
    above = tt;
    none = λ y _ le e s. s.over (deep y le e);
  }
    where
      deep : (y : ℤ) → y ≤ℤ x → Divides (pos period) (y -ℤ pos r) → set y
      deep y le e = deep_all set period bound ends x y low (omega (arith, ints)) le (between period (pos r) y x e d) h
  descend (suc n) x r rl d l h = elim (either (x -ℤ pos period)) [
    | inl a ↦ extend (descend n (x -ℤ pos period) r rl (Divides-is (pos period) ((x -ℤ pos r) -ℤ pos period) _ (omega (arith, ints)) (Divides-- (pos period) _ _ d (Divides-self (pos period)))) (omega (arith, ints)) a)
    | inr b ↦ here (record { inside = h; first = b })
  ]
    where
      extend : IsUnder (x -ℤ pos period) r → IsUnder x r
      extend u = record {
        edge = u.edge;
        listed = u.listed;
        residue = u.residue;
        above = above_more (x -ℤ pos period) x u.edge.number (omega (arith, ints)) u.above;
        none = λ y a le e s. by_lt_z y x
            (λ lt. let m : (y +ℤ pos period) ≤ℤ x = same_apart period (pos r) y x low e d lt in u.none y a (omega (arith, ints)) e s)
            (λ ge. let q : y ≡ x = omega (arith, ints) in s.over (subst set (sym q) h));
      }

      here : Begins set period x → IsUnder x r
      here b = (
          let t = begin.from x b in
          record {
            edge = record { residue = r; number = Some x };
            listed = subst (Contains starts) (edge_is period x r t.0 rl d t.1) t.2;
            residue = refl;
            above = omega (arith, ints);
            none = λ y a le e s. (let q : y ≡ x = omega (arith, ints) in s.over (subst set (sym q) h));
          })

  -- ---- one row
  module _ (e : Edge) (listed : Contains starts e) (row : MaximalRow) (from : IsRowFrom period stops e row) where
    -- a stop of this residue after the start is after the row
    stop_ahead : (y : ℤ) → Above y e.number → Divides (pos period) (y -ℤ pos e.residue) → StopsAt set period y → IsEdgeAhead stops e y
    stop_ahead y a d s = (let t = stop.from y s in record { listed = subst (Contains stops) (edge_is period y e.residue t.0 (begin.below e listed) d t.1) t.2; later = a })

    after : (x y : ℤ) → Within x row.most → IsEdgeAhead stops e y → x <ℤ y
    after x y w a = by row.most from.most w
      where
        by : (b : Option ℤ) → EndsAt period stops e b → Within x b → x <ℤ y
        by None t v = absurd (t y a)
        by (Some b) t v = let l : (b +ℤ pos period) ≤ℤ y = t.1 y a in omega (arith, ints)

    -- what is after a number of the set, in the row, is in the set
    from_number : (a x : ℤ) → set a → a ≤ℤ x → Above a e.number → Divides (pos period) (a -ℤ pos e.residue) → IsInside period row x → set x
    from_number a x h le above d i =
        let dx : Divides (pos period) (x -ℤ pos e.residue) = subst (λ q. Divides (pos period) (x -ℤ pos q)) from.residue i.residue in
        let t : (m : ℕ) × (x -ℤ a ≡ pos (period * m)) = times_of period (x -ℤ a) low (omega (arith, ints)) (between period (pos e.residue) a x d dx) in
        let f : x -ℤ a ≡ pos (period * t.0) = t.1 in
        let g : a +ℤ pos (period * t.0) ≡ x = omega (arith, ints, f) in
        subst set g (climb t.0 a h (λ y lt ly dy s.
        let dr : Divides (pos period) (y -ℤ pos e.residue) = Divides-is (pos period) ((y -ℤ a) +ℤ (a -ℤ pos e.residue)) _ (omega (arith, ints)) (Divides-+ (pos period) _ _ dy d) in
        let b : x <ℤ y = after x y i.high (stop_ahead y (above_more a y e.number (omega (arith, ints)) above) dr s) in
        absurd (omega (arith, ints))))

    pub row_to : (x : ℤ) → IsInside period row x → set x
    row_to x i = by e.number refl (begin.to e listed)
      where
        by : (n : Option ℤ) → e.number ≡ n → IsBeginning set period e.residue n → set x
        by None q g =
            let dx : Divides (pos period) (x -ℤ pos e.residue) = subst (λ r. Divides (pos period) (x -ℤ pos r)) from.residue i.residue in
            let m : ℕ = nat_abs x + nat_abs g.bound in
            let p : m ≤ period * m = at_least period m low in
            let a : ℤ = x -ℤ pos (period * m) in
            let da : Divides (pos period) (a -ℤ pos e.residue) = Divides-is (pos period) ((x -ℤ pos e.residue) -ℤ pos (period * m)) _ (omega (arith, ints)) (Divides-- (pos period) _ _ dx (Divides-multiple period m)) in
            from_number a x (g.all a (omega (arith, ints, p)) da) (omega (arith, ints)) (subst (Above a) (sym q) tt) da i
        by (Some a) q g =
            let le : a ≤ℤ x = subst (Above x) (from.least ∙ q) i.low in
            from_number a x g.0.inside le (subst (Above a) (sym q) (omega (arith, ints))) g.1 i

    -- a number of the set that is under no stop after the start is in the row
    pub row_from : (x : ℤ) → e.residue < period → Divides (pos period) (x -ℤ pos e.residue) → Above x e.number → ((y : ℤ) → Above y e.number → y ≤ℤ x → Divides (pos period) (y -ℤ pos e.residue) → StopsAt set period y → ⊥) → IsInside period row x
    row_from x rl d a none = record {
      residue = subst (λ q. Divides (pos period) (x -ℤ pos q)) (sym from.residue) d;
      low = subst (Above x) (sym from.least) a;
      high = by row.most from.most;
    }
      where
        by : (b : Option ℤ) → EndsAt period stops e b → Within x b
        by None t = tt
        by (Some b) t = by_lt_z b x
            (λ lt. (
            let s = stop.to (record { residue = e.residue; number = Some (b +ℤ pos period) }) t.0.listed in
            let n : Some (b +ℤ pos period) ≡ Some s.0 = s.2.number in
            let q : s.0 ≡ b +ℤ pos period = cc in
            let st : StopsAt set period (b +ℤ pos period) = subst (StopsAt set period) q s.1 in
            let ds : Divides (pos period) ((b +ℤ pos period) -ℤ pos e.residue) = subst (λ v. Divides (pos period) (v -ℤ pos e.residue)) q s.2.residue in
            let db : Divides (pos period) (b -ℤ pos e.residue) = Divides-is (pos period) (((b +ℤ pos period) -ℤ pos e.residue) -ℤ pos period) _ (omega (arith, ints)) (Divides-- (pos period) _ _ ds (Divides-self (pos period))) in
            let l : (b +ℤ pos period) ≤ℤ x = same_apart period (pos e.residue) b x low db d lt in
            absurd (none (b +ℤ pos period) t.0.later l ds st)))
            (λ le. le)

    -- the ends of the row
    pub row_is : ((y : ℤ) → Contains stops (record { residue = e.residue; number = Some y }) → AtMost (2 ^ 62) (Some (y -ℤ pos period))) → IsRow period row
    row_is small = record {
      below = subst (λ q. q < period) (sym from.residue) (begin.below e listed);
      least = subst (λ q. IsRowEnd period q row.least) (sym from.residue) (subst (IsRowEnd period e.residue) (sym from.least) (least e.number (begin.to e listed) (begin.small e listed)));
      most = subst (λ q. IsRowEnd period q row.most) (sym from.residue) (most row.most from.most);
      number = (some e.number refl (begin.to e listed)).0;
      is = (some e.number refl (begin.to e listed)).1;
    }
      where
        least : (n : Option ℤ) → IsBeginning set period e.residue n → AtMost (2 ^ 62) n → IsRowEnd period e.residue n
        least None g s = tt
        least (Some a) g s = (g.1, s)

        end_divides : (b : ℤ) → IsEdgeAhead stops e (b +ℤ pos period) → StopsAt set period (b +ℤ pos period) × Divides (pos period) (b -ℤ pos e.residue)
        end_divides b a =
            let s = stop.to (record { residue = e.residue; number = Some (b +ℤ pos period) }) a.listed in
            let n : Some (b +ℤ pos period) ≡ Some s.0 = s.2.number in
            let q : s.0 ≡ b +ℤ pos period = cc in
            let ds : Divides (pos period) ((b +ℤ pos period) -ℤ pos e.residue) = subst (λ v. Divides (pos period) (v -ℤ pos e.residue)) q s.2.residue in
            (subst (StopsAt set period) q s.1, Divides-is (pos period) (((b +ℤ pos period) -ℤ pos e.residue) -ℤ pos period) _ (omega (arith, ints)) (Divides-- (pos period) _ _ ds (Divides-self (pos period))))

        most : (b : Option ℤ) → EndsAt period stops e b → IsRowEnd period e.residue b
        most None t = tt
        most (Some b) t = let q : (b +ℤ pos period) -ℤ pos period ≡ b = omega (arith, ints) in ((end_divides b t.0).1, subst (λ v. AtMost (2 ^ 62) (Some v)) q (small (b +ℤ pos period) t.0.listed))

        some : (n : Option ℤ) → e.number ≡ n → IsBeginning set period e.residue n → (x : ℤ) × IsInside period row x
        some (Some a) q g = (
          a,
          row_from a (begin.below e listed) g.1 (subst (Above a) (sym q) (omega (arith, ints))) (λ y ay le d s.
              let l : a ≤ℤ y = subst (Above y) q ay in
              let f : a ≡ y = omega (arith, ints) in
              s.over (subst set f g.0.inside)),
        )
        some None q g = lowest row.most from.most
          where
            -- far enough down
            down_by : (b : ℤ) → (x : ℤ) × (x ≤ℤ b) × Divides (pos period) (x -ℤ pos e.residue)
            down_by b =
                let m : ℕ = e.residue + nat_abs b in
                let p : m ≤ period * m = at_least period m low in
                (pos e.residue -ℤ pos (period * m), omega (arith, ints, p), Divides-is (pos period) (pos 0 -ℤ pos (period * m)) _ (omega (arith, ints)) (Divides-- (pos period) (pos 0) (pos (period * m)) (Divides-zero (pos period)) (Divides-multiple period m)))

            lowest : (b : Option ℤ) → EndsAt period stops e b → (x : ℤ) × IsInside period row x
            lowest b t = (
                let x = down_by g.bound in (
                  x.0,
                  row_from x.0 (begin.below e listed) x.2 (subst (Above x.0) (sym q) tt) (λ y ay le d s. s.over (g.all y (let v : x.0 ≤ℤ g.bound = x.1 in omega (arith, ints)) d)),
                ))

  -- ---- all rows
  module _ (rows : List MaximalRow) (paired : AreRowsFrom period stops starts rows) (limit : bound + period ≤ 2 ^ 62 + 1) where
    small : (r : ℕ) (y : ℤ) → Contains stops (record { residue = r; number = Some y }) → AtMost (2 ^ 62) (Some (y -ℤ pos period))
    small r y l =
        let s = stop.to (record { residue = r; number = Some y }) l in
        let n : Some y ≡ Some s.0 = s.2.number in
        let q : y ≡ s.0 = cc in
        let a : neg_ℤ (pos bound) <ℤ s.0 = stop_low s.0 s.1 in
        let b : s.0 <ℤ pos (bound + period) = stop_high s.0 s.1 in
        (omega (arith, ints, limit), omega (arith, ints, limit))

    row_at : (row : MaximalRow) → Contains rows row → (e : Edge) × Contains starts e × IsRowFrom period stops e row
    row_at row l =
        let il : l.0 < length starts = (let k : l.0 < length rows = l.1 in omega (arith, paired.count)) in
        let d : Edge = record { residue = 0; number = None } in
        (get_or starts l.0 d, Contains-get_or starts l.0 d il, subst (IsRowFrom period stops (get_or starts l.0 d)) l.2 (paired.each l.0 d row il))

    -- a row is below each row of its residue that begins later
    far_apart : (e f : Edge) (v w : MaximalRow) → Contains starts e → Contains starts f → IsEarlierEdge e f → IsRowFrom period stops e v → IsRowFrom period stops f w → LieApart period v w
    far_apart e f v w le lf earlier fe ff = record { far = λ same x y ix iy. of earlier same x y ix iy f.number refl (begin.to f lf) }
      where
        of : IsEarlierEdge e f → v.residue ≡ w.residue → (x y : ℤ) → IsInside period v x → IsInside period w y → (n : Option ℤ) → f.number ≡ n → IsBeginning set period f.residue n → (x +ℤ pos period) <ℤ y
        of (inl a) same x y ix iy n q g = let p : e.residue ≡ f.residue = sym fe.residue ∙ same ∙ ff.residue in absurd (omega (arith, a, p))
        of (inr a) same x y ix iy None q g = absurd (none e.number (subst (IsSooner e.number) q a.1))
          where
            none : (m : Option ℤ) → IsSooner m None → ⊥
            none None s = s
            none (Some m) s = s
        of (inr a) same x y ix iy (Some b) q g =
            let above : b ≤ℤ y = subst (Above y) (ff.least ∙ q) iy.low in
            let dx : Divides (pos period) (x -ℤ pos f.residue) = subst (λ r. Divides (pos period) (x -ℤ pos r)) (same ∙ ff.residue) ix.residue in
            by_lt_z (x +ℤ pos period) b (λ lt. omega (arith, ints))
            (λ ge.
            let db : Divides (pos period) ((b -ℤ pos period) -ℤ pos v.residue) = subst (λ r. Divides (pos period) ((b -ℤ pos period) -ℤ pos r)) (sym ff.residue ∙ sym same)
            (Divides-is (pos period) ((b -ℤ pos f.residue) -ℤ pos period) _ (omega (arith, ints)) (Divides-- (pos period) _ _ g.1 (Divides-self (pos period)))) in
            let i : IsInside period v (b -ℤ pos period) = record {
              residue = db;
              low = subst (Above (b -ℤ pos period)) (sym fe.least) (lower e.number refl (begin.to e le) (subst (IsSooner e.number) q a.1));
              high = within_less (b -ℤ pos period) x v.most (omega (arith, ints)) ix.high;
            } in
            absurd (g.0.first (row_to e le v fe (b -ℤ pos period) i)))
          where
            lower : (m : Option ℤ) → e.number ≡ m → IsBeginning set period e.residue m → IsSooner m (Some b) → Above (b -ℤ pos period) m
            lower None p h s = tt
            lower (Some m) p h s =
                let dm : Divides (pos period) (m -ℤ pos f.residue) = subst (λ r. Divides (pos period) (m -ℤ pos r)) (a.0) h.1 in
                let l : (m +ℤ pos period) ≤ℤ b = same_apart period (pos f.residue) m b low dm g.1 s in
                omega (arith, ints)

    pub rows_are : AreRowsOf set period rows
    rows_are = record {
      each = λ row l. (let t = row_at row l in row_is t.0 t.1 row t.2 (λ y m. small t.0.residue y m));
      apart = apart;
      to = λ row x l i. (let t = row_at row l in row_to t.0 t.1 row t.2 x i);
      from = λ x h. (
          let r = rest_of period x low in
          let u : IsUnder x r.0 = descend (nat_abs x + bound) x r.0 r.1 r.2 (omega (arith, ints)) h in
          let d : MaximalRow = record { residue = 0; least = None; most = None } in
          let il : u.listed.0 < length starts = u.listed.1 in
          let f : IsRowFrom period stops u.edge (get_or rows u.listed.0 d) = subst (λ e. IsRowFrom period stops e (get_or rows u.listed.0 d)) u.listed.2 (paired.each u.listed.0 u.edge d il) in (
            get_or rows u.listed.0 d,
            Contains-get_or rows u.listed.0 d (omega (arith, il, paired.count)),
            row_from u.edge u.listed (get_or rows u.listed.0 d) f x (subst (λ q. q < period) (sym u.residue) r.1) (subst (λ q. Divides (pos period) (x -ℤ pos q)) (sym u.residue) r.2) u.above
                (λ y a le dy s. u.none y a le (subst (λ q. Divides (pos period) (y -ℤ pos q)) u.residue dy) s),
          ));
    }
      where
        apart : AllPairs (LieApart period) rows
        apart i j d il jl =
            let is : i < length starts = omega (arith, il, jl, paired.count) in
            let js : j < length starts = omega (arith, jl, paired.count) in
            let e : Edge = record { residue = 0; number = None } in
            far_apart (get_or starts i e) (get_or starts j e) (get_or rows i d) (get_or rows j d) (Contains-get_or starts i e is) (Contains-get_or starts j e js) (begin.apart i j e il js) (paired.each i e d is) (paired.each j e d js)
