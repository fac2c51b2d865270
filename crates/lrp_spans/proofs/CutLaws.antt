-- A span, cut by one hole after another.
use Rattle.std.proofs.Common.{◌≡◌, ℕ, ◌+◌, ◌⊎◌, inl, inr, List, [], ◌∷◌, ◌++◌, Option, Some, None, arith, refl, sym, subst, ◌∙◌}
use Rattle.std.specs.Prelude.{ℤ, pos, ◌≤ℤ◌, ◌<ℤ◌, neg_ℤ, Contains, AllPairs}
use Rattle.std.proofs.lemmas.Int.{ints, by_lt_z}
use Rattle.std.proofs.lemmas.List.Elements.{Contains-append_cases}
use Rattle.lrp_theory.specs.Bounds.{Within}
use Rattle.lrp_theory.specs.Entries.{AtMost}
use Rattle.lrp_matrix.specs.Ranges.{Above}
use Rattle.lrp_spans.specs.declared.spans.Span.{Span}
use Rattle.lrp_spans.specs.Spans.{AreFronts, SpanComesBefore, EndsBefore, HasTurn, InSpans, IsSpanDifference, IsSpanFront, IsRest, IsSpan}
use Rattle.lrp_spans.proofs.Lists.{below_or, in_none, in_one, later, head_in, pairs_append, pairs_one, pairs_none}
use Rattle.lrp_spans.proofs.MergeLaws.{in_left, in_right, in_either, in_this, this_has}
use Rattle.lrp_spans.proofs.SpanLaws.{afterwards}
use Rattle.lrp_theory.proofs.Below.{within_less}
use Rattle.lrp_matrix.proofs.NearestLemmas.{above_more}

-- ---- order by turns
-- each turn of p is below each of q
abbrev pub LiesBelow : Span → Span → Type 0
LiesBelow p q = (n m : ℤ) → HasTurn p p.residue n → HasTurn q q.residue m → n <ℤ m

-- between two turns of a span each is one
pub turn_between : (s : Span) (a b n : ℤ) → Above a s.first → Within b s.last → a ≤ℤ n → n ≤ℤ b → HasTurn s s.residue n
turn_between s a b n low high l h = record { residue = refl; low = up s.first low; high = down s.last high }
  where
    up : (e : Option ℤ) → Above a e → Above n e
    up None x = tt
    up (Some f) x = omega (arith, ints)

    down : (e : Option ℤ) → Within b e → Within n e
    down None x = tt
    down (Some f) x = omega (arith, ints)

pub ends_below : (p q : Span) → EndsBefore p q → LiesBelow p q
ends_below p q e n m a b =
    let h : n ≤ℤ e.end = subst (Within n) e.ends a.high in
    let l : e.start ≤ℤ m = subst (Above m) e.starts b.low in
    let k : e.end <ℤ e.start = e.below in
    omega (arith, ints)

pub below_ends : (high : ℕ) (p q : Span) → IsSpan high p → IsSpan high q → LiesBelow p q → EndsBefore p q
below_ends high p q vp vq below = at p.last refl
  where
    a : ℤ
    a = vp.turn

    b : ℤ
    b = vq.turn

    start : (e : ℤ) → p.last ≡ Some e → (f : Option ℤ) → q.first ≡ f → EndsBefore p q
    start e ends None first = absurd (
        let te : HasTurn p p.residue e = turn_between p a e e vp.is.low (subst (Within e) (sym ends) (let l : e ≤ℤ e = omega (arith, ints) in l)) (subst (Within a) ends vp.is.high) (omega (arith, ints)) in
        by_lt_z e b
        (λ lt. (let tm : HasTurn q q.residue e = turn_between q e b e (subst (Above e) (sym first) tt) vq.is.high (omega (arith, ints)) (omega (arith, ints)) in let k : e <ℤ e = below e e te tm in omega (arith, ints)))
        (λ le. (let k : e <ℤ b = below e b te vq.is in omega (arith, ints))))
    start e ends (Some f) first =
        let te : HasTurn p p.residue e = turn_between p a e e vp.is.low (subst (Within e) (sym ends) (let l : e ≤ℤ e = omega (arith, ints) in l)) (subst (Within a) ends vp.is.high) (omega (arith, ints)) in
        let tf : HasTurn q q.residue f = turn_between q f b f (subst (Above f) (sym first) (let l : f ≤ℤ f = omega (arith, ints) in l)) vq.is.high (omega (arith, ints)) (subst (Above b) first vq.is.low) in
        record { end = e; ends = ends; start = f; starts = first; below = below e f te tf }

    at : (e : Option ℤ) → p.last ≡ e → EndsBefore p q
    at None ends = absurd (by_lt_z a b
        (λ lt. (let t : HasTurn p p.residue b = turn_between p a b b vp.is.low (subst (Within b) (sym ends) tt) (omega (arith, ints)) (omega (arith, ints)) in let k : b <ℤ b = below b b t vq.is in omega (arith, ints)))
        (λ le. (let k : a <ℤ b = below a b vp.is vq.is in omega (arith, ints))))
    at (Some e) ends = start e ends q.first refl

-- of two spans that come one before the other, no turn is in both
pub apart_turns : (p q : Span) (r : ℕ) (n : ℤ) → SpanComesBefore p q → HasTurn p r n → HasTurn q r n → ⊥
apart_turns p q r n (inl l) a b = let e : p.residue ≡ r = a.residue in let f : q.residue ≡ r = b.residue in omega arith
apart_turns p q r n (inr c) a b = let k : n <ℤ n = ends_below p q c.1 n n (record { residue = refl; low = a.low; high = a.high }) (record { residue = refl; low = b.low; high = b.high }) in omega (arith, ints)

-- what comes before a span comes before what comes after it
pub before_trans : (high : ℕ) (p q s : Span) → IsSpan high p → IsSpan high q → IsSpan high s → SpanComesBefore p q → SpanComesBefore q s → SpanComesBefore p s
before_trans high p q s vp vq vs (inl a) (inl b) = inl (omega arith)
before_trans high p q s vp vq vs (inl a) (inr b) = inl (let e : q.residue ≡ s.residue = b.0 in omega arith)
before_trans high p q s vp vq vs (inr a) (inl b) = inl (let e : p.residue ≡ q.residue = a.0 in omega arith)
before_trans high p q s vp vq vs (inr a) (inr b) = inr (
  a.0 ∙ b.0,
  below_ends high p s vp vs (λ n m x y. (
      let k : n <ℤ vq.turn = ends_below p q a.1 n vq.turn x vq.is in
      let l : vq.turn <ℤ m = ends_below q s b.1 vq.turn m vq.is y in
      omega (arith, ints))),
)

-- ends of at most a magnitude are of at most a greater one
wider : (h : ℕ) (e : Option ℤ) → AtMost h e → AtMost (h + 1) e
wider h None a = tt
wider h (Some f) a = let l : neg_ℤ (pos h) ≤ℤ f = a.0 in let m : f ≤ℤ pos h = a.1 in (omega (arith, ints), omega (arith, ints))

pub wider_span : (h : ℕ) (s : Span) → IsSpan h s → IsSpan (h + 1) s
wider_span h s v = record { first = wider h s.first v.first; last = wider h s.last v.last; turn = v.turn; is = v.is }

-- ---- the fronts
pub fronts_none : (high : ℕ) (s hole : Span) → ((n : ℤ) → Above n s.first → Above n hole.first) → AreFronts high s hole []
fronts_none high s hole all = record {
  to = λ r n h. absurd (in_none h.span h.listed);
  from = λ r n t out. absurd (out (all n t.low));
  each = λ p l. absurd (in_none p l);
  apart = pairs_none SpanComesBefore;
}

pub fronts_one : (high : ℕ) (s hole front : Span) → IsSpan (high + 1) s → IsSpan high hole → s.residue ≡ front.residue → IsSpanFront s hole front → AreFronts high s hole (front ∷ [])
fronts_one high s hole front v w same f = record {
  to = λ r n h. f.to r n (this_has front r n h);
  from = λ r n t out. in_this front r n (f.from r n t out);
  each = λ p l. subst (IsSpan (high + 1)) (in_one front p l) (record {
    first = subst (AtMost (high + 1)) (sym f.first) v.first;
    last = f.last high w.first;
    turn = f.turn.0;
    is = subst (λ r. HasTurn front r f.turn.0) same f.turn.1;
  });
  apart = pairs_one SpanComesBefore front;
}

-- ---- the span so far: pieces before the holes that are left, and the rest
pub record AreCut (high : ℕ) (span : Span) (done left pieces : List Span) (rest : Span) : Type 0 where
  pub each : (p : Span) → Contains pieces p → IsSpan (high + 1) p
  pub apart : AllPairs SpanComesBefore pieces
  pub ahead : (p h : Span) → Contains pieces p → Contains left h → SpanComesBefore p h
  pub before : (p : Span) → Contains pieces p → SpanComesBefore p rest
  pub valid : IsSpan (high + 1) rest
  pub afterwards : (h : Span) → Contains left h → SpanComesBefore h rest → ⊥
  pub to_pieces : (r : ℕ) (n : ℤ) → InSpans pieces r n → HasTurn span r n × (InSpans done r n → ⊥)
  pub to_rest : (r : ℕ) (n : ℤ) → HasTurn rest r n → HasTurn span r n × (InSpans done r n → ⊥)
  pub from : (r : ℕ) (n : ℤ) → HasTurn span r n → (InSpans done r n → ⊥) → InSpans pieces r n ⊎ HasTurn rest r n

pub cut_start : (high : ℕ) (span : Span) (holes : List Span) → IsSpan high span → ((h : Span) → Contains holes h → SpanComesBefore h span → ⊥) → AreCut high span [] holes [] span
cut_start high span holes v afterwards = record {
  each = λ p l. absurd (in_none p l);
  apart = pairs_none SpanComesBefore;
  ahead = λ p h l m. absurd (in_none p l);
  before = λ p l. absurd (in_none p l);
  valid = wider_span high span v;
  afterwards = afterwards;
  to_pieces = λ r n h. absurd (in_none h.span h.listed);
  to_rest = λ r n t. (t, λ h. in_none h.span h.listed);
  from = λ r n t out. inr t;
}

-- where no hole is left
pub cut_all : (high : ℕ) (span : Span) (done pieces : List Span) (rest : Span) → AreCut high span done [] pieces rest → IsSpanDifference high (span ∷ []) done (pieces ++ rest ∷ [])
cut_all high span done pieces rest c = record {
  to = λ r n h. elim (in_either pieces (rest ∷ []) r n h) [
    | inl a ↦ (let t = c.to_pieces r n a in (in_this span r n t.0, t.1))
    | inr b ↦ (let t = c.to_rest r n (this_has rest r n b) in (in_this span r n t.0, t.1))
  ];
  from = λ r n h out. elim (c.from r n (this_has span r n h) out) [ inl a ↦ in_left pieces (rest ∷ []) r n a | inr b ↦ in_right pieces (rest ∷ []) r n (in_this rest r n b) ];
  each = λ s l. elim (Contains-append_cases pieces (rest ∷ []) s l) [ inl a ↦ c.each s a | inr b ↦ subst (IsSpan (high + 1)) (in_one rest s b) c.valid ];
  apart = pairs_append SpanComesBefore pieces (rest ∷ []) c.apart (pairs_one SpanComesBefore rest) (λ x y a b. subst (SpanComesBefore x) (in_one rest y b) (c.before x a));
}

-- two spans of which neither has the lesser residue
pub same_residues : (p q : Span) → (SpanComesBefore p q → ⊥) → (SpanComesBefore q p → ⊥) → p.residue ≡ q.residue
same_residues p q a b = elim (below_or p.residue q.residue) [
  | inl l ↦ absurd (a (inl l))
  | inr l ↦ elim (below_or q.residue p.residue) [ inl m ↦ absurd (b (inl m)) | inr m ↦ omega (arith, l, m) ]
]

decided_above : (n : ℤ) (e : Option ℤ) → Above n e ⊎ (Above n e → ⊥)
decided_above n None = inl tt
decided_above n (Some a) = by_lt_z n a (λ lt. inr (λ le. absurd (omega (arith, ints)))) (λ le. inl le)

-- what comes before a span comes before a part of it
inner_before : (high : ℕ) (p q s : Span) → IsSpan high p → IsSpan high s → s.residue ≡ q.residue → ((n : ℤ) → HasTurn s s.residue n → HasTurn q q.residue n) → SpanComesBefore p q → SpanComesBefore p s
inner_before high p q s vp vs same inner (inl a) = inl (omega (arith, a, same))
inner_before high p q s vp vs same inner (inr a) = inr (a.0 ∙ sym same, below_ends high p s vp vs (λ n m x y. ends_below p q a.1 n m x (inner m y)))

-- the same turn, with the span's own residue
pub own : (s : Span) (r : ℕ) (n : ℤ) → HasTurn s r n → HasTurn s s.residue n
own s r n t = record { residue = refl; low = t.low; high = t.high }

module _ (high : ℕ) (span : Span) (done : List Span) (hole : Span) (others pieces : List Span) (rest : Span)
    (c : AreCut high span done (hole ∷ others) pieces rest) (all : (h : Span) → Contains (hole ∷ others) h → IsSpan high h) (order : (h : Span) → Contains others h → SpanComesBefore hole h) where
  hole_in : Contains (hole ∷ others) hole
  hole_in = head_in hole others

  -- a hole that is left is the first one or comes after it
  left_holes : (p : Span) → IsSpan (high + 1) p → SpanComesBefore p hole → (h : Span) → Contains (hole ∷ others) h → SpanComesBefore p h
  left_holes p v b h l = elim (Contains-append_cases (hole ∷ []) others h l) [
    | inl a ↦ subst (SpanComesBefore p) (in_one hole h a) b
    | inr a ↦ before_trans (high + 1) p hole h v (wider_span high hole (all hole hole_in)) (wider_span high h (all h l)) b (order h a)
  ]

  -- where the rest comes before the hole
  pub cut_break : SpanComesBefore rest hole → IsSpanDifference high (span ∷ []) (done ++ hole ∷ others) (pieces ++ rest ∷ [])
  cut_break b = record {
    to = λ r n h. elim (in_either pieces (rest ∷ []) r n h) [
      | inl a ↦ (let t = c.to_pieces r n a in (
        in_this span r n t.0,
        λ o. elim (in_either done (hole ∷ others) r n o) [
          | inl x ↦ t.1 x
          | inr x ↦ apart_turns a.span x.span r n (c.ahead a.span x.span a.listed x.listed) a.is x.is
        ],
      ))
      | inr a ↦ (let t = c.to_rest r n (this_has rest r n a) in (
        in_this span r n t.0,
        λ o. elim (in_either done (hole ∷ others) r n o) [
          | inl x ↦ t.1 x
          | inr x ↦ apart_turns rest x.span r n (left_holes rest c.valid b x.span x.listed) (this_has rest r n a) x.is
        ],
      ))
    ];
    from = λ r n h out. elim (c.from r n (this_has span r n h) (λ x. out (in_left done (hole ∷ others) r n x))) [ inl a ↦ in_left pieces (rest ∷ []) r n a | inr a ↦ in_right pieces (rest ∷ []) r n (in_this rest r n a) ];
    each = λ s l. elim (Contains-append_cases pieces (rest ∷ []) s l) [ inl a ↦ c.each s a | inr a ↦ subst (IsSpan (high + 1)) (in_one rest s a) c.valid ];
    apart = pairs_append SpanComesBefore pieces (rest ∷ []) c.apart (pairs_one SpanComesBefore rest) (λ x y a e. subst (SpanComesBefore x) (in_one rest y e) (c.before x a));
  }

  module _ (same : rest.residue ≡ hole.residue) (fronts : List Span) (f : AreFronts high rest hole fronts) where
    -- a front has turns of the rest, all below those of the hole
    front_in : (p : Span) (l : Contains fronts p) (n : ℤ) → HasTurn p p.residue n → HasTurn rest p.residue n × (Above n hole.first → ⊥)
    front_in p l n t = f.to p.residue n (record { span = p; listed = l; is = t })

    front_residue : (p : Span) → Contains fronts p → p.residue ≡ rest.residue
    front_residue p l = let v : IsSpan (high + 1) p = f.each p l in sym (front_in p l v.turn v.is).0.residue

    front_before_hole : (p : Span) → Contains fronts p → SpanComesBefore p hole
    front_before_hole p l = inr (
      front_residue p l ∙ same,
      below_ends (high + 1) p hole (f.each p l) (wider_span high hole (all hole hole_in))
          (λ n m x y. by_lt_z n m (λ lt. lt) (λ le. absurd ((front_in p l n x).1 (above_more m n hole.first le y.low)))),
    )

    -- the pieces and the fronts
    pub pieces_each : (p : Span) → Contains (pieces ++ fronts) p → IsSpan (high + 1) p
    pieces_each p l = elim (Contains-append_cases pieces fronts p l) [ inl a ↦ c.each p a | inr a ↦ f.each p a ]

    pub pieces_ahead : (p h : Span) → Contains (pieces ++ fronts) p → Contains (hole ∷ others) h → SpanComesBefore p h
    pieces_ahead p h l m = elim (Contains-append_cases pieces fronts p l) [
      | inl a ↦ c.ahead p h a m
      | inr a ↦ left_holes p (f.each p a) (front_before_hole p a) h m
    ]

    pub pieces_apart : AllPairs SpanComesBefore (pieces ++ fronts)
    pieces_apart = pairs_append SpanComesBefore pieces fronts c.apart f.apart (λ x y a b.
        inner_before (high + 1) x rest y (c.each x a) (f.each y b) (front_residue y b) (λ n t. own rest y.residue n (front_in y b n t).0) (c.before x a))

    -- they have turns of the span that are in no hole
    pub pieces_to : (r : ℕ) (n : ℤ) → InSpans (pieces ++ fronts) r n → HasTurn span r n × (InSpans (done ++ hole ∷ others) r n → ⊥)
    pieces_to r n h = (
      of_span (in_either pieces fronts r n h),
      λ o. elim (in_either done (hole ∷ others) r n o) [
        | inl x ↦ not_done (in_either pieces fronts r n h) x
        | inr x ↦ apart_turns h.span x.span r n (pieces_ahead h.span x.span h.listed x.listed) h.is x.is
      ],
    )
      where
        of_span : InSpans pieces r n ⊎ InSpans fronts r n → HasTurn span r n
        of_span (inl a) = (c.to_pieces r n a).0
        of_span (inr a) = (c.to_rest r n (f.to r n a).0).0

        not_done : InSpans pieces r n ⊎ InSpans fronts r n → InSpans done r n → ⊥
        not_done (inl a) x = (c.to_pieces r n a).1 x
        not_done (inr a) x = (c.to_rest r n (f.to r n a).0).1 x

    -- a turn of the span that is in no hole so far is in a piece, in a front or in the rest after the hole
    pub pieces_from : (r : ℕ) (n : ℤ) → HasTurn span r n → (InSpans done r n → ⊥) → (HasTurn hole r n → ⊥) → InSpans (pieces ++ fronts) r n ⊎ (HasTurn rest r n × (Within n hole.last → ⊥))
    pieces_from r n t out away = elim (c.from r n t out) [
      | inl a ↦ inl (in_left pieces fronts r n a)
      | inr a ↦ elim (decided_above n hole.first) [
        | inl up ↦ inr (a, λ w. away (record { residue = sym same ∙ a.residue; low = up; high = w }))
        | inr down ↦ inl (in_right pieces fronts r n (f.from r n a down))
      ]
    ]

    -- where nothing is after the hole
    pub cut_stop : ((n : ℤ) → Within n rest.last → Within n hole.last) → IsSpanDifference high (span ∷ []) (done ++ hole ∷ others) (pieces ++ fronts)
    cut_stop none = record {
      to = λ r n h. (let t = pieces_to r n h in (in_this span r n t.0, t.1));
      from = λ r n h out. elim (pieces_from r n (this_has span r n h) (λ x. out (in_left done (hole ∷ others) r n x)) (λ x. out (in_right done (hole ∷ others) r n (record { span = hole; listed = hole_in; is = x })))) [
        | inl a ↦ a
        | inr a ↦ absurd (a.1 (none n a.0.high))
      ];
      each = pieces_each;
      apart = pieces_apart;
    }

    -- and where something is
    pub cut_next : (next : Span) → IsRest rest hole next → (SpanComesBefore hole rest → ⊥) → AreCut high span (done ++ hole ∷ []) others (pieces ++ fronts) next
    cut_next next re after = record {
      each = pieces_each;
      apart = pieces_apart;
      ahead = λ p h l m. pieces_ahead p h l (later hole others h m);
      before = before;
      valid = valid;
      afterwards = after_next;
      to_pieces = λ r n h. (let t = pieces_to r n h in (t.0, λ o. t.1 (more r n o)));
      to_rest = λ r n t. (
          let a = re.to r n t in
          let b = c.to_rest r n a.0 in
          (b.0, λ o. elim (in_either done (hole ∷ []) r n o) [ inl x ↦ b.1 x | inr x ↦ a.1 (this_has hole r n x).high ]));
      from = λ r n t out. elim (pieces_from r n t (λ x. out (in_left done (hole ∷ []) r n x)) (λ x. out (in_right done (hole ∷ []) r n (in_this hole r n x)))) [
        | inl a ↦ inl a
        | inr a ↦ inr (re.from r n a.0 a.1)
      ];
    }
      where
        next_residue : next.residue ≡ rest.residue
        next_residue = re.turn.1.residue

        valid : IsSpan (high + 1) next
        valid = record {
          first = re.first high (all hole hole_in).last;
          last = subst (AtMost (high + 1)) (sym re.last) c.valid.last;
          turn = re.turn.0;
          is = own next rest.residue re.turn.0 re.turn.1;
        }

        next_in : (n : ℤ) → HasTurn next next.residue n → HasTurn rest rest.residue n × (Within n hole.last → ⊥)
        next_in n t = let a = re.to next.residue n t in (own rest next.residue n a.0, a.1)

        before : (p : Span) → Contains (pieces ++ fronts) p → SpanComesBefore p next
        before p l = elim (Contains-append_cases pieces fronts p l) [
          | inl a ↦ inner_before (high + 1) p rest next (c.each p a) valid next_residue (λ n t. (next_in n t).0) (c.before p a)
          | inr a ↦ inr (front_residue p a ∙ sym next_residue, below_ends (high + 1) p next (f.each p a) valid (λ n m x y. far p a n m x y))
        ]
          where
            far : (p : Span) (a : Contains fronts p) (n m : ℤ) → HasTurn p p.residue n → HasTurn next next.residue m → n <ℤ m
            far p a n m x y =
                let v : IsSpan high hole = all hole hole_in in
                by_lt_z n v.turn
                (λ lt. by_lt_z v.turn m (λ l. omega (arith, ints)) (λ l. absurd ((next_in m y).1 (within_less m v.turn hole.last l v.is.high))))
                (λ le. absurd ((front_in p a n x).1 (above_more v.turn n hole.first le v.is.low)))

        more : (r : ℕ) (n : ℤ) → InSpans (done ++ hole ∷ []) r n → InSpans (done ++ hole ∷ others) r n
        more r n o = elim (in_either done (hole ∷ []) r n o) [
          | inl x ↦ in_left done (hole ∷ others) r n x
          | inr x ↦ in_right done (hole ∷ others) r n (record { span = hole; listed = hole_in; is = this_has hole r n x })
        ]

        -- no hole after comes before what is left
        after_next : (h : Span) → Contains others h → SpanComesBefore h next → ⊥
        after_next h l (inl less) = of (order h l)
          where
            of : SpanComesBefore hole h → ⊥
            of (inl a) = omega (arith, a, less, next_residue, same)
            of (inr a) = let e : hole.residue ≡ h.residue = a.0 in omega (arith, e, less, next_residue, same)
        after_next h l (inr b) = of (order h l)
          where
            v : IsSpan high h
            v = all h (later hole others h l)

            of : SpanComesBefore hole h → ⊥
            of (inl a) = let e : h.residue ≡ next.residue = b.0 in omega (arith, a, e, next_residue, same)
            of (inr a) =
                let w : IsSpan high hole = all hole hole_in in
                let up : w.turn <ℤ v.turn = ends_below hole h a.1 w.turn v.turn w.is v.is in
                let out : Within v.turn hole.last → ⊥ = λ t. (
                let x : HasTurn hole hole.residue v.turn = record { residue = refl; low = above_more w.turn v.turn hole.first (omega (arith, ints)) w.is.low; high = t } in
                let k : v.turn <ℤ v.turn = ends_below hole h a.1 v.turn v.turn x v.is in absurd (omega (arith, ints))) in
                let high_turn : v.turn <ℤ re.turn.0 = ends_below h next b.1 v.turn re.turn.0 v.is (own next rest.residue re.turn.0 re.turn.1) in
                let in_rest : HasTurn rest rest.residue v.turn = record {
                  residue = refl;
                  low = afterwards hole rest v.turn hole.last rest.first refl refl (λ e. after (inr (sym same, e))) out;
                  high = within_less v.turn re.turn.0 rest.last (omega (arith, ints)) (re.to rest.residue re.turn.0 re.turn.1).0.high;
                } in
                let k : v.turn <ℤ v.turn = ends_below h next b.1 v.turn v.turn v.is (own next rest.residue v.turn (re.from rest.residue v.turn in_rest out)) in
                absurd (omega (arith, ints))
