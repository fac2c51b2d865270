-- Edges that are appended, one after another.
use Rattle.std.proofs.Common.{◌≡◌, ℕ, ◌+◌, ◌*◌, ◌<◌, ◌≤◌, ◌^◌, ◌-◌, ◌/◌, ◌%◌, ◌⊎◌, inl, inr, List, [], ◌∷◌, ◌++◌, Some, None, get_or, length, take, arith, refl, sym, subst, ap, ◌∙◌}
use Rattle.std.specs.Prelude.{ℤ, pos, ◌+ℤ◌, ◌-ℤ◌, ◌≤ℤ◌, ◌<ℤ◌, Contains}
use Rattle.std.proofs.Math.IntN.{◌*ℤ◌}
use Rattle.std.proofs.lemmas.Int.{ints, by_lt_z}
use Rattle.std.proofs.lemmas.List.{take_more, take_all}
use Rattle.std.proofs.lemmas.List.Elements.{Contains-append_cases, Contains-append_left, Contains-append_right}
use Rattle.lrp_theory.specs.Bounds.{Within}
use Rattle.lrp_theory.specs.Divides.{Divides}
use Rattle.lrp_theory.specs.Entries.{AtMost}
use Rattle.lrp_theory.proofs.Modulo.{Divides-+, Divides-is}
use Rattle.lrp_theory.proofs.Multiples.{Divides-multiple, Divides-trans}
use Rattle.lrp_matrix.specs.Ranges.{Above}
use Rattle.lrp_spans.specs.declared.spans.Span.{Span}
use Rattle.lrp_spans.specs.Spans.{AreOpenBelow, SpansHaveNumber, HasTurn}
use Rattle.lrp_spans.proofs.Lists.{in_none, in_one, one_in}
use Rattle.lrp_canon.specs.declared.edges.Edge.{Edge}
use Rattle.lrp_canon.specs.declared.edges.Periods.{Periods}
use Rattle.lrp_canon.specs.Edges.{AddsEdges, AddsOpen, AreBeginnings, AreEdgeNumbers, AreEdgeSpans, AreInOrder, AreRepeating, AreStops, Begins, IsBeginning, IsEdgeAt, StopsAt}
use Rattle.lrp_canon.proofs.EdgeLaws.{step_of}
use Rattle.lrp_canon.proofs.GroupCounts.{down_open, open_down}

pub edges_none : (period : ℕ) (kind : ℤ → Type 0) (old : List Edge) → ((x : ℤ) → kind x → ⊥) → AddsEdges period kind old old
edges_none period kind old none = record { to = λ e l. inl l; kept = λ e l. l; from = λ x k. absurd (none x k) }

-- one more number
pub edges_more : (period : ℕ) (kind more : ℤ → Type 0) (old now new : List Edge) (edge : Edge) (x : ℤ) → AddsEdges period kind old now → new ≡ now ++ edge ∷ [] → IsEdgeAt period x edge
    → more x → ((y : ℤ) → kind y → more y) → ((y : ℤ) → more y → kind y ⊎ (y ≡ x)) → AddsEdges period more old new
edges_more period kind more old now new edge x a e is here left cases = record {
  to = λ f l. elim (Contains-append_cases now (edge ∷ []) f (subst (λ xs. Contains xs f) e l)) [
    | inl m ↦ elim (a.to f m) [ inl o ↦ inl o | inr o ↦ inr (o.0, left o.0 o.1, o.2) ]
    | inr m ↦ inr (x, here, subst (IsEdgeAt period x) (in_one edge f m) is)
  ];
  kept = λ f l. subst (λ xs. Contains xs f) (sym e) (Contains-append_left now (edge ∷ []) f (a.kept f l));
  from = λ y k. elim (cases y k) [
    | inl m ↦ (let f = a.from y m in (f.0, f.1, subst (λ xs. Contains xs f.0) (sym e) (Contains-append_left now (edge ∷ []) f.0 f.2)))
    | inr m ↦ (edge, subst (λ z. IsEdgeAt period z edge) (sym m) is, subst (λ xs. Contains xs edge) (sym e) (Contains-append_right now (edge ∷ []) edge (one_in edge)))
  ];
}

-- the numbers of two kinds, one kind after the other
pub edges_both : (period : ℕ) (kind next more : ℤ → Type 0) (old now new : List Edge) → AddsEdges period kind old now → AddsEdges period next now new → ((y : ℤ) → kind y → more y) → ((y : ℤ) → next y → more y) → ((y : ℤ) → more y → kind y ⊎ next y)
    → AddsEdges period more old new
edges_both period kind next more old now new a b left right cases = record {
  to = λ e l. elim (b.to e l) [
    | inl m ↦ elim (a.to e m) [ inl o ↦ inl o | inr o ↦ inr (o.0, left o.0 o.1, o.2) ]
    | inr m ↦ inr (m.0, right m.0 m.1, m.2)
  ];
  kept = λ e l. b.kept e (a.kept e l);
  from = λ y k. elim (cases y k) [
    | inl m ↦ (let f = a.from y m in (f.0, f.1, b.kept f.0 f.2))
    | inr m ↦ b.from y m
  ];
}

-- the same kind by other words
pub edges_same : (period : ℕ) (kind other : ℤ → Type 0) (old new : List Edge) → ((y : ℤ) → kind y → other y) → ((y : ℤ) → other y → kind y) → AddsEdges period kind old new → AddsEdges period other old new
edges_same period kind other old new to from a = record {
  to = λ e l. elim (a.to e l) [ inl o ↦ inl o | inr o ↦ inr (o.0, to o.0 o.1, o.2) ];
  kept = a.kept;
  from = λ y k. a.from y (from y k);
}

-- ---- the numbers of a span, turn after turn
-- the number of the residue in one of the turns from a first one up to another
pub record IsInTurns (k r : ℕ) (first end : ℤ) (x : ℤ) : Type 0 where
  pub turn : ℤ
  pub low : first ≤ℤ turn
  pub high : turn <ℤ end
  pub is : x ≡ pos r +ℤ (pos k *ℤ turn)

-- the residue of a number of the span modulo a divisor of the period
pub edge_at : (periods : Periods) (r : ℕ) (turn x : ℤ) (edge : Edge) → 0 < periods.least → Divides (pos periods.least) (pos periods.whole) → x ≡ pos r +ℤ (pos periods.whole *ℤ turn) → edge.residue ≡ r % periods.least → edge.number ≡ Some x → IsEdgeAt periods.least x edge
edge_at periods r turn x edge low divides e er en = record {
  below = subst (λ q. q < periods.least) (sym er) (rest_below r periods.least low);
  residue = subst (λ q. Divides (pos periods.least) (x -ℤ pos q)) (sym er)
      (let q : r % periods.least + periods.least * (r / periods.least) ≡ r = omega arith in
      let d : Divides (pos periods.least) (pos periods.whole *ℤ turn) = Divides-trans (pos periods.least) (pos periods.whole) (pos periods.whole *ℤ turn) divides (record { times = turn; is = refl }) in
      Divides-is (pos periods.least) (pos (periods.least * (r / periods.least)) +ℤ (pos periods.whole *ℤ turn)) _ (omega (arith, ints, q)) (Divides-+ (pos periods.least) _ _ (Divides-multiple periods.least (r / periods.least)) d));
  number = en;
}
  where
    rest_below : (r k : ℕ) → 0 < k → r % k < k
    rest_below r k l = omega arith

pub turns_begin : (periods : Periods) (r : ℕ) (first : ℤ) (old : List Edge) → AddsEdges periods.least (IsInTurns periods.whole r first first) old old
turns_begin periods r first old = edges_none periods.least (IsInTurns periods.whole r first first) old (λ x h. (let a : first ≤ℤ h.turn = h.low in let b : h.turn <ℤ first = h.high in absurd (omega (arith, ints))))

pub turns_next : (periods : Periods) (r : ℕ) (first turn next x : ℤ) (old now new : List Edge) (edge : Edge) → 0 < periods.least → Divides (pos periods.least) (pos periods.whole) → first ≤ℤ turn → next ≡ turn +ℤ pos 1 → x ≡ pos r +ℤ (pos periods.whole *ℤ turn) → edge.residue ≡ r % periods.least → edge.number ≡ Some x
    → new ≡ now ++ edge ∷ [] → AddsEdges periods.least (IsInTurns periods.whole r first turn) old now → AddsEdges periods.least (IsInTurns periods.whole r first next) old new
turns_next periods r first turn next x old now new edge low divides le en ex er eb e a = edges_more periods.least (IsInTurns periods.whole r first turn) (IsInTurns periods.whole r first next) old now new edge x a e (edge_at periods r turn x edge low divides ex er eb)
    (record { turn = turn; low = le; high = omega (arith, ints); is = ex })
    (λ y h. record { turn = h.turn; low = h.low; high = (let p : h.turn <ℤ turn = h.high in omega (arith, ints)); is = h.is })
    (λ y h. by_lt_z h.turn turn (λ lt. inl (record { turn = h.turn; low = h.low; high = lt; is = h.is }))
    (λ ge. inr (let p : h.turn <ℤ next = h.high in let q : h.turn ≡ turn = omega (arith, ints) in h.is ∙ ap (λ n. pos r +ℤ (pos periods.whole *ℤ n)) q ∙ sym ex)))

pub turns_end : (periods : Periods) (span : Span) (first last end : ℤ) (old new : List Edge) → span.first ≡ Some first → span.last ≡ Some last → end ≡ last +ℤ pos 1 → AddsEdges periods.least (IsInTurns periods.whole span.residue first end) old new → AddsEdges periods.least (SpansHaveNumber periods.whole (span ∷ [])) old new
turns_end periods span first last end old new ef el ee a = edges_same periods.least (IsInTurns periods.whole span.residue first end) (SpansHaveNumber periods.whole (span ∷ [])) old new
    (λ y h. record {
      residue = span.residue;
      turn = h.turn;
      is = h.is;
      inside = record {
        span = span;
        listed = one_in span;
        is = record { residue = refl; low = subst (Above h.turn) (sym ef) h.low; high = subst (Within h.turn) (sym el) (let p : h.turn <ℤ end = h.high in let q : h.turn ≤ℤ last = omega (arith, ints) in q) };
      };
    })
    (λ y h.
    let s : span ≡ h.inside.span = in_one span h.inside.span h.inside.listed in
    let t : HasTurn span h.residue h.turn = subst (λ v. HasTurn v h.residue h.turn) (sym s) h.inside.is in
    record {
      turn = h.turn;
      low = subst (Above h.turn) ef t.low;
      high = (let w : h.turn ≤ℤ last = subst (Within h.turn) el t.high in omega (arith, ints));
      is = h.is ∙ ap (λ q. pos q +ℤ (pos periods.whole *ℤ h.turn)) (sym t.residue);
    })
    a

-- ---- span after span
pub spans_begin : (periods : Periods) (spans : List Span) (old : List Edge) → AddsEdges periods.least (SpansHaveNumber periods.whole (take 0 spans)) old old
spans_begin periods spans old = edges_none periods.least (SpansHaveNumber periods.whole (take 0 spans)) old (λ x h. in_none h.inside.span h.inside.listed)

pub spans_next : (periods : Periods) (spans : List Span) (i : ℕ) (d : Span) (old now new : List Edge) → i < length spans → AddsEdges periods.least (SpansHaveNumber periods.whole (get_or spans i d ∷ [])) now new → AddsEdges periods.least (SpansHaveNumber periods.whole (take i spans)) old now
    → AddsEdges periods.least (SpansHaveNumber periods.whole (take (i + 1) spans)) old new
spans_next periods spans i d old now new l b a = edges_both periods.least (SpansHaveNumber periods.whole (take i spans)) (SpansHaveNumber periods.whole (get_or spans i d ∷ [])) (SpansHaveNumber periods.whole (take (i + 1) spans)) old now new a b
    (λ y h. record { residue = h.residue; turn = h.turn; is = h.is; inside = record { span = h.inside.span; listed = subst (λ xs. Contains xs h.inside.span) (sym more) (Contains-append_left (take i spans) (get_or spans i d ∷ []) h.inside.span h.inside.listed); is = h.inside.is } })
    (λ y h. record { residue = h.residue; turn = h.turn; is = h.is; inside = record { span = h.inside.span; listed = subst (λ xs. Contains xs h.inside.span) (sym more) (Contains-append_right (take i spans) (get_or spans i d ∷ []) h.inside.span h.inside.listed); is = h.inside.is } })
    (λ y h. elim (Contains-append_cases (take i spans) (get_or spans i d ∷ []) h.inside.span (subst (λ xs. Contains xs h.inside.span) more h.inside.listed)) [
      | inl m ↦ inl (record { residue = h.residue; turn = h.turn; is = h.is; inside = record { span = h.inside.span; listed = m; is = h.inside.is } })
      | inr m ↦ inr (record { residue = h.residue; turn = h.turn; is = h.is; inside = record { span = h.inside.span; listed = m; is = h.inside.is } })
    ])
  where
    more : take (i + 1) spans ≡ take i spans ++ get_or spans i d ∷ []
    more = take_more spans i d l

pub spans_all : (periods : Periods) (spans : List Span) (i : ℕ) (old new : List Edge) → length spans ≤ i → AddsEdges periods.least (SpansHaveNumber periods.whole (take i spans)) old new → AddsEdges periods.least (SpansHaveNumber periods.whole spans) old new
spans_all periods spans i old new l a = subst (λ xs. AddsEdges periods.least (SpansHaveNumber periods.whole xs) old new) (take_all i spans l) a

-- what the numbers of spans ask for holds of each span alone
pub edge_numbers_at : (periods : Periods) (spans : List Span) (s : Span) → Contains spans s → AreEdgeNumbers periods spans → AreEdgeNumbers periods (s ∷ [])
edge_numbers_at periods spans s l a = record {
  low = a.low;
  divides = a.divides;
  high = a.high;
  each = λ t m. a.each t (subst (Contains spans) (in_one s t m) l);
  below = λ t m. a.below t (subst (Contains spans) (in_one s t m) l);
  ends = λ t m. a.ends t (subst (Contains spans) (in_one s t m) l);
  small = λ x h. a.small x (record { residue = h.residue; turn = h.turn; is = h.is; inside = record { span = h.inside.span; listed = subst (Contains spans) (in_one s h.inside.span h.inside.listed) l; is = h.inside.is } });
}

-- ---- the residues that go on downwards
pub opens_begin : (period : ℕ) (residues : List ℕ) (old : List Edge) → AddsOpen period (take 0 residues) old old
opens_begin period residues old = record { to = λ e l. inl l; kept = λ e l. l; from = λ r _ l. absurd (in_none r l) }

module _ (period : ℕ) (residues : List ℕ) (i d : ℕ) (l : i < length residues) (old now : List Edge) (a : AddsOpen period (take i residues) old now) where
  abbrev edge : Edge
  edge = record { residue = get_or residues i d; number = None }

  more : take (i + 1) residues ≡ take i residues ++ get_or residues i d ∷ []
  more = take_more residues i d l

  wider : (r : ℕ) → Contains (take i residues) r → Contains (take (i + 1) residues) r
  wider r h = subst (λ xs. Contains xs r) (sym more) (Contains-append_left (take i residues) (get_or residues i d ∷ []) r h)

  cases : (r : ℕ) → Contains (take (i + 1) residues) r → Contains (take i residues) r ⊎ (get_or residues i d ≡ r)
  cases r h = elim (Contains-append_cases (take i residues) (get_or residues i d ∷ []) r (subst (λ xs. Contains xs r) more h)) [ inl m ↦ inl m | inr m ↦ inr (in_one (get_or residues i d) r m) ]

  pub opens_next : get_or residues i d < period → AddsOpen period (take (i + 1) residues) old (now ++ record { residue = get_or residues i d; number = None } ∷ [])
  opens_next below = record {
    to = λ e h. elim (Contains-append_cases now (edge ∷ []) e h) [
      | inl m ↦ elim (a.to e m) [ inl o ↦ inl o | inr o ↦ inr (o.0, o.1, wider e.residue o.2) ]
      | inr m ↦ inr (subst (λ (f : Edge). (f.number ≡ None) × (f.residue < period) × Contains (take (i + 1) residues) f.residue) (in_one edge e m) (refl, below, here))
    ];
    kept = λ e h. Contains-append_left now (edge ∷ []) e (a.kept e h);
    from = λ r rl h. elim (cases r h) [
      | inl m ↦ Contains-append_left now (edge ∷ []) (record { residue = r; number = None }) (a.from r rl m)
      | inr m ↦ subst (λ q. Contains (now ++ edge ∷ []) (record { residue = q; number = None })) m (Contains-append_right now (edge ∷ []) edge (one_in edge))
    ];
  }
    where
      here : Contains (take (i + 1) residues) (get_or residues i d)
      here = subst (λ xs. Contains xs (get_or residues i d)) (sym more) (Contains-append_right (take i residues) (get_or residues i d ∷ []) (get_or residues i d) (one_in (get_or residues i d)))

  pub opens_past : period ≤ get_or residues i d → AddsOpen period (take (i + 1) residues) old now
  opens_past above = record {
    to = λ e h. elim (a.to e h) [ inl o ↦ inl o | inr o ↦ inr (o.0, o.1, wider e.residue o.2) ];
    kept = a.kept;
    from = λ r rl h. elim (cases r h) [
      | inl m ↦ a.from r rl m
      | inr m ↦ absurd (omega (arith, rl, m, above))
    ];
  }

pub opens_all : (period : ℕ) (residues : List ℕ) (i : ℕ) (old new : List Edge) → length residues ≤ i → AddsOpen period (take i residues) old new → AddsOpen period residues old new
opens_all period residues i old new l a = subst (λ xs. AddsOpen period xs old new) (take_all i residues l) a

-- ---- all edges in order
module _ (periods : Periods) (spans : List Span) (is : AreRepeating periods spans) where
  abbrev set : ℤ → Type 0
  set = SpansHaveNumber periods.whole spans

  pub beginnings_are : (residues : List ℕ) (starts : List Span) (none some now edges : List Edge) → AreOpenBelow spans residues → AreEdgeSpans periods.whole (Begins (SpansHaveNumber periods.whole spans) periods.least) starts → none ≡ []
      → AddsOpen periods.least residues none some → AddsEdges periods.least (SpansHaveNumber periods.whole starts) some now → AreInOrder now edges → AreBeginnings (SpansHaveNumber periods.whole spans) periods.least edges
  beginnings_are residues starts none some now edges are ends e a b order = record {
    apart = order.apart;
    below = λ f l. elim (kinds f l) [ inl o ↦ o.1 | inr o ↦ o.2.below ];
    to = λ f l. elim (kinds f l) [
      | inl o ↦ subst (IsBeginning (SpansHaveNumber periods.whole spans) periods.least f.residue) (sym o.0) (open_down periods.whole (2 ^ 62) periods.least (2 ^ 62 - periods.whole + 1) spans is.positive is.low is.divides is.ordered.each is.below is.repeats residues are f.residue o.2 o.1)
      | inr o ↦ subst (IsBeginning (SpansHaveNumber periods.whole spans) periods.least f.residue) (sym o.2.number) (ends.to o.0 o.1, o.2.residue)
    ];
    from = λ x s. (let f = b.from x (ends.from x s) in (f.0, f.1, order.from f.0 f.2));
    down = λ r g. order.from (record { residue = r; number = None }) (b.kept (record { residue = r; number = None })
        (a.from r g.below (down_open periods.whole (2 ^ 62) periods.least (2 ^ 62 - periods.whole + 1) spans is.positive is.low is.divides is.ordered.each is.below is.repeats residues are r
        (let p : periods.least ≤ periods.whole = step_of periods spans is in let q : r < periods.least = g.below in omega (arith, p, q)) g)));
    small = λ f l. elim (kinds f l) [
      | inl o ↦ subst (AtMost (2 ^ 62)) (sym o.0) tt
      | inr o ↦ subst (AtMost (2 ^ 62)) (sym o.2.number) (ends.small o.0 o.1)
    ];
  }
    where
      kinds : (f : Edge) → Contains edges f → ((f.number ≡ None) × (f.residue < periods.least) × Contains residues f.residue) ⊎ ((x : ℤ) × SpansHaveNumber periods.whole starts x × IsEdgeAt periods.least x f)
      kinds f l = elim (b.to f (order.to f l)) [
        | inl m ↦ elim (a.to f m) [ inl o ↦ absurd (in_none f (subst (λ xs. Contains xs f) e o)) | inr o ↦ inl o ]
        | inr m ↦ inr m
      ]

  pub stops_edges : (ends : List Span) (none now edges : List Edge) → AreEdgeSpans periods.whole (StopsAt (SpansHaveNumber periods.whole spans) periods.least) ends → none ≡ []
      → AddsEdges periods.least (SpansHaveNumber periods.whole ends) none now → AreInOrder now edges → AreStops (SpansHaveNumber periods.whole spans) periods.least edges
  stops_edges ends none now edges are e a order = record {
    apart = order.apart;
    to = λ f l. elim (a.to f (order.to f l)) [
      | inl m ↦ absurd (in_none f (subst (λ xs. Contains xs f) e m))
      | inr m ↦ (m.0, are.to m.0 m.1, m.2)
    ];
    from = λ x s. (let f = a.from x (are.from x s) in (f.0, f.1, order.from f.0 f.2));
    small = λ f x l q. elim (a.to f (order.to f l)) [
      | inl m ↦ absurd (in_none f (subst (λ xs. Contains xs f) e m))
      | inr m ↦ (let v : Some m.0 ≡ Some x = sym m.2.number ∙ q in subst (AtMost (2 ^ 62)) v (are.small m.0 m.1))
    ];
  }
