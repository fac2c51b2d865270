-- The greatest of matrices' bounds, matrix after matrix and pair after pair.
use Rattle.std.proofs.Common.{◌≡◌, ℕ, ◌⊎◌, inl, inr, List, [], ◌∷◌, ◌++◌, Option, Some, refl, sym, subst}
use Rattle.std.specs.Prelude.{ℤ, Contains}
use Rattle.std.proofs.lemmas.List.Elements.{Contains-append_cases, Contains-append_left, Contains-append_right}
use Rattle.lrp_theory.specs.Bounds.{Within}
use Rattle.lrp_theory.specs.Entries.{entry}
use Rattle.lrp_matrix.specs.Matrices.{MatrixView}
use Rattle.lrp_model.specs.declared.relations.Bound.{Bound}
use Rattle.lrp_zone.specs.Zones.{ZoneView, IsZone}
use Rattle.lrp_cutting.specs.declared.pairs.NodePair.{NodePair}
use Rattle.lrp_cutting.specs.Hulls.{IsClosureOf, AreClosures, IsWider, IsWidest, AppendsWidest, HasWidest, AreWidest}
use Rattle.lrp_cutting.proofs.Lists.{in_none, in_one, one_in}

-- ---- the closed bounds of zones, one after another
pub closures_none : AreClosures [] []
closures_none = record {
  valid = λ z l. absurd (in_none z l);
  to = λ z l. absurd (in_none z l);
  from = λ m l. absurd (in_none m l);
}

pub closures_more : (zs : List ZoneView) (ms : List MatrixView) (z : ZoneView) (m : MatrixView) → AreClosures zs ms → IsZone z → IsClosureOf z m → AreClosures (zs ++ z ∷ []) (ms ++ m ∷ [])
closures_more zs ms z m a valid c = record {
  valid = λ w l. elim (Contains-append_cases zs (z ∷ []) w l) [
    | inl k ↦ a.valid w k
    | inr k ↦ subst IsZone (in_one z w k) valid
  ];
  to = λ w l. elim (Contains-append_cases zs (z ∷ []) w l) [
    | inl k ↦ (let r : (n : MatrixView) × Contains ms n × IsClosureOf w n = a.to w k in (r.0, Contains-append_left ms (m ∷ []) r.0 r.1, r.2))
    | inr k ↦ (m, Contains-append_right ms (m ∷ []) m (one_in m), subst (λ y. IsClosureOf y m) (in_one z w k) c)
  ];
  from = λ n l. elim (Contains-append_cases ms (m ∷ []) n l) [
    | inl k ↦ (let r : (w : ZoneView) × Contains zs w × IsClosureOf w n = a.from n k in (r.0, Contains-append_left zs (z ∷ []) r.0 r.1, r.2))
    | inr k ↦ (z, Contains-append_right zs (z ∷ []) z (one_in z), subst (λ y. IsClosureOf z y) (in_one m n k) c)
  ];
}

-- ---- the greatest bound at a place, matrix after matrix
pub widest_one : (m : MatrixView) (i j : ℕ) (e : Option ℤ) → e ≡ entry m.cells i j → IsWidest (m ∷ []) i j e
widest_one m i j e q = record {
  to = λ d h. (m, one_in m, subst (λ o. Within d o) q h);
  from = λ d n l h. subst (λ o. Within d o) (sym q) (subst (λ x. Within d (entry x.cells i j)) (sym (in_one m n l)) h);
}

pub widest_more : (ms : List MatrixView) (m : MatrixView) (i j : ℕ) (e f g : Option ℤ) → IsWidest ms i j e → f ≡ entry m.cells i j → IsWider e f g → IsWidest (ms ++ m ∷ []) i j g
widest_more ms m i j e f g w q wide = record {
  to = λ d h. elim wide.one [
    | inl x ↦ (let r : (n : MatrixView) × Contains ms n × Within d (entry n.cells i j) = w.to d (subst (λ y. Within d y) x h) in (r.0, Contains-append_left ms (m ∷ []) r.0 r.1, r.2))
    | inr x ↦ (m, Contains-append_right ms (m ∷ []) m (one_in m), subst (λ o. Within d o) q (subst (λ y. Within d y) x h))
  ];
  from = λ d n l h. elim (Contains-append_cases ms (m ∷ []) n l) [
    | inl k ↦ wide.left d (w.from d n k h)
    | inr k ↦ wide.right d (subst (λ o. Within d o) (sym q) (subst (λ y. Within d (entry y.cells i j)) (sym (in_one m n k)) h))
  ];
}

-- ---- the bounds of the hull, pair after pair
-- a bound that was there is there
has_still : (ms : List MatrixView) (l r i j : ℕ) (old new : List Bound) → AppendsWidest ms l r old new → HasWidest ms old i j → HasWidest ms new i j
has_still ms l r i j old new a h = elim h.is [
  | inl n ↦ record { is = inl n }
  | inr s ↦ elim a.is [
    | inl same ↦ record { is = inr (s.0, s.1, subst (λ bs. Contains bs (record { left = i; right = j; most = s.0 })) (sym same.1) s.2) }
    | inr more ↦ record { is = inr (s.0, s.1, subst (λ bs. Contains bs (record { left = i; right = j; most = s.0 })) (sym more.2) (Contains-append_left old _ _ s.2)) }
  ]
]

-- the bound at the place is there now
has_now : (ms : List MatrixView) (i j : ℕ) (old new : List Bound) → AppendsWidest ms i j old new → HasWidest ms new i j
has_now ms i j old new a = elim a.is [
  | inl none ↦ record { is = inl none.0 }
  | inr more ↦ record { is = inr (more.0, more.1, subst (λ bs. Contains bs (record { left = i; right = j; most = more.0 })) (sym more.2) (Contains-append_right old _ _ (one_in (record { left = i; right = j; most = more.0 })))) }
]

-- what is there was there, or is the bound at the place
there_before : (ms : List MatrixView) (i j : ℕ) (old new : List Bound) → AppendsWidest ms i j old new → (b : Bound) → Contains new b → Contains old b ⊎ (IsWidest ms b.left b.right (Some b.most) × (b.left ≡ i) × (b.right ≡ j))
there_before ms i j old new a b l = elim a.is [
  | inl same ↦ inl (subst (λ bs. Contains bs b) same.1 l)
  | inr more ↦ elim (Contains-append_cases old (record { left = i; right = j; most = more.0 } ∷ []) b (subst (λ bs. Contains bs b) more.2 l)) [
    | inl k ↦ inl k
    | inr k ↦ inr (subst (λ x. IsWidest ms x.left x.right (Some x.most) × (x.left ≡ i) × (x.right ≡ j)) (in_one (record { left = i; right = j; most = more.0 }) b k) (more.1, refl, refl))
  ]
]

pub widest_start : (ms : List MatrixView) → AreWidest ms [] []
widest_start ms = record { all = λ p l. absurd (in_none p l); only = λ b l. absurd (in_none b l) }

pub widest_next : (ms : List MatrixView) (ps : List NodePair) (p : NodePair) (old mid new : List Bound) → AreWidest ms ps old → AppendsWidest ms p.left p.right old mid → AppendsWidest ms p.right p.left mid new → AreWidest ms (ps ++ p ∷ []) new
widest_next ms ps p old mid new w a b = record {
  all = λ q l. elim (Contains-append_cases ps (p ∷ []) q l) [
    | inl k ↦ (
      has_still ms p.right p.left q.left q.right mid new b (has_still ms p.left p.right q.left q.right old mid a (w.all q k).0),
      has_still ms p.right p.left q.right q.left mid new b (has_still ms p.left p.right q.right q.left old mid a (w.all q k).1),
    )
    | inr k ↦ subst (λ x. HasWidest ms new x.left x.right × HasWidest ms new x.right x.left) (in_one p q k) (has_still ms p.right p.left p.left p.right mid new b (has_now ms p.left p.right old mid a), has_now ms p.right p.left mid new b)
  ];
  only = λ c l. elim (there_before ms p.right p.left mid new b c l) [
    | inl k ↦ elim (there_before ms p.left p.right old mid a c k) [
      | inl m ↦ (let o = w.only c m in (o.0, (o.1.0, Contains-append_left ps (p ∷ []) o.1.0 o.1.1, o.1.2)))
      | inr m ↦ (m.0, (p, Contains-append_right ps (p ∷ []) p (one_in p), inl (m.1, m.2)))
    ]
    | inr k ↦ (k.0, (p, Contains-append_right ps (p ∷ []) p (one_in p), inr (k.1, k.2)))
  ];
}
