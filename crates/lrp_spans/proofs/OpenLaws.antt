-- The residues of spans without an end, span by span.
use Rattle.std.proofs.Common.{◌≡◌, ℕ, ◌+◌, ◌<◌, ◌⊎◌, inl, inr, List, [], ◌∷◌, ◌++◌, Option, Some, None, get_or, length, subst, sym, take}
use Rattle.std.specs.Prelude.{ℤ, AllPairs, Bool, Contains, false, is_some, not}
use Rattle.std.proofs.lemmas.List.{get_or_default, take_more}
use Rattle.std.proofs.lemmas.List.Elements.{Contains-append_cases, Contains-append_left, Contains-append_right}
use Rattle.lrp_spans.specs.declared.spans.Span.{Span}
use Rattle.lrp_spans.specs.Spans.{AreBefore, AreOpen, SpanComesBefore}
use Rattle.lrp_spans.proofs.Lists.{before, in_one, one_in, pairs_append, pairs_one}

some_is : (e : Option ℤ) (a : ℤ) → e ≡ None → e ≡ Some a → ⊥
some_is e a p q = cc

-- the spans before a place come before the span there
pub earlier : (spans : List Span) (i : ℕ) (d : Span) → i < length spans → AllPairs SpanComesBefore spans → AreBefore (take i spans) (get_or spans i d)
earlier spans i d l all v h = before SpanComesBefore spans i (get_or spans i d) all l (get_or_default spans i d (get_or spans i d) l) v h

-- no span without a last turn comes before one of its residue, and none comes before one without a first turn
pub last_apart : (s t : Span) → s.last ≡ None → t.last ≡ None → SpanComesBefore s t → s.residue < t.residue
last_apart s t p q (inl b) = b
last_apart s t p q (inr b) = absurd (some_is s.last b.1.end p b.1.ends)

pub first_apart : (s t : Span) → s.first ≡ None → t.first ≡ None → SpanComesBefore s t → s.residue < t.residue
first_apart s t p q (inl b) = b
first_apart s t p q (inr b) = absurd (some_is t.first b.1.start q b.1.starts)

module _ (open_end : Span → Option ℤ) (apart : (s t : Span) → open_end s ≡ None → open_end t ≡ None → SpanComesBefore s t → s.residue < t.residue) (spans : List Span) (i : ℕ) (d : Span) (l : i < length spans) (all : AllPairs SpanComesBefore spans) (residues : List ℕ) where
  more : take (i + 1) spans ≡ take i spans ++ get_or spans i d ∷ []
  more = take_more spans i d l

  either : (s : Span) → Contains (take (i + 1) spans) s → Contains (take i spans) s ⊎ (get_or spans i d ≡ s)
  either s m = elim (Contains-append_cases (take i spans) (get_or spans i d ∷ []) s (subst (λ x. Contains x s) more m)) [ inl a ↦ inl a | inr a ↦ inr (in_one (get_or spans i d) s a) ]

  earlier_in : (s : Span) → Contains (take i spans) s → Contains (take (i + 1) spans) s
  earlier_in s m = subst (λ x. Contains x s) (sym more) (Contains-append_left (take i spans) (get_or spans i d ∷ []) s m)

  here_in : Contains (take (i + 1) spans) (get_or spans i d)
  here_in = subst (λ x. Contains x (get_or spans i d)) (sym more) (Contains-append_right (take i spans) (get_or spans i d ∷ []) (get_or spans i d) (one_in (get_or spans i d)))

  -- of a span without that end the residue is greater than those before
  pub open_more : open_end (get_or spans i d) ≡ None → AreOpen open_end (take i spans) residues → AreOpen open_end (take (i + 1) spans) (residues ++ (get_or spans i d).residue ∷ [])
  open_more e o = record {
    ascending = pairs_append ◌<◌ residues ((get_or spans i d).residue ∷ []) o.ascending (pairs_one ◌<◌ (get_or spans i d).residue) (λ x y a b. subst (λ z. x < z) (in_one (get_or spans i d).residue y b) (lesser x a));
    to = λ r m. elim (Contains-append_cases residues ((get_or spans i d).residue ∷ []) r m) [
      | inl a ↦ (let t = o.to r a in (t.0, earlier_in t.0 t.1, t.2, t.3))
      | inr a ↦ (get_or spans i d, here_in, in_one (get_or spans i d).residue r a, e)
    ];
    from = λ s m f. elim (either s m) [
      | inl a ↦ Contains-append_left residues ((get_or spans i d).residue ∷ []) s.residue (o.from s a f)
      | inr a ↦ subst (λ t. Contains (residues ++ (get_or spans i d).residue ∷ []) t.residue) a (Contains-append_right residues ((get_or spans i d).residue ∷ []) (get_or spans i d).residue (one_in (get_or spans i d).residue))
    ];
  }
    where
      lesser : (x : ℕ) → Contains residues x → x < (get_or spans i d).residue
      lesser x a =
          let t = o.to x a in
          subst (λ z. z < (get_or spans i d).residue) t.2 (apart t.0 (get_or spans i d) t.3 e (earlier spans i d l all t.0 t.1))

  pub open_same : (open_end (get_or spans i d) ≡ None → ⊥) → AreOpen open_end (take i spans) residues → AreOpen open_end (take (i + 1) spans) residues
  open_same out o = record {
    ascending = o.ascending;
    to = λ r m. (let t = o.to r m in (t.0, earlier_in t.0 t.1, t.2, t.3));
    from = λ s m f. elim (either s m) [ inl a ↦ o.from s a f | inr a ↦ absurd (out (subst (λ t. open_end t ≡ None) (sym a) f)) ];
  }

pub none_not : (e : Option ℤ) (b : Bool) → is_some e ≡ not b → b ≡ false → e ≡ None → ⊥
none_not (Some a) b s f n = absurd (cc)
none_not None b s f n = let k : false ≡ not false = subst (λ x. false ≡ not x) f s in absurd (cc)
