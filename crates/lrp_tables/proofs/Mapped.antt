-- Many cells of one kind give as many of another.
use Rattle.std.proofs.Common.{◌≡◌, ℕ, zero, suc, ◌<◌, List, [], ◌∷◌, length, map, refl, sym, ap, subst, ◌∙◌, arith}
use Rattle.std.specs.Prelude.{AllPairs, get_or}
use Rattle.std.specs.List.{AllByRecursion}
use Rattle.std.proofs.lemmas.List.{length-map}
use Rattle.lrp_model.specs.Cells.{Many}

at_map : {C D : Type 0} (f : C → D) (xs : List C) (i : ℕ) (d : D) (c : C) → i < length xs → get_or (map f xs) i d ≡ f (get_or xs i c)
at_map f [] i d c lt = absurd (omega arith)
at_map f (x ∷ xs) zero d c lt = refl
at_map f (x ∷ xs) (suc i) d c lt = at_map f xs i d c (omega arith)

each_at : {C : Type 0} (p : C → Type 0) (xs : List C) (i : ℕ) (c : C) → i < length xs → AllByRecursion p xs → p (get_or xs i c)
each_at p [] i c lt h = absurd (omega arith)
each_at p (x ∷ xs) zero c lt h = h.0
each_at p (x ∷ xs) (suc i) c lt h = each_at p xs i c (omega arith) h.1

some_of : {C : Type 0} (xs : List C) (i : ℕ) → i < length xs → C
some_of [] i lt = absurd (omega arith)
some_of (x ∷ xs) i lt = x

each_map : {C D : Type 0} (f : C → D) (p : C → Type 0) (q : D → Type 0) (xs : List C) → ((c : C) → p c → q (f c)) → AllByRecursion p xs → AllByRecursion q (map f xs)
each_map f p q [] h a = tt
each_map f p q (x ∷ xs) h a = (h x a.0, each_map f p q xs h a.1)

module _ {C D : Type 0} (f : C → D) (differ : C → C → Type 0) (apart : D → D → Type 0) (p : C → Type 0) (q : D → Type 0)
    (moves : (c : C) → p c → q (f c)) (parts : (a b : C) → p a → p b → differ a b → apart (f a) (f b)) where
  pairs : (xs : List C) → AllByRecursion p xs → AllPairs differ xs → AllPairs apart (map f xs)
  pairs xs h a i j d lt below =
      let inside : j < length xs = subst (λ n. j < n) (length-map xs f) below in
      let first : i < length xs = omega (arith, inside, lt) in
      let c : C = some_of xs j inside in
      let r : apart (f (get_or xs i c)) (f (get_or xs j c)) = parts _ _ (each_at p xs i c first h) (each_at p xs j c inside h) (a i j c lt inside) in
      subst (λ x. apart x (get_or (map f xs) j d)) (sym (at_map f xs i d c first)) (subst (λ y. apart (f (get_or xs i c)) y) (sym (at_map f xs j d c inside)) r)

  -- cells are moved to cells, and different ones to different ones
  pub many_map : (cap : ℕ) → Many differ p cap → Many apart q cap
  many_map cap m = record { cells = map f m.cells; count = length-map m.cells f ∙ m.count; apart = pairs m.cells m.each m.apart; each = each_map f p q m.cells moves m.each }

-- cells with what is known of them
module _ {C : Type 0} (p : C → Type 0) where
  abbrev pub Known : Type 0
  Known = (c : C) × p c

  abbrev pack : (xs : List C) → AllByRecursion p xs → List Known
  pack [] h = []
  pack (x ∷ xs) h = (x, h.0) ∷ pack xs h.1

  pack_length : (xs : List C) (h : AllByRecursion p xs) → length (pack xs h) ≡ length xs
  pack_length [] h = refl
  pack_length (x ∷ xs) h = ap suc (pack_length xs h.1)

  pack_at : (xs : List C) (h : AllByRecursion p xs) (i : ℕ) (d : Known) → get_or xs i d.0 ≡ (get_or (pack xs h) i d).0
  pack_at [] h i d = refl
  pack_at (x ∷ xs) h zero d = refl
  pack_at (x ∷ xs) h (suc i) d = pack_at xs h.1 i d

  pack_each : (xs : List C) (h : AllByRecursion p xs) → AllByRecursion (λ k. Unit {0}) (pack xs h)
  pack_each [] h = tt
  pack_each (x ∷ xs) h = (tt, pack_each xs h.1)

  -- as many cells, with what is known of each
  pub many_known : (differ : C → C → Type 0) (cap : ℕ) → Many differ p cap → Many {C = Known} (λ a b. differ a.0 b.0) (λ k. Unit {0}) cap
  many_known differ cap m = record {
    cells = pack m.cells m.each;
    count = pack_length m.cells m.each ∙ m.count;
    apart = λ i j d lt below.
        let r : differ (get_or m.cells i d.0) (get_or m.cells j d.0) = m.apart i j d.0 lt (subst (λ n. j < n) (pack_length m.cells m.each) below) in
        subst (λ x. differ x (get_or (pack m.cells m.each) j d).0) (pack_at m.cells m.each i d) (subst (λ y. differ (get_or m.cells i d.0) y) (pack_at m.cells m.each j d) r);
    each = pack_each m.cells m.each;
  }
