-- Definitions with the numbers of their texts.
use Rattle.std.proofs.Common.{◌≡◌, ℕ, zero, suc, ◌+◌, ◌<◌, ◌≤◌, Option, Some, None, List, [], ◌∷◌, ◌++◌, map, length, take, get_or, slice_get, refl, ap, ap₂, sym, subst, ◌∙◌, arith}
use Rattle.lrp_model.specs.declared.relations.Relation.{Relation}
use Rattle.lrp_wide.specs.Counts.{AreRelationsNumbered, IsRelationNumbered, stopped, stopped_counts}
use Rattle.lrp_wide.specs.Inlining.{Counted, Known, atom_numbers, numbers_of, star_total}
use Rattle.lrp_model.specs.declared.raw.RawTerm.{RawTerm}
use Rattle.lrp_model.specs.declared.relations.Column.{Column}
use Rattle.lrp_wide.proofs.NumberStops.{stopped-sum}

-- their numbers are those that are kept
pub numbered-counted : (ks : List Known) (ds : List Relation) (ns : List (List Counted)) → AreRelationsNumbered ks ds ns → ns ≡ map (λ (k : Known). stopped_counts k.counted) ks
numbered-counted [] ds ns h = h
numbered-counted (k ∷ ks) [] ns h = absurd h
numbered-counted (k ∷ ks) (d ∷ ds) [] h = absurd h
numbered-counted (k ∷ ks) (d ∷ ds) (n ∷ ns) h = ap₂ (λ x l. x ∷ l) h.0.counted (numbered-counted ks ds ns h.1)

-- their names
pub numbered-names : (ks : List Known) (ds : List Relation) (ns : List (List Counted)) → AreRelationsNumbered ks ds ns → map (λ (r : Relation). r.name) (take (length ns) ds) ≡ map (λ (k : Known). k.name) ks
numbered-names [] ds ns h = ap (λ (l : List (List Counted)). map (λ (r : Relation). r.name) (take (length l) ds)) h
numbered-names (k ∷ ks) [] ns h = absurd h
numbered-names (k ∷ ks) (d ∷ ds) [] h = absurd h
numbered-names (k ∷ ks) (d ∷ ds) (n ∷ ns) h = ap₂ (λ x l. x ∷ l) h.0.name (numbered-names ks ds ns h.1)

-- one of them
pub numbered-at : (ks : List Known) (ds : List Relation) (ns : List (List Counted)) (i : ℕ) (k : Known) (r : Relation) (n : List Counted) → AreRelationsNumbered ks ds ns
    → slice_get ks i ≡ Some k → slice_get ds i ≡ Some r → slice_get ns i ≡ Some n → IsRelationNumbered k (r, n)
numbered-at [] ds ns i k r n h a b c = absurd cc
numbered-at (x ∷ ks) [] ns i k r n h a b c = absurd h
numbered-at (x ∷ ks) (d ∷ ds) [] i k r n h a b c = absurd h
numbered-at (x ∷ ks) (d ∷ ds) (m ∷ ns) zero k r n h a b c =
    let p : Some x ≡ Some k = a in
    let q : Some d ≡ Some r = b in
    let o : Some m ≡ Some n = c in
    let e : x ≡ k = cc in
    let f : d ≡ r = cc in
    let g : m ≡ n = cc in
    record {
      name = ap (λ (y : Relation). y.name) (sym f) ∙ h.0.name ∙ ap (λ (y : Known). y.name) e;
      columns = ap (λ (y : Relation). y.columns) (sym f) ∙ h.0.columns ∙ ap (λ (y : Known). y.columns) e;
      counted = sym g ∙ h.0.counted ∙ ap (λ (y : Known). stopped_counts y.counted) e;
    }
numbered-at (x ∷ ks) (d ∷ ds) (m ∷ ns) (suc i) k r n h a b c = numbered-at ks ds ns i k r n h.1 a b c

-- there is one for each number
pub numbered-length : (ks : List Known) (ds : List Relation) (ns : List (List Counted)) → AreRelationsNumbered ks ds ns → length ks ≡ length ns
numbered-length [] ds ns h = sym (ap length h)
numbered-length (k ∷ ks) [] ns h = absurd h
numbered-length (k ∷ ks) (d ∷ ds) [] h = absurd h
numbered-length (k ∷ ks) (d ∷ ds) (n ∷ ns) h = ap suc (numbered-length ks ds ns h.1)

-- one more
pub numbered-more : (ks : List Known) (ds : List Relation) (ns : List (List Counted)) (k : Known) (r : Relation) (n : List Counted) → AreRelationsNumbered ks ds ns
    → slice_get ds (length ks) ≡ Some r → IsRelationNumbered k (r, n) → AreRelationsNumbered (ks ++ k ∷ []) ds (ns ++ n ∷ [])
numbered-more [] [] ns k r n h e i = absurd cc
numbered-more [] (d ∷ ds) ns k r n h e i =
    let s : Some d ≡ Some r = e in
    let same : d ≡ r = cc in
    let one : IsRelationNumbered k (d, n) = record { name = ap (λ (y : Relation). y.name) same ∙ i.name; columns = ap (λ (y : Relation). y.columns) same ∙ i.columns; counted = i.counted } in
    subst (λ (l : List (List Counted)). AreRelationsNumbered (k ∷ []) (d ∷ ds) (l ++ n ∷ [])) (sym h) (one, refl)
numbered-more (x ∷ ks) [] ns k r n h e i = absurd h
numbered-more (x ∷ ks) (d ∷ ds) [] k r n h e i = absurd h
numbered-more (x ∷ ks) (d ∷ ds) (m ∷ ns) k r n h e i = (h.0, numbered-more ks ds ns k r n h.1 e i)

-- an element of a list, by its index
pub got : {X : Type 0} (xs : List X) (i : ℕ) (x : X) → i < length xs → x ≡ get_or xs i x → slice_get xs i ≡ Some x
got [] i x lt e = absurd (omega (arith, lt))
got (y ∷ xs) zero x lt e = ap Some (sym e)
got (y ∷ xs) (suc i) x lt e = got xs i x (omega (arith, lt)) e

pub got-map : {X Y : Type 0} (f : X → Y) (xs : List X) (i : ℕ) (x : X) → slice_get xs i ≡ Some x → slice_get (map f xs) i ≡ Some (f x)
got-map f [] i x e = absurd cc
got-map f (y ∷ xs) zero x e = let s : Some y ≡ Some x = e in let same : y ≡ x = cc in ap (λ z. Some (f z)) same
got-map f (y ∷ xs) (suc i) x e = got-map f xs i x e

-- an element and its index
pub record IsAt {X : Type 0} (xs : List X) (i : ℕ) : Type 0 where
  pub entry : X
  pub is : slice_get xs i ≡ Some entry

pub at_below : {X : Type 0} (xs : List X) (i : ℕ) → i < length xs → IsAt xs i
at_below [] i lt = absurd (omega (arith, lt))
at_below (x ∷ xs) zero lt = record { entry = x; is = refl }
at_below (x ∷ xs) (suc i) lt = let h = at_below xs i (omega (arith, lt)) in record { entry = h.entry; is = h.is }

-- how many numbers a use takes
pub use-numbers : (columns : List Column) (ts : List RawTerm) (o : Option Known) (k : Known) (r : Relation) (n : List Counted) (one stars taken : ℕ) → o ≡ Some k → IsRelationNumbered k (r, n)
    → stars ≡ star_total r.columns ts → one ≡ stopped (stars + 1) → taken ≡ stopped (one + stopped (numbers_of n)) → taken ≡ stopped (atom_numbers columns ts o)
use-numbers columns ts o k r n one stars taken e i s f g =
    let a : star_total r.columns ts ≡ star_total k.columns ts = ap (λ cs. star_total cs ts) i.columns in
    let b : stopped (numbers_of n) ≡ stopped (numbers_of k.counted) = ap (λ cs. stopped (numbers_of cs)) i.counted ∙ stopped-sum k.counted in
    let t : taken ≡ stopped (suc (star_total k.columns ts + numbers_of k.counted)) = omega (arith, s, f, g, a, b) in
    t ∙ ap (λ m. stopped (atom_numbers columns ts m)) (sym e)
