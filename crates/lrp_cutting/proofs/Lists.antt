-- Lists of zones: what is in them, and pairs of their elements.
use Rattle.std.proofs.Common.{zero, suc, take, drop, ap, ◌∙◌, add-zero, zero-add, ◌≡◌, ℕ, ◌+◌, ◌-◌, ◌<◌, ◌≤◌, ◌⊎◌, inl, inr, List, [], ◌∷◌, ◌++◌, length, get_or, arith, refl, sym, subst}
use Rattle.std.specs.Prelude.{ℤ, pos, Contains, slice_get, Some, Result, Ok, Err, IfOk, OnOk}
use Rattle.std.specs.List.{range_with_len}
use Rattle.std.proofs.lemmas.List.{length-drop}
use Rattle.std.proofs.lemmas.List.Elements.{Contains-append_left, Contains-append_right, Contains-append_cases}
use Rattle.std.proofs.lemmas.List.FromFn.{length-range_with_len, get_or-range_with_len}
use Rattle.std.proofs.lemmas.Option.{slice_get_within, get_or_from_slice_get}
use Rattle.lrp_zone.specs.Zones.{ZoneView, IsMember, reach_of}
use Rattle.lrp_store.specs.Settled.{InSome}
use Rattle.lrp_zone.specs.Pairs.{IsOfCell}
use Rattle.lrp_cutting.specs.Differences.{greatest_reach, AreOfCell}
pub use Rattle.lrp_theory.proofs.Members.{pairs_append, below_or, in_none, in_one, one_in, in_cons, later, head_in, in_flat, from_flat, in_map, from_map, pairs_one, pairs_none, before, front_more}

-- ---- tuples in some zone of a list
pub in_left : (xs ys : List ZoneView) (t : List ℤ) → InSome xs t → InSome (xs ++ ys) t
in_left xs ys t h = record { zone = h.zone; listed = Contains-append_left xs ys h.zone h.listed; inside = h.inside }

pub in_right : (xs ys : List ZoneView) (t : List ℤ) → InSome ys t → InSome (xs ++ ys) t
in_right xs ys t h = record { zone = h.zone; listed = Contains-append_right xs ys h.zone h.listed; inside = h.inside }

pub in_either : (xs ys : List ZoneView) (t : List ℤ) → InSome (xs ++ ys) t → InSome xs t ⊎ InSome ys t
in_either xs ys t h = elim (Contains-append_cases xs ys h.zone h.listed) [
  | inl a ↦ inl (record { zone = h.zone; listed = a; inside = h.inside })
  | inr b ↦ inr (record { zone = h.zone; listed = b; inside = h.inside })
]

pub in_this : (z : ZoneView) (t : List ℤ) → IsMember z t → InSome (z ∷ []) t
in_this z t h = record { zone = z; listed = one_in z; inside = h }

pub this_has : (z : ZoneView) (t : List ℤ) → InSome (z ∷ []) t → IsMember z t
this_has z t h = subst (λ w. IsMember w t) (sym (in_one z h.zone h.listed)) h.inside

pub in_nothing : (t : List ℤ) → InSome [] t → ⊥
in_nothing t h = in_none h.zone h.listed

-- ---- the greatest reach
pub reach_below : (zs : List ZoneView) (z : ZoneView) → Contains zs z → reach_of z ≤ greatest_reach zs
reach_below [] z h = absurd (in_none z h)
reach_below (y ∷ ys) z h = elim (in_cons y ys z h) [
  | inl e ↦ rw (← e) (omega arith)
  | inr t ↦ (let b : reach_of z ≤ greatest_reach ys = reach_below ys z t in omega arith)
]

pub greatest_below : (zs : List ZoneView) (h : ℕ) → ((z : ZoneView) → Contains zs z → reach_of z ≤ h) → greatest_reach zs ≤ h
greatest_below [] h each = omega arith
greatest_below (y ∷ ys) h each =
    let a : reach_of y ≤ h = each y (Contains-append_left (y ∷ []) ys y (one_in y)) in
    let b : greatest_reach ys ≤ h = greatest_below ys h (λ z l. each z (later y ys z l)) in
    omega arith

-- ---- the front of a list
-- a list whose front agrees with another list has that list as its front
pub front_is : (xs ys : List ℤ) → length ys ≤ length xs → ((k : ℕ) → k < length ys → get_or xs k (pos 0) ≡ get_or ys k (pos 0)) → take (length ys) xs ≡ ys
front_is xs [] l same = refl
front_is [] (y ∷ ys) l same = absurd (omega arith)
front_is (x ∷ xs) (y ∷ ys) l same =
    let head : x ≡ y = same 0 (omega arith) in
    let tail : take (length ys) xs ≡ ys = front_is xs ys (omega arith) (λ k kl. same (suc k) (omega arith)) in
    rw (head, tail) refl

-- the numbers from one on, with one more
pub range_more : (a n : ℕ) → range_with_len a (suc n) ≡ range_with_len a n ++ (a + n) ∷ []
range_more a zero = rw add-zero refl
range_more a (suc n) =
    let t : range_with_len (a + 1) (suc n) ≡ range_with_len (a + 1) n ++ (a + 1 + n) ∷ [] = range_more (a + 1) n in
    let e : a + 1 + n ≡ a + suc n = omega arith in
    rw (← e) (ap (λ l. a ∷ l) t)

-- the numbers below n are listed
pub in_range : (n i : ℕ) → i < n → Contains (range_with_len 0 n) i
in_range n i l = (i, rw (length-range_with_len 0 n) l, get_or-range_with_len 0 n i i l ∙ zero-add i)

-- what is read at a place is in the list
pub read : {X : Type 0} (xs : List X) (i : ℕ) (x : X) → i < length xs → x ≡ get_or xs i x → Contains xs x
read xs i x l e = (i, l, sym e)

-- what an Ok holds, and what follows of it
pub if_ok : {T E : Type 0} (P Q : T → Type 0) (r : Result T E) → ((x : T) → P x → Q x) → IfOk r P → IfOk r Q
if_ok P Q (Ok x) f h = f x h
if_ok P Q (Err e) f h = tt

pub on_ok : {T E : Type 0} (P Q : Type 0) (r : Result T E) → (P → Q) → OnOk r P → OnOk r Q
on_ok P Q (Ok x) f h = f h
on_ok P Q (Err e) f h = tt

pub reach_push : (zs : List ZoneView) (z : ZoneView) (h : ℕ) → greatest_reach zs ≤ h → reach_of z ≤ h → greatest_reach (zs ++ z ∷ []) ≤ h
reach_push zs z h a b = greatest_below (zs ++ z ∷ []) h (λ w l. elim (Contains-append_cases zs (z ∷ []) w l) [
  | inl k ↦ (let r : reach_of w ≤ greatest_reach zs = reach_below zs w k in omega arith)
  | inr k ↦ subst (λ y. reach_of y ≤ h) (in_one z w k) b
])

pub cells_push : (z : ZoneView) (zs : List ZoneView) (w : ZoneView) → AreOfCell z zs → IsOfCell z w → AreOfCell z (zs ++ w ∷ [])
cells_push z zs w a c = record {
  each = λ v l. elim (Contains-append_cases zs (w ∷ []) v l) [
    | inl k ↦ a.each v k
    | inr k ↦ subst (λ y. IsOfCell z y) (in_one w v k) c
  ];
}

-- what stands after the first element of a list, as in the whole list
pub after_first : {X : Type 0} (all : List X) (x : X) (xs : List X) (i : ℕ) (y : X) → all ≡ x ∷ xs → i < length xs → y ≡ get_or xs i y → take (i + 1 + 1) all ≡ take (i + 1) all ++ y ∷ []
after_first all x xs i y e l q =
    let on : i + 1 ≡ suc i = omega arith in
    let here : y ≡ get_or (x ∷ xs) (i + 1) y = q ∙ ap (λ n. get_or (x ∷ xs) n y) (sym on) in
    rw e (front_more (x ∷ xs) (i + 1) y (omega arith) here)

-- and is in the whole list
pub rest_in : {X : Type 0} (all : List X) (x : X) (xs : List X) (y : X) → all ≡ x ∷ xs → Contains xs y → Contains all y
rest_in all x xs y e l = rw e (later x xs y l)

pub first_in : {X : Type 0} (all : List X) (x : X) (xs : List X) → all ≡ x ∷ xs → Contains all x
first_in all x xs e = rw e (head_in x xs)

-- a list that is not empty has an element
pub some_in : {X : Type 0} (xs : List X) → 0 < length xs → (x : X) × Contains xs x
some_in [] l = absurd (omega arith)
some_in (x ∷ xs) l = (x, head_in x xs)

-- a list of one
pub one_of : {X : Type 0} (xs : List X) → length xs ≡ 1 → (x : X) × (xs ≡ x ∷ [])
one_of [] h = absurd (omega arith)
one_of (x ∷ []) h = (x, refl)
one_of (x ∷ y ∷ ys) h = absurd (omega arith)

-- what is read at a place is in the list
pub got_in : {X : Type 0} (xs : List X) (i : ℕ) (x : X) → slice_get xs i ≡ Some x → Contains xs x
got_in xs i x e = (i, slice_get_within xs i x e, get_or_from_slice_get xs i x x e)

-- a list was read up to a place, of which something holds
pub record IsReadTo {X : Type 0} (P : ℕ → Type 0) (all left : List X) : Type 0 where
  pub place : ℕ
  pub within : place ≤ length all
  pub rest : left ≡ drop place all
  pub holds : P place

-- the place where reading begins
pub read_begins : {X : Type 0} (P : ℕ → Type 0) (all left : List X) → left ≡ all → P 0 → IsReadTo P all left
read_begins P all left e p = record { place = 0; within = omega arith; rest = e; holds = p }

drop_next : {X : Type 0} (all : List X) (n : ℕ) (x : X) (rest : List X) → drop n all ≡ x ∷ rest → (slice_get all n ≡ Some x) × (n < length all) × (drop (n + 1) all ≡ rest)
drop_next [] zero x rest e = cc
drop_next [] (suc n) x rest e = cc
drop_next (y ∷ all) zero x rest e = let same : y ≡ x = cc in let tail : all ≡ rest = cc in (ap Some same, omega arith, tail)
drop_next (y ∷ all) (suc n) x rest e = let g = drop_next all n x rest e in let l : n < length all = g.1 in let later : suc n + 1 ≡ suc (n + 1) = omega arith in (g.0, omega arith, ap (λ m. drop m (y ∷ all)) later ∙ g.2)

-- what stands there is read next
pub read_next : {X : Type 0} (P : ℕ → Type 0) (all left : List X) (r : IsReadTo P all left) (x : X) (rest : List X) → left ≡ x ∷ rest → slice_get all r.place ≡ Some x
read_next P all left r x rest e = (drop_next all r.place x rest (sym r.rest ∙ e)).0

-- and the place after it follows
pub read_goes : {X : Type 0} (P Q : ℕ → Type 0) (all left : List X) (r : IsReadTo P all left) (x : X) (rest : List X) → left ≡ x ∷ rest → Q (r.place + 1) → IsReadTo Q all rest
read_goes P Q all left r x rest e q =
    let g = drop_next all r.place x rest (sym r.rest ∙ e) in
    let l : r.place < length all = g.1 in
    record { place = r.place + 1; within = omega arith; rest = sym g.2; holds = q }

-- at the end all was read
pub read_ends : {X : Type 0} (P : ℕ → Type 0) (all left : List X) (r : IsReadTo P all left) → left ≡ [] → r.place ≡ length all
read_ends P all left r e =
    let n : length (drop r.place all) ≡ 0 = ap length (sym r.rest ∙ e) in
    let m : length (drop r.place all) ≡ length all - r.place = length-drop r.place all in
    let w = r.within in
    omega arith
