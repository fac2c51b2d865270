-- Relations with the keys of one of them changed, and rows under their keys.
use Rattle.std.proofs.Common.{◌≡◌, ◌≢◌, ◌<◌, ℕ, zero, suc, List, [], ◌∷◌, ◌++◌, length, take, drop, get_or, Result, Ok, Err, Some, refl, sym, ap, subst, ◌∙◌, arith}
use Rattle.std.specs.Prelude.{OnErr, slice_get, slice_set}
use Rattle.std.proofs.lemmas.List.{length-set}
use Rattle.std.proofs.lemmas.Option.{slice_get-get_or, slice_get_within}
use Rattle.lrp_kept.specs.Keys.{keys_at, keys_in}
use Rattle.lrp_kept.specs.Keyed.{AreRelisted, IsUnlisted}
use Rattle.lrp_kept.specs.declared.rows.HeldRelation.{HeldRelation}
use Rattle.lrp_kept.proofs.JoinedUp.{same_some}

set_elsewhere : {X : Type 0} (xs : List X) (n i : ℕ) (x : X) → i ≢ n → slice_get (slice_set xs n x) i ≡ slice_get xs i
set_elsewhere [] n i x d = refl
set_elsewhere (y ∷ ys) zero zero x d = absurd (d refl)
set_elsewhere (y ∷ ys) zero (suc i) x d = refl
set_elsewhere (y ∷ ys) (suc n) zero x d = refl
set_elsewhere (y ∷ ys) (suc n) (suc i) x d = set_elsewhere ys n i x (λ e. d (ap suc e))

set_there : {X : Type 0} (xs : List X) (n : ℕ) (x : X) → n < length xs → slice_get (slice_set xs n x) n ≡ Some x
set_there [] n x lt = absurd (omega (arith, lt))
set_there (y ∷ ys) zero x lt = refl
set_there (y ∷ ys) (suc n) x lt = set_there ys n x (omega (arith, lt))

-- ---- the keys of one relation

pub relation_there : (relations : List HeldRelation) (n : ℕ) (r : HeldRelation) → n < length relations → r ≡ get_or relations n r → slice_get relations n ≡ Some r
relation_there relations n r low is = slice_get-get_or relations n r low ∙ ap Some (sym is)

pub keys_here : (relations : List HeldRelation) (n : ℕ) (r : HeldRelation) → slice_get relations n ≡ Some r → keys_at relations n ≡ r.keys.items
keys_here relations n r there = ap keys_in there

pub if_err : {X Y : Type 0} {P : Type 0} (o : Result X Y) → P → OnErr o P
if_err (Ok x) p = tt
if_err (Err x) p = p

pub relisted : (old new : List HeldRelation) (n : ℕ) (r s : HeldRelation) (keys : List ℕ) → slice_get old n ≡ Some r → new ≡ slice_set old n s → s.name ≡ r.name → s.columns ≡ r.columns → s.most ≡ r.most → s.keys.items ≡ keys → AreRelisted n keys old new
relisted old new n r s keys there is name columns most keys_are = subst (λ l. AreRelisted n keys old l) (sym is) (record {
  count = length-set old n s;
  rest = λ i d. set_elsewhere old n i s d;
  at = λ q e. let f : q ≡ r = same_some q r (sym e ∙ there) in (s, set_there old n s (slice_get_within old n r there), record { name = name ∙ ap (λ (x : HeldRelation). x.name) (sym f); columns = columns ∙ ap (λ (x : HeldRelation). x.columns) (sym f); most = most ∙ ap (λ (x : HeldRelation). x.most) (sym f); keys_are = keys_are });
})

-- nothing is changed
pub same_listed : (old : List HeldRelation) (n : ℕ) → AreRelisted n (keys_at old n) old old
same_listed old n = record { count = refl; rest = λ i d. refl; at = λ r e. (r, e, record { name = refl; columns = refl; most = refl; keys_are = sym (ap keys_in e) }) }

-- ---- a key taken out

split_at : {X : Type 0} (xs : List X) (i : ℕ) (x : X) → i < length xs → x ≡ get_or xs i x → xs ≡ take i xs ++ x ∷ drop (suc i) xs
split_at [] i x lt e = absurd (omega (arith, lt))
split_at (y ∷ ys) zero x lt e = ap (λ z. z ∷ ys) (sym e)
split_at (y ∷ ys) (suc i) x lt e = ap (λ l. y ∷ l) (split_at ys i x (omega (arith, lt)) e)

taken_length : {X : Type 0} (xs : List X) (i : ℕ) → i < length xs → length (take i xs) ≡ i
taken_length [] i lt = absurd (omega (arith, lt))
taken_length (y ∷ ys) zero lt = refl
taken_length (y ∷ ys) (suc i) lt = ap suc (taken_length ys i (omega (arith, lt)))

pub unlisted : (old new : List HeldRelation) (n place key : ℕ) (r s : HeldRelation) → slice_get old n ≡ Some r → new ≡ slice_set old n s → s.name ≡ r.name → s.columns ≡ r.columns → s.most ≡ r.most
    → place < length (keys_at old n) → key ≡ get_or r.keys.items place key → s.keys.items ≡ take place r.keys.items ++ drop (suc place) r.keys.items → IsUnlisted n place key old new
unlisted old new n place key r s there is name columns most low at keys_are = record {
  front = take place r.keys.items;
  back = drop (suc place) r.keys.items;
  were = ap keys_in there ∙ split_at r.keys.items place key lt at;
  size = taken_length r.keys.items place lt;
  listed = relisted old new n r s (take place r.keys.items ++ drop (suc place) r.keys.items) there is name columns most keys_are;
}
  where
    lt : place < length r.keys.items
    lt = subst (λ ks. place < length ks) (ap keys_in there) low
