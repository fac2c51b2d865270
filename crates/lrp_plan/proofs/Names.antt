-- The facts of relations by their names, one relation more at a time.
use Rattle.std.proofs.Common.{◌≡◌, ◌≤◌, ◌+◌, ℕ, zero, suc, Bool, true, false, cond, List, [], ◌∷◌, ◌++◌, length, take, Option, Some, None, slice_get, refl, sym, ap, subst, ◌∙◌, arith}
use Rattle.std.specs.Option.{is_some}
use Rattle.std.specs.Str.{bytes_eq}
use Rattle.std.specs.Cmp.Lexicographic.{bytes_decides}
use Rattle.lrp_model.specs.Texts.{Identifier}
use Rattle.lrp_model.specs.Rows.{relation_named, rows_in}
use Rattle.lrp_model.specs.declared.relations.Relation.{Relation}
use Rattle.lrp_limits.specs.declared.facts.Facts.{Facts}
use Rattle.lrp_limits.specs.Facts.{AreFacts}
use Rattle.lrp_plan.specs.Naming.{IsNamedAs}
use Rattle.lrp_plan.specs.Sources.{AreFactsOf}

abbrev or_else : Option Relation → Option Relation → Option Relation
or_else None p = p
or_else (Some x) p = Some x

by_found : (b : Bool) (x : Relation) (o p : Option Relation) → cond b (Some x) (or_else o p) ≡ or_else (cond b (Some x) o) p
by_found true x o p = refl
by_found false x o p = refl

named_push : (before : List Relation) (r : Relation) (name : Identifier) → relation_named (before ++ r ∷ []) name ≡ or_else (relation_named before name) (cond (bytes_eq r.name name) (Some r) None)
named_push [] r name = refl
named_push (x ∷ xs) r name = ap (cond (bytes_eq x.name name) (Some x)) (named_push xs r name) ∙ by_found (bytes_eq x.name name) x (relation_named xs name) (cond (bytes_eq r.name name) (Some r) None)

-- a name that is there stays as it is
kept_by : (b : Bool) (r : Relation) (o : Option Relation) (f : Option Facts) → IsNamedAs o f → (b ≡ true → is_some f ≡ true) → IsNamedAs (or_else o (cond b (Some r) None)) f
kept_by true r None None h g = let e : false ≡ true = g refl in cc
kept_by true r None (Some x) h g = absurd h
kept_by false r None f h g = h
kept_by b r (Some x) f h g = h

pub stays_named : (r : Relation) (before : List Relation) (m : Identifier → Option Facts) → is_some (m r.name) ≡ true → ((name : Identifier) → IsNamedAs (relation_named before name) (m name)) → (name : Identifier) → IsNamedAs (relation_named (before ++ r ∷ []) name) (m name)
stays_named r before m there h name =
    subst (λ o. IsNamedAs o (m name)) (sym (named_push before r name)) (kept_by (bytes_eq r.name name) r (relation_named before name) (m name) (h name) (λ e. subst (λ n. is_some (m n) ≡ true) ((bytes_decides r.name name).0 e) there))

-- a new name has the facts of its relation
put_by : (b : Bool) (r : Relation) (f : Facts) (o : Option Relation) (g : Option Facts) → AreFacts r.rows f → IsNamedAs o g → (b ≡ true → g ≡ None) → IsNamedAs (or_else o (cond b (Some r) None)) (cond b (Some f) g)
put_by true r f None g a h n = a
put_by true r f (Some x) None a h n = absurd h
put_by true r f (Some x) (Some y) a h n = let e : Some y ≡ None = n refl in cc
put_by false r f None g a h n = h
put_by false r f (Some x) g a h n = h

pub is_named : (r : Relation) (f : Facts) (before : List Relation) (m n : Identifier → Option Facts) → AreFacts r.rows f → is_some (m r.name) ≡ false → ((name : Identifier) → n name ≡ cond (bytes_eq r.name name) (Some f) (m name)) → ((name : Identifier) → IsNamedAs (relation_named before name) (m name))
    → (name : Identifier) → IsNamedAs (relation_named (before ++ r ∷ []) name) (n name)
is_named r f before m n a new put h name =
    subst (IsNamedAs (relation_named (before ++ r ∷ []) name)) (sym (put name)) (subst (λ o. IsNamedAs o (cond (bytes_eq r.name name) (Some f) (m name))) (sym (named_push before r name))
    (put_by (bytes_eq r.name name) r f (relation_named before name) (m name) a (h name) (λ e. subst (λ k. m k ≡ None) ((bytes_decides r.name name).0 e) (none_of (m r.name) new))))
  where
    none_of : (o : Option Facts) → is_some o ≡ false → o ≡ None
    none_of None e = refl
    none_of (Some x) e = cc

facts_by : (o : Option Relation) (f : Option Facts) → IsNamedAs o f → AreFactsOf (rows_in o) f
facts_by None None h = refl
facts_by None (Some x) h = absurd h
facts_by (Some r) None h = absurd h
facts_by (Some r) (Some f) h = h

pub all_named : (db : List Relation) (m : Identifier → Option Facts) → ((name : Identifier) → IsNamedAs (relation_named db name) (m name)) → (name : Identifier) → AreFactsOf (rows_in (relation_named db name)) (m name)
all_named db m h name = facts_by (relation_named db name) (m name) (h name)

take_suc : (db : List Relation) (i : ℕ) (r : Relation) → slice_get db i ≡ Some r → take (suc i) db ≡ take i db ++ r ∷ []
take_suc [] i r e = cc
take_suc (x ∷ xs) zero r e = let d : x ≡ r = cc in ap (λ y. y ∷ []) d
take_suc (x ∷ xs) (suc i) r e = ap (λ ys. x ∷ ys) (take_suc xs i r e)

pub take_next : (db : List Relation) (i : ℕ) (r : Relation) → slice_get db i ≡ Some r → take (i + 1) db ≡ take i db ++ r ∷ []
take_next db i r e = let one : i + 1 ≡ suc i = omega arith in ap (λ n. take n db) one ∙ take_suc db i r e

pub take_whole : (db : List Relation) (i : ℕ) → length db ≤ i → take i db ≡ db
take_whole [] zero h = refl
take_whole [] (suc i) h = refl
take_whole (x ∷ xs) zero h = absurd (omega arith)
take_whole (x ∷ xs) (suc i) h = ap (λ ys. x ∷ ys) (take_whole xs i (omega arith))
