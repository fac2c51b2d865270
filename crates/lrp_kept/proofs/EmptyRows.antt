-- The relations of a database, of which no row is held.
use Rattle.std.proofs.Common.{◌≡◌, ◌<◌, ◌≤◌, ◌+◌, ℕ, zero, suc, List, [], ◌∷◌, ◌++◌, length, take, get_or, map, Some, None, refl, sym, ap, subst, ◌∙◌, arith}
use Rattle.std.specs.Prelude.{slice_get}
use Rattle.std.specs.List.{AllZip}
use Rattle.std.proofs.lemmas.List.{get_or_past, take_all, take_more}
use Rattle.std.proofs.lemmas.Option.{get_or_from_slice_get, slice_get_within}
use Rattle.lrp_model.specs.declared.relations.Relation.{Relation}
use Rattle.lrp_kept.specs.Keyed.{IsEmptyOf, IsEmptyRelation}
use Rattle.lrp_kept.specs.declared.rows.HeldRelation.{HeldRelation}
use Rattle.lrp_kept.specs.declared.rows.HeldRows.{HeldRows}
use Rattle.lrp_kept.proofs.Zipped.{zip_push}
use Rattle.lrp_kept.proofs.JoinedUp.{same_some}

pub none_yet : (db : List Relation) (rs : List HeldRelation) → rs ≡ [] → AllZip IsEmptyRelation (take 0 db) rs
none_yet [] rs e = subst (λ xs. AllZip IsEmptyRelation [] xs) (sym e) tt
none_yet (r ∷ db) rs e = subst (λ xs. AllZip IsEmptyRelation [] xs) (sym e) tt

pub one_empty : (db : List Relation) (i : ℕ) (r : Relation) (old new : List HeldRelation) (x : HeldRelation) → slice_get db i ≡ Some r → AllZip IsEmptyRelation (take i db) old → IsEmptyRelation r x → new ≡ old ++ x ∷ [] → AllZip IsEmptyRelation (take (i + 1) db) new
one_empty db i r old new x at h e is =
    subst (λ l. AllZip IsEmptyRelation (take (i + 1) db) l) (sym is)
    (subst (λ l. AllZip IsEmptyRelation l (old ++ x ∷ [])) (sym (take_more db i r (slice_get_within db i r at) ∙ ap (λ k. take i db ++ k ∷ []) (get_or_from_slice_get db i r r at)))
    (zip_push IsEmptyRelation (take i db) old r x h e))

names : (db : List Relation) (rs : List HeldRelation) → AllZip IsEmptyRelation db rs → map (λ (x : HeldRelation). x.name) rs ≡ map (λ (r : Relation). r.name) db
names [] [] h = refl
names [] (x ∷ rs) h = absurd h
names (r ∷ db) [] h = absurd h
names (r ∷ db) (x ∷ rs) h = ap (λ n. n ∷ map (λ (y : HeldRelation). y.name) rs) h.0.name ∙ ap (λ l. r.name ∷ l) (names db rs h.1)

columns : (db : List Relation) (rs : List HeldRelation) → AllZip IsEmptyRelation db rs → map (λ (x : HeldRelation). x.columns) rs ≡ map (λ (r : Relation). r.columns) db
columns [] [] h = refl
columns [] (x ∷ rs) h = absurd h
columns (r ∷ db) [] h = absurd h
columns (r ∷ db) (x ∷ rs) h = ap (λ n. n ∷ map (λ (y : HeldRelation). y.columns) rs) h.0.columns ∙ ap (λ l. r.columns ∷ l) (columns db rs h.1)

none_held : (db : List Relation) (rs : List HeldRelation) → AllZip IsEmptyRelation db rs → (i : ℕ) (x : HeldRelation) → slice_get rs i ≡ Some x → (x.keys.items ≡ []) × (x.most ≡ 0)
none_held [] [] h i x e = absurd (let l : i < 0 = slice_get_within [] i x e in omega (arith, l))
none_held [] (y ∷ rs) h i x e = absurd h
none_held (r ∷ db) [] h i x e = absurd h
none_held (r ∷ db) (y ∷ rs) h zero x e = let f : y ≡ x = same_some y x e in (ap (λ (z : HeldRelation). z.keys.items) (sym f) ∙ h.0.keys, ap (λ (z : HeldRelation). z.most) (sym f) ∙ h.0.most)
none_held (r ∷ db) (y ∷ rs) h (suc i) x e = none_held db rs h.1 i x e

pub empty_of : (db : List Relation) (rows : HeldRows) (i : ℕ) → length db ≤ i → AllZip IsEmptyRelation (take i db) rows.relations.items → rows.sources.slots ≡ [] → IsEmptyOf db rows
empty_of db rows i past h none = record {
  names = names db rows.relations.items all;
  columns = columns db rows.relations.items all;
  none = none_held db rows.relations.items all;
  sources = λ k. ap (λ slots. get_or slots k None) none ∙ get_or_past [] k None (omega arith);
}
  where
    all : AllZip IsEmptyRelation db rows.relations.items
    all = subst (λ l. AllZip IsEmptyRelation l rows.relations.items) (take_all i db past) h
