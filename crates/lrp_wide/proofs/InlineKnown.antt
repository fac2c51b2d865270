-- The definitions that are known: each stands beside those before it.
use Rattle.std.proofs.Common.{◌≡◌, ℕ, zero, suc, ◌+◌, ◌<◌, ◌≤◌, Option, Some, None, List, [], ◌∷◌, ◌++◌, map, length, take, slice_get, refl, ap, ap₂, sym, ◌∙◌, append_assoc, append-nil, arith}
use Rattle.std.proofs.lemmas.List.{length-map}
use Rattle.lrp_model.specs.RawQueries.{RawDefinitionView, RawFileView}
use Rattle.lrp_model.specs.Texts.{Identifier}
use Rattle.lrp_model.specs.declared.relations.Relation.{Relation}
use Rattle.lrp_wide.specs.Inlining.{Known, known_of, known_with}

-- the further definitions alone
abbrev pub further : List Relation → List Known → List RawDefinitionView → List Known
further db ks [] = []
further db ks (d ∷ ds) = known_with db ks d ∷ further db (ks ++ known_with db ks d ∷ []) ds

pub known-further : (db : List Relation) (ks : List Known) (ds : List RawDefinitionView) → known_of db ks ds ≡ ks ++ further db ks ds
known-further db ks [] = sym (append-nil ks)
known-further db ks (d ∷ ds) = known-further db (ks ++ known_with db ks d ∷ []) ds ∙ append_assoc ks (known_with db ks d ∷ []) (further db (ks ++ known_with db ks d ∷ []) ds)

further-names : (db : List Relation) (ks : List Known) (ds : List RawDefinitionView) → map (λ (k : Known). k.name) (further db ks ds) ≡ map (λ (d : RawDefinitionView). d.name) ds
further-names db ks [] = refl
further-names db ks (d ∷ ds) = ap (λ l. d.name ∷ l) (further-names db (ks ++ known_with db ks d ∷ []) ds)

-- they have the definitions' names
pub known-names : (db : List Relation) (ds : List RawDefinitionView) → map (λ (k : Known). k.name) (known_of db [] ds) ≡ map (λ (d : RawDefinitionView). d.name) ds
known-names db ds = ap (map (λ (k : Known). k.name)) (known-further db [] ds) ∙ further-names db [] ds

pub known-length : (db : List Relation) (ds : List RawDefinitionView) → length (known_of db [] ds) ≡ length ds
known-length db ds = sym (length-map (known_of db [] ds) (λ (k : Known). k.name)) ∙ ap length (known-names db ds) ∙ length-map ds (λ (d : RawDefinitionView). d.name)

further-at : (db : List Relation) (ks : List Known) (ds : List RawDefinitionView) (n : ℕ) (d : RawDefinitionView) → slice_get ds n ≡ Some d
    → slice_get (further db ks ds) n ≡ Some (known_with db (ks ++ take n (further db ks ds)) d)
further-at db ks [] n d e = absurd cc
further-at db ks (x ∷ ds) zero d e = let same : x ≡ d = cc in ap₂ (λ l y. Some (known_with db l y)) (sym (append-nil ks)) same
further-at db ks (x ∷ ds) (suc n) d e =
    further-at db (ks ++ known_with db ks x ∷ []) ds n d e
    ∙ ap (λ l. Some (known_with db l d)) (append_assoc ks (known_with db ks x ∷ []) (take n (further db (ks ++ known_with db ks x ∷ []) ds)))

-- a definition stands beside those before it
pub known-at : (db : List Relation) (ds : List RawDefinitionView) (n : ℕ) (d : RawDefinitionView) → slice_get ds n ≡ Some d
    → slice_get (known_of db [] ds) n ≡ Some (known_with db (take n (known_of db [] ds)) d)
known-at db ds n d e =
    ap (λ l. slice_get l n) (known-further db [] ds) ∙ further-at db [] ds n d e ∙ ap (λ l. Some (known_with db (take n l) d)) (sym (known-further db [] ds))

-- one definition more
pub known-more : (db : List Relation) (ks : List Known) (ds : List RawDefinitionView) (d : RawDefinitionView) → known_of db ks (ds ++ d ∷ []) ≡ known_of db ks ds ++ known_with db (known_of db ks ds) d ∷ []
known-more db ks [] d = refl
known-more db ks (x ∷ ds) d = known-more db (ks ++ known_with db ks x ∷ []) ds d
