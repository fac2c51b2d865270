-- The numbers of a file's texts, one definition after the other.
use Rattle.std.proofs.Common.{◌≡◌, ℕ, ◌+◌, ◌<◌, ◌≤◌, Some, List, [], ◌∷◌, ◌++◌, map, length, take, get_or, slice_get, refl, ap, ap₂, sym, subst, ◌∙◌, arith}
use Rattle.std.proofs.lemmas.List.{length-map, length-take, map-append, take_all, take_more}
use Rattle.lrp_model.specs.RawQueries.{RawDefinitionView, RawFileView, RawQuestion, raw_definition_of, raw_form_of}
use Rattle.lrp_model.specs.declared.raw.RawDefinition.{RawDefinition}
use Rattle.lrp_model.specs.declared.relations.Relation.{Relation}
use Rattle.lrp_sorts.specs.Definitions.{rowless}
use Rattle.lrp_wide.specs.Counts.{AreRelationsNumbered, IsRelationNumbered, file_numbers, kept_in}
use Rattle.lrp_wide.specs.Inlining.{Counted, Known, known_of, known_with}
use Rattle.lrp_wide.proofs.InlineKnown.{known-length, known-more}
use Rattle.lrp_wide.proofs.NumberKnown.{got, got-map, numbered-counted, numbered-more}

module _ (db ds : List Relation) (items : List RawDefinition) (rows : ds ≡ map (λ (w : RawDefinitionView). rowless w.name w.columns) (map raw_definition_of items)) where
  -- the definitions so far
  abbrev known_to : ℕ → List Known
  known_to i = known_of db [] (map raw_definition_of (take i items))

  -- one definition more
  pub numbered-definition : (i : ℕ) (d : RawDefinition) (ns new : List (List Counted)) (n : List Counted) → i < length items → d ≡ get_or items i d → AreRelationsNumbered (known_to i) ds ns → n ≡ kept_in db (known_to i) (raw_form_of d.body) → new ≡ ns ++ n ∷ []
      → AreRelationsNumbered (known_to (i + 1)) ds new
  numbered-definition i d ns new n lt is h e en =
      let xs : List RawDefinition = take i items in
      let ks : List Known = known_to i in
      let D : RawDefinitionView = raw_definition_of d in
      let many = length-take i items in
      let known = known-length db (map raw_definition_of xs) in
      let same = length-map xs raw_definition_of in
      let size : length ks ≡ i = omega (arith, many, known, same, lt) in
      let at : slice_get ds (length ks) ≡ Some (rowless D.name D.columns) =
      ap (slice_get ds) size ∙ ap (λ l. slice_get l i) rows ∙ got-map (λ (w : RawDefinitionView). rowless w.name w.columns) (map raw_definition_of items) i D (got-map raw_definition_of items i d (got items i d lt is)) in
      let one : AreRelationsNumbered (ks ++ known_with db ks D ∷ []) ds (ns ++ n ∷ []) = numbered-more ks ds ns (known_with db ks D) (rowless D.name D.columns) n h at (record { name = refl; columns = refl; counted = e }) in
      let so : take (i + 1) items ≡ xs ++ d ∷ [] = take_more items i d lt ∙ ap (λ x. xs ++ x ∷ []) (sym is) in
      let all : known_to (i + 1) ≡ ks ++ known_with db ks D ∷ [] = ap (λ l. known_of db [] (map raw_definition_of l)) so ∙ ap (known_of db []) (map-append raw_definition_of xs (d ∷ [])) ∙ known-more db [] (map raw_definition_of xs) D in
      subst (λ k. AreRelationsNumbered k ds new) (sym all) (subst (AreRelationsNumbered (ks ++ known_with db ks D ∷ []) ds) (sym en) one)

  abbrev all_known : List Known
  all_known = known_of db [] (map raw_definition_of items)

  -- all definitions
  pub numbered-all : (i : ℕ) (ns : List (List Counted)) → length items ≤ i → AreRelationsNumbered (known_to i) ds ns → AreRelationsNumbered (known_of db [] (map raw_definition_of items)) ds ns
  numbered-all i ns le h = subst (λ l. AreRelationsNumbered (known_of db [] (map raw_definition_of l)) ds ns) (take_all i items le) h

  -- and the query
  pub numbered-file : (query : RawQuestion) (ns new : List (List Counted)) (n : List Counted) → AreRelationsNumbered (known_of db [] (map raw_definition_of items)) ds ns → n ≡ kept_in db (known_of db [] (map raw_definition_of items)) query.body → new ≡ ns ++ n ∷ []
      → new ≡ file_numbers db (record { definitions = map raw_definition_of items; query = query })
  numbered-file query ns new n h e en = en ∙ ap₂ (λ l x. l ++ x ∷ []) (numbered-counted all_known ds ns h) e
