-- Sizes of the definitions that an atom may name.
use Rattle.std.proofs.Common.{◌≡◌, ◌<◌, ◌+◌, ℕ, zero, suc, List, [], ◌∷◌, ◌++◌, length, map, take, get_or, slice_get, Some, option_map, refl, ap, ap₂, sym, ◌∙◌, arith, subst}
use Rattle.std.proofs.lemmas.List.{length-append, length-map, length-take-le, map-append, take_more}
use Rattle.std.proofs.lemmas.Option.{none-some, same_Some, slice_get-map, slice_get_read}
use Rattle.std.specs.List.{AllByRecursion}
use Rattle.lrp_sorts.specs.Definitions.{rowless}
use Rattle.lrp_model.specs.RawQueries.{RawDefinitionView, raw_definition_of, raw_form_of}
use Rattle.lrp_model.specs.declared.raw.RawDefinition.{RawDefinition}
use Rattle.lrp_model.specs.declared.relations.Relation.{Relation}
use Rattle.lrp_wide.specs.Inlining.{Known, known_of, known_with}
use Rattle.lrp_wide.specs.Stars.{BindsNoStar, DefinesNoStar}
use Rattle.lrp_wide.specs.Sizes.{AreMeasured, IsKnownSize, IsMeasured}
use Rattle.lrp_wide.specs.declared.measures.Size.{Size}

-- ---- by their numbers

none_measured : (size : Size) (sizes : List Size) → size ∷ sizes ≡ [] → ⊥
none_measured size sizes e = let long : length (size ∷ sizes) ≡ length {A = Size} [] = ap length e in omega (arith, long)

pub names_measured : (ks : List Known) (ds : List Relation) (sizes : List Size) → AreMeasured ks ds sizes → map (λ r. r.name) (take (length sizes) ds) ≡ map (λ k. k.name) ks
names_measured [] ds [] h = refl
names_measured [] ds (size ∷ sizes) h = absurd (none_measured size sizes h)
names_measured (k ∷ ks) [] sizes h = absurd h
names_measured (k ∷ ks) (d ∷ ds) [] h = absurd h
names_measured (k ∷ ks) (d ∷ ds) (size ∷ sizes) h = ap₂ (λ n ns. n ∷ ns) h.0.name (names_measured ks ds sizes h.1)

-- the definition at a number is known, with its columns and its size
pub record IsKnownAt (ks : List Known) (i : ℕ) (d : Relation) (found : Size) : Type 0 where
  pub known : Known
  pub there : slice_get ks i ≡ Some known
  pub columns : d.columns ≡ known.columns
  pub size : IsKnownSize known found

pub known_at : (ks : List Known) (ds : List Relation) (sizes : List Size) (i : ℕ) (d : Relation) (found : Size) → AreMeasured ks ds sizes → i < length ks → slice_get ds i ≡ Some d → found ≡ get_or sizes i found → IsKnownAt ks i d found
known_at [] ds sizes i d found h below at is = absurd (omega (arith, below))
known_at (k ∷ ks) [] sizes i d found h below at is = absurd h
known_at (k ∷ ks) (e ∷ ds) [] i d found h below at is = absurd h
known_at (k ∷ ks) (e ∷ ds) (size ∷ sizes) zero d found h below at is =
    record { known = k; there = refl; columns = subst (λ x. x.columns ≡ k.columns) (same_Some e d at) h.0.columns; size = subst (IsKnownSize k) (sym is) h.0.size }
known_at (k ∷ ks) (e ∷ ds) (size ∷ sizes) (suc i) d found h below at is =
    let rest = known_at ks ds sizes i d found h.1 (omega (arith, below)) at is in
    record { known = rest.known; there = rest.there; columns = rest.columns; size = rest.size }

-- ---- one more

pub measured_more : (ks : List Known) (ds : List Relation) (sizes : List Size) (k : Known) (d : Relation) (found : Size) → AreMeasured ks ds sizes → slice_get ds (length ks) ≡ Some d → IsMeasured k d found
    → AreMeasured (ks ++ k ∷ []) ds (sizes ++ found ∷ [])
measured_more [] [] sizes k d found h at m = absurd (none-some d at)
measured_more [] (e ∷ ds) [] k d found h at m = (subst (λ x. IsMeasured k x found) (sym (same_Some e d at)) m, refl)
measured_more [] (e ∷ ds) (size ∷ sizes) k d found h at m = absurd (none_measured size sizes h)
measured_more (j ∷ ks) [] sizes k d found h at m = absurd h
measured_more (j ∷ ks) (e ∷ ds) [] k d found h at m = absurd h
measured_more (j ∷ ks) (e ∷ ds) (size ∷ sizes) k d found h at m = (h.0, measured_more ks ds sizes k d found h.1 at m)

-- the definitions that are known after one more
pub known_more : (db : List Relation) (ks : List Known) (ds : List RawDefinitionView) (d : RawDefinitionView) → known_of db ks (ds ++ d ∷ []) ≡ known_of db ks ds ++ known_with db (known_of db ks ds) d ∷ []
known_more db ks [] d = refl
known_more db ks (e ∷ ds) d = known_more db (ks ++ known_with db ks e ∷ []) ds d

pub known_length : (db : List Relation) (ks : List Known) (ds : List RawDefinitionView) → length (known_of db ks ds) ≡ length ks + length ds
known_length db ks [] = omega arith
known_length db ks (d ∷ ds) = known_length db (ks ++ known_with db ks d ∷ []) ds ∙ ap (λ n. n + length ds) (length-append ks (known_with db ks d ∷ [])) ∙ omega arith

pub measured_length : (ks : List Known) (ds : List Relation) (sizes : List Size) → AreMeasured ks ds sizes → length sizes ≡ length ks
measured_length [] ds [] h = refl
measured_length [] ds (size ∷ sizes) h = absurd (none_measured size sizes h)
measured_length (k ∷ ks) [] sizes h = absurd h
measured_length (k ∷ ks) (d ∷ ds) [] h = absurd h
measured_length (k ∷ ks) (d ∷ ds) (size ∷ sizes) h = ap suc (measured_length ks ds sizes h.1)

-- ---- the definitions of a file

one_view : (xs : List RawDefinition) (i : ℕ) (x : RawDefinition) → i < length xs → x ≡ get_or xs i x → map raw_definition_of (take (i + 1) xs) ≡ map raw_definition_of (take i xs) ++ raw_definition_of x ∷ []
one_view xs i x lt is = ap (map raw_definition_of) (take_more xs i x lt ∙ ap (λ y. take i xs ++ y ∷ []) (sym is)) ∙ map-append raw_definition_of (take i xs) (x ∷ [])

abbrev rowless_by : RawDefinitionView → Relation
rowless_by w = rowless w.name w.columns

-- the definitions so far and one more
pub file_more : (db ds : List Relation) (xs : List RawDefinition) (i : ℕ) (x : RawDefinition) (sizes : List Size) (found : Size) → i < length xs → x ≡ get_or xs i x → ds ≡ map (λ w. rowless w.name w.columns) (map raw_definition_of xs)
    → AreMeasured (known_of db [] (map raw_definition_of (take i xs))) ds sizes → IsKnownSize (known_with db (known_of db [] (map raw_definition_of (take i xs))) (raw_definition_of x)) found
    → AreMeasured (known_of db [] (map raw_definition_of (take (i + 1) xs))) ds (sizes ++ found ∷ [])
file_more db ds xs i x sizes found lt is same h size =
    let views = map raw_definition_of (take i xs) in
    let ks = known_of db [] views in
    let k = known_with db ks (raw_definition_of x) in
    let d : Relation = rowless_by (raw_definition_of x) in
    let long : length ks ≡ i = known_length db [] views ∙ omega (arith, length-map (take i xs) raw_definition_of, length-take-le i xs (omega (arith, lt))) in
    let at : slice_get xs i ≡ Some x = slice_get_read xs (length xs) i x refl lt is in
    let there : slice_get ds (length ks) ≡ Some d =
    ap (λ l. slice_get l (length ks)) same ∙ ap (slice_get (map rowless_by (map raw_definition_of xs))) long ∙ slice_get-map rowless_by (map raw_definition_of xs) i
    ∙ ap (option_map rowless_by) (slice_get-map raw_definition_of xs i ∙ ap (option_map raw_definition_of) at) in
    subst (λ l. AreMeasured l ds (sizes ++ found ∷ [])) (sym (ap (known_of db []) (one_view xs i x lt is) ∙ known_more db [] views (raw_definition_of x)))
    (measured_more ks ds sizes k d found h there (record { name = refl; columns = refl; size = size }))

-- no text of a file names a variable as a `*`
pub starless_at : (xs : List RawDefinition) (i : ℕ) (x : RawDefinition) → AllByRecursion DefinesNoStar (map raw_definition_of xs) → i < length xs → x ≡ get_or xs i x → BindsNoStar (raw_form_of x.body)
starless_at [] i x h lt is = absurd (omega (arith, lt))
starless_at (y ∷ xs) zero x h lt is = subst (λ z. BindsNoStar (raw_form_of z.body)) (sym is) h.0
starless_at (y ∷ xs) (suc i) x h lt is = starless_at xs i x h.1 (omega (arith, lt)) is
