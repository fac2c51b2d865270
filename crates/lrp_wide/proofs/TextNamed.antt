-- The texts of the definitions that names name are those that each name brings.
use Rattle.std.proofs.Common.{◌≡◌, ◌↔◌, ◌⊎◌, inl, inr, ⊎_elim, Bool, true, false, ◌||◌, List, [], ◌∷◌, ◌++◌, refl, sym, ap, subst, cond}
use Rattle.std.specs.Prelude.{flat_map, reverse}
use Rattle.std.specs.Str.{bytes_eq}
use Rattle.lrp_model.specs.Texts.{Text, Identifier}
use Rattle.lrp_model.specs.Faults.{is_named_in}
use Rattle.lrp_model.specs.RawQueries.{RawDefinitionView}
use Rattle.lrp_model.specs.declared.relations.Sort.{Sort}
use Rattle.lrp_tense.proofs.Scoping.{own_name}
use Rattle.lrp_wide.specs.Meaning.{Signature, own_texts, atom_names, named_by}
use Rattle.lrp_wide.proofs.TextSays.{Among, AnyOf, either, same_iff, no_first, iff_then, turned_iff, among_both}

named_either : (ms ns : List Identifier) (n : Identifier) → is_named_in (ms ++ ns) n ≡ (is_named_in ms n || is_named_in ns n)
named_either [] ns n = refl
named_either (m ∷ ms) ns n = by (bytes_eq n m) (named_either ms ns n)
  where
    by : (b : Bool) → is_named_in (ms ++ ns) n ≡ (is_named_in ms n || is_named_in ns n) → (b || is_named_in (ms ++ ns) n) ≡ ((b || is_named_in ms n) || is_named_in ns n)
    by true e = refl
    by false e = e

module _ (x : Sort × Text) (T : Signature) where
  -- the texts of a definition's own
  abbrev pub definition_texts : RawDefinitionView → List (Sort × Text)
  definition_texts d = own_texts d.body T (reverse d.columns)

  -- some definition that these names name, directly or by others, has the text; the last definition stands first
  abbrev pub Brings : List RawDefinitionView → List Identifier → Type 0
  Brings ds names = Among x (flat_map definition_texts (named_by ds names))

  pub none_brings : (ds : List RawDefinitionView) → Brings ds [] → ⊥
  none_brings [] h = h
  none_brings (d ∷ ds) h = none_brings ds h

  module _ (d : RawDefinitionView) (ds : List RawDefinitionView) (split : (ms ns : List Identifier) → Brings ds (ms ++ ns) ↔ (Brings ds ms ⊎ Brings ds ns)) where
    -- what a definition brings where it is named, and where it is not
    abbrev Here : Bool → List Identifier → Type 0
    Here true names = Among x (definition_texts d) ⊎ (Brings ds names ⊎ Brings ds (atom_names d.body))
    Here false names = Brings ds names

    here : (b : Bool) (names : List Identifier) → Among x (flat_map definition_texts (cond b (d ∷ named_by ds (names ++ atom_names d.body)) (named_by ds names))) ↔ Here b names
    here true names = iff_then (among_both x (definition_texts d) (flat_map definition_texts (named_by ds (names ++ atom_names d.body)))) (either same_iff (split names (atom_names d.body)))
    here false names = same_iff

    left : (ms ns : List Identifier) → Here true ms → Here true (ms ++ ns)
    left ms ns h = ⊎_elim (λ a. inl a) (λ y. inr (⊎_elim (λ b. inl ((split ms ns).1 (inl b))) (λ z. inr z) y)) h

    right : (ms ns : List Identifier) → Here true ns → Here true (ms ++ ns)
    right ms ns h = ⊎_elim (λ a. inl a) (λ y. inr (⊎_elim (λ b. inl ((split ms ns).1 (inr b))) (λ z. inr z) y)) h

    together : (a b : Bool) (ms ns : List Identifier) → Here (a || b) (ms ++ ns) ↔ (Here a ms ⊎ Here b ns)
    together true true ms ns = (
      (λ h. ⊎_elim (λ t. inl (inl t)) (λ y. ⊎_elim (λ k. ⊎_elim (λ m. inl (inr (inl m))) (λ n. inr (inr (inl n))) ((split ms ns).0 k)) (λ z. inl (inr (inr z))) y) h),
      λ h. ⊎_elim (λ l. left ms ns l) (λ r. right ms ns r) h,
    )
    together true false ms ns = (
      (λ h. ⊎_elim (λ t. inl (inl t)) (λ y. ⊎_elim (λ k. ⊎_elim (λ m. inl (inr (inl m))) (λ n. inr n) ((split ms ns).0 k)) (λ z. inl (inr (inr z))) y) h),
      λ h. ⊎_elim (λ l. left ms ns l) (λ r. inr (inl ((split ms ns).1 (inr r)))) h,
    )
    together false true ms ns = (
      (λ h. ⊎_elim (λ t. inr (inl t)) (λ y. ⊎_elim (λ k. ⊎_elim (λ m. inl m) (λ n. inr (inr (inl n))) ((split ms ns).0 k)) (λ z. inr (inr (inr z))) y) h),
      λ h. ⊎_elim (λ l. inr (inl ((split ms ns).1 (inl l)))) (λ r. right ms ns r) h,
    )
    together false false ms ns = split ms ns

  pub brings_either : (ds : List RawDefinitionView) (ms ns : List Identifier) → Brings ds (ms ++ ns) ↔ (Brings ds ms ⊎ Brings ds ns)
  brings_either [] ms ns = turned_iff (no_first (λ e. e))
  brings_either (d ∷ ds) ms ns =
      let split : (ms ns : List Identifier) → Brings ds (ms ++ ns) ↔ (Brings ds ms ⊎ Brings ds ns) = brings_either ds in
      let flag : is_named_in (ms ++ ns) d.name ≡ (is_named_in ms d.name || is_named_in ns d.name) = named_either ms ns d.name in
      iff_then (here d ds split (is_named_in (ms ++ ns) d.name) (ms ++ ns))
      (iff_then (subst (λ b. Here d ds split b (ms ++ ns) ↔ (Here d ds split (is_named_in ms d.name) ms ⊎ Here d ds split (is_named_in ns d.name) ns)) (sym flag) (together d ds split (is_named_in ms d.name) (is_named_in ns d.name) ms ns))
      (turned_iff (either (here d ds split (is_named_in ms d.name) ms) (here d ds split (is_named_in ns d.name) ns))))

  -- a name brings what the definitions that it names have
  pub brings_any : (ds : List RawDefinitionView) (names : List Identifier) → Brings ds names ↔ AnyOf (λ n. Brings ds (n ∷ [])) names
  brings_any ds [] = ((λ h. none_brings ds h), λ h. absurd h)
  brings_any ds (n ∷ names) = iff_then (brings_either ds (n ∷ []) names) (either same_iff (brings_any ds names))

  -- a definition brings its own texts, and what its names bring
  pub brings_itself : (d : RawDefinitionView) (ds : List RawDefinitionView) → (Brings ds (d.name ∷ []) → ⊥) → Brings (d ∷ ds) (d.name ∷ []) ↔ (Among x (definition_texts d) ⊎ Brings ds (atom_names d.body))
  brings_itself d ds none =
      let split : (ms ns : List Identifier) → Brings ds (ms ++ ns) ↔ (Brings ds ms ⊎ Brings ds ns) = brings_either ds in
      let itself : is_named_in (d.name ∷ []) d.name ≡ true = ap (λ b. b || false) (own_name d.name) in
      iff_then (here d ds split (is_named_in (d.name ∷ []) d.name) (d.name ∷ []))
      (iff_then (subst (λ b. Here d ds split b (d.name ∷ []) ↔ Here d ds split true (d.name ∷ [])) (sym itself) same_iff) (either same_iff (no_first none)))

  -- and another name brings no more
  pub brings_other : (d : RawDefinitionView) (ds : List RawDefinitionView) (n : Identifier) → bytes_eq d.name n ≡ false → Brings (d ∷ ds) (n ∷ []) ↔ Brings ds (n ∷ [])
  brings_other d ds n e =
      let split : (ms ns : List Identifier) → Brings ds (ms ++ ns) ↔ (Brings ds ms ⊎ Brings ds ns) = brings_either ds in
      let other : is_named_in (n ∷ []) d.name ≡ false = ap (λ b. b || false) e in
      iff_then (here d ds split (is_named_in (n ∷ []) d.name) (n ∷ [])) (subst (λ b. Here d ds split b (n ∷ []) ↔ Brings ds (n ∷ [])) (sym other) same_iff)
