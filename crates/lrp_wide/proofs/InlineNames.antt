-- Names in a use.
use Rattle.std.proofs.Common.{◌≡◌, ℕ, ◌+◌, ◌≤◌, true, false, cond, Option, None, List, [], ◌∷◌, ◌++◌, length, drop, refl, ap, ap₂, sym, subst, append_assoc, ◌∙◌}
use Rattle.std.proofs.lemmas.List.{drop_all}
use Rattle.std.specs.Prelude.{bytes_eq}
use Rattle.lrp_model.specs.Texts.{Identifier}
use Rattle.lrp_model.specs.declared.raw.RawTermKind.{RawTermKind}
use Rattle.lrp_model.specs.declared.raw.RawTermKind.TheVariants.{Int, Text, Var, Shifted}
use Rattle.lrp_wide.specs.Inlining.{Passed, itself, equal, inner_name, passed_name, plain_variable}
use Rattle.lrp_wide.specs.Settings.{IsNamePassed, IsPassedToo, name_passed, passed_of}
use Rattle.lrp_wide.specs.declared.uses.Passed.{Passed as PassedOf}

-- the columns that are variables give each name
pub names_are : (ps : List Passed) (made : List PassedOf) (k : ℕ) (v : Identifier) → passed_of ps made → name_passed made k v ≡ passed_name ps k v
names_are [] made k v h = ap (λ m. name_passed m k v) h
names_are (equal b c t ∷ ps) made k v h = names_are ps made k v h
names_are (itself c n ∷ ps) [] k v h = absurd h
names_are (itself c n ∷ ps) (p ∷ made) k v h =
    ap (λ x. cond (bytes_eq x v) p.name (name_passed made k v)) h.0.column ∙ ap₂ (λ x y. cond (bytes_eq c v) x y) h.0.name (names_are ps made k v h.1)

-- one of them, and those that are left
pub passed_next : (c n : Identifier) (left all : List Passed) (old new made : List PassedOf) → IsPassedToo old c n new
    → ((more : List PassedOf) → passed_of (itself c n ∷ left) more → passed_of all (old ++ more)) → passed_of left made → passed_of all (new ++ made)
passed_next c n left all old new made t h l = subst (passed_of all) (sym (ap (λ x. x ++ made) t.items ∙ append_assoc old (t.entry ∷ []) made)) (h (t.entry ∷ made) (t.is, l))

-- ---- the columns that are left

module _ (ps : List PassedOf) (i : ℕ) (p : PassedOf) (k : ℕ) (v all : Identifier) (here : drop i ps ≡ p ∷ drop (i + 1) ps) where
  one_left : name_passed (drop i ps) k v ≡ cond (bytes_eq p.column.now v) p.name (name_passed (drop (i + 1) ps) k v)
  one_left = ap (λ l. name_passed l k v) here

  -- the next one is the variable
  pub name-first : bytes_eq p.column.now v ≡ true → name_passed (drop i ps) k v ≡ all → p.name ≡ all
  name-first e h = sym (one_left ∙ ap (λ b. cond b p.name (name_passed (drop (i + 1) ps) k v)) e) ∙ h

  -- or it isn't
  pub name-next : bytes_eq p.column.now v ≡ false → name_passed (drop i ps) k v ≡ all → name_passed (drop (i + 1) ps) k v ≡ all
  name-next e h = sym (one_left ∙ ap (λ b. cond b p.name (name_passed (drop (i + 1) ps) k v)) e) ∙ h

-- none is left
pub name-none : (ps : List PassedOf) (i : ℕ) (k : ℕ) (v all : Identifier) → length ps ≤ i → name_passed (drop i ps) k v ≡ all → inner_name k v ≡ all
name-none ps i k v all le h = sym (ap (λ l. name_passed l k v) (drop_all i ps le)) ∙ h

-- a term that isn't a variable alone
pub not_variable : (kind : RawTermKind) → ((v : Identifier) → kind ≡ Var v → ⊥) → plain_variable kind ≡ None
not_variable (Int x) h = refl
not_variable (Text t) h = refl
not_variable (Var v) h = absurd (h v refl)
not_variable (Shifted v plus) h = refl
