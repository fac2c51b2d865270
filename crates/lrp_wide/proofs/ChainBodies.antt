-- What code keeps of chains, one by one, and the body at the end of a chain.
use mathlib.Core.Path.{fun_ext}
use Rattle.std.proofs.Common.{Box, Global, ◌≡◌, ℕ, zero, suc, ◌+◌, ◌<◌, Bool, true, false, cond, Option, Some, None, IfSome, List, [], ◌∷◌, ◌++◌, map, take, drop, length, get_or, slice_get, refl, ap, ap₂, sym, subst, ◌∙◌, append_assoc, append-nil, min, ◌≤◌, inl, inr, ◌⊎◌, arith}
use Rattle.std.proofs.lemmas.List.{map-append, take_more}
use Rattle.std.specs.Str.{bytes_eq}
use Rattle.lrp_model.specs.RawQueries.{RawFileView, RawForm, raw_atom, raw_form_of}
use Rattle.lrp_model.specs.Texts.{Identifier}
use Rattle.lrp_model.specs.declared.raw.RawDefinition.{RawDefinition}
use Rattle.lrp_model.specs.declared.raw.RawFormula.{RawFormula}
use Rattle.lrp_model.specs.declared.raw.RawKind.{Atom}
use Rattle.lrp_model.specs.declared.raw.RawTerm.{RawTerm}
use Rattle.lrp_model.specs.declared.relations.Column.{Column}
use Rattle.lrp_model.specs.declared.relations.Relation.{Relation}
use Rattle.lrp_sorts.specs.Definitions.{Defined, definition_number}
use Rattle.lrp_wide.specs.Chains.{AreChains, AreVariables, IsChainIfAny, IsContinued, IsStepTo, as_themselves}
use Rattle.lrp_wide.specs.Inlining.{itself, passed_name}
use Rattle.lrp_wide.specs.Settings.{passed_of}
use Rattle.lrp_wide.specs.declared.chains.Chain.{Chain}
use Rattle.lrp_wide.specs.declared.uses.Passed.{Passed as PassedOf}
use Rattle.lrp_wide.proofs.ChainLinks.{chain-more, chain-one}
use Rattle.lrp_wide.proofs.InlineNodes.{atom_node}

-- ---- the variable that a column is

module _ (name : Identifier → Identifier) (cs : List Column) (vs : List Identifier) (i : ℕ) (c : Column) (v : Identifier) (k : ℕ) (n : Identifier) (dc : drop i cs ≡ c ∷ drop (i + 1) cs) (dv : drop i vs ≡ v ∷ drop (i + 1) vs) where
  here : passed_name (as_themselves name (drop i cs) (drop i vs)) k n ≡ cond (bytes_eq c.name n) (name v) (passed_name (as_themselves name (drop (i + 1) cs) (drop (i + 1) vs)) k n)
  here = ap₂ (λ x y. passed_name (as_themselves name x y) k n) dc dv

  pub variable-first : bytes_eq c.name n ≡ true → passed_name (as_themselves name (drop i cs) (drop i vs)) k n ≡ name v
  variable-first e = here ∙ ap (λ b. cond b (name v) (passed_name (as_themselves name (drop (i + 1) cs) (drop (i + 1) vs)) k n)) e

  pub variable-next : bytes_eq c.name n ≡ false → passed_name (as_themselves name (drop i cs) (drop i vs)) k n ≡ passed_name (as_themselves name (drop (i + 1) cs) (drop (i + 1) vs)) k n
  variable-next e = here ∙ ap (λ b. cond b (name v) (passed_name (as_themselves name (drop (i + 1) cs) (drop (i + 1) vs)) k n)) e

-- one name more
pub name-more : (old name : Identifier → Identifier) (ns : List Identifier) (i : ℕ) (n : Identifier) (made : List Identifier) (v : Identifier) → i < length ns → n ≡ get_or ns i n → map old (take i ns) ≡ map name made → old n ≡ name v
    → map old (take (i + 1) ns) ≡ map name (made ++ v ∷ [])
name-more old name ns i n made v lt is h e =
    ap (map old) (take_more ns i n lt ∙ ap (λ x. take i ns ++ x ∷ []) (sym is)) ∙ map-append old (take i ns) (n ∷ []) ∙ ap₂ (λ l x. l ++ x ∷ []) h e ∙ sym (map-append name made (v ∷ []))

-- ---- chains, one after another

pub no-chains : (d : Defined) (plain : List RawDefinition) → AreChains d plain []
no-chains d plain i c e = absurd cc

last_is : {X : Type 0} (xs : List X) (x : X) (i : ℕ) (y : X) → slice_get (xs ++ x ∷ []) i ≡ Some y → (slice_get xs i ≡ Some y) ⊎ ((i ≡ length xs) × (x ≡ y))
last_is [] x zero y e = let both : Some x ≡ Some y = e in inr (refl, cc)
last_is [] x (suc i) y e = absurd cc
last_is (z ∷ xs) x zero y e = inl e
last_is (z ∷ xs) x (suc i) y e = later (last_is xs x i y e)
  where
    later : (slice_get xs i ≡ Some y) ⊎ ((i ≡ length xs) × (x ≡ y)) → (slice_get (z ∷ xs) (suc i) ≡ Some y) ⊎ ((suc i ≡ length (z ∷ xs)) × (x ≡ y))
    later (inl h) = inl h
    later (inr h) = inr (ap suc h.0, h.1)

pub chains-more : (d : Defined) (plain : List RawDefinition) (chains : List (Option (Box Chain Global))) (c : Option (Box Chain Global)) → AreChains d plain chains → IsChainIfAny d plain (length chains) c → AreChains d plain (chains ++ c ∷ [])
chains-more d plain chains c h own i o e = by (last_is chains c i o e)
  where
    by : (slice_get chains i ≡ Some o) ⊎ ((i ≡ length chains) × (c ≡ o)) → IsChainIfAny d plain i o
    by (inl at) = h i o at
    by (inr at) = subst (λ j. IsChainIfAny d plain j o) (sym at.0) (subst (IsChainIfAny d plain (length chains)) at.1 own)

-- ---- a definition and the one that it names

pub step-further : (cs : List Column) (vs : List Identifier) (n : ℕ) (further : Box Chain Global) (o : Option (Box Chain Global)) → IfSome o (λ c. IsContinued cs vs further.value c.value) → IsStepTo cs vs n (Some further) o
step-further cs vs n further None h = tt
step-further cs vs n further (Some c) h = h

module _ (d : Defined) (plain : List RawDefinition) (i j : ℕ) (x : RawDefinition) (f : RawFormula) (n : Identifier) (ts : List RawTerm) (vs : List Identifier) (r : Relation) (ex : slice_get plain i ≡ Some x) (same : x.body ≡ f) (kind : f.kind ≡ Atom n ts)
    (number : definition_number d i n ≡ Some j) (lt : j < i) (er : slice_get d.definitions j ≡ Some r) (vars : AreVariables r.columns ts vs) where
  atom : raw_form_of x.body ≡ raw_atom f.place n ts
  atom = ap raw_form_of same ∙ atom_node f n ts kind

  pub chain-step : (further o : Option (Box Chain Global)) → IsChainIfAny d plain j further → IsStepTo r.columns vs j further o → IsChainIfAny d plain i o
  chain-step further None h s = tt
  chain-step None (Some c) h s = chain-one d plain i j x f.place n ts vs r ex atom number lt er vars c.value s.end s.steps s.names
  chain-step (Some further) (Some c) h s = chain-more d plain i j x f.place n ts vs r ex atom number lt er vars further.value c.value h s

-- ---- columns that are passed on

module _ (f : Identifier → Identifier) (cs : List Column) (vs : List Identifier) where
  pub passed-more : (i : ℕ) (c : Column) (v : Identifier) (old new : List PassedOf) (one : PassedOf) → drop i cs ≡ c ∷ drop (i + 1) cs → drop i vs ≡ v ∷ drop (i + 1) vs → new ≡ old ++ one ∷ [] → one.column.now ≡ c.name → one.name ≡ f v
      → ((more : List PassedOf) → passed_of (as_themselves f (drop i cs) (drop i vs)) more → passed_of (as_themselves f cs vs) (old ++ more))
      → (more : List PassedOf) → passed_of (as_themselves f (drop (i + 1) cs) (drop (i + 1) vs)) more → passed_of (as_themselves f cs vs) (new ++ more)
  passed-more i c v old new one dc dv items column name h more l =
      subst (passed_of (as_themselves f cs vs)) (sym (ap (λ x. x ++ more) items ∙ append_assoc old (one ∷ []) more))
      (h (one ∷ more) (subst (λ ps. passed_of ps (one ∷ more)) (sym (ap₂ (as_themselves f) dc dv)) (record { column = column; name = name }, l)))

  none_here : (xs : List Column) (ys : List Identifier) (i : ℕ) → min (length xs) (length ys) ≤ i → as_themselves f (drop i xs) (drop i ys) ≡ []
  none_here [] ys zero le = refl
  none_here [] ys (suc i) le = refl
  none_here (x ∷ xs) [] zero le = refl
  none_here (x ∷ xs) [] (suc i) le = none_after (drop i xs)
    where
      none_after : (xs : List Column) → as_themselves f xs [] ≡ []
      none_after [] = refl
      none_after (x ∷ xs) = refl
  none_here (x ∷ xs) (y ∷ ys) zero le = absurd (omega (arith, le))
  none_here (x ∷ xs) (y ∷ ys) (suc i) le = none_here xs ys i (omega (arith, le))

  pub passed-end : (i : ℕ) (made : List PassedOf) → min (length cs) (length vs) ≤ i
      → ((more : List PassedOf) → passed_of (as_themselves f (drop i cs) (drop i vs)) more → passed_of (as_themselves f cs vs) (made ++ more)) → passed_of (as_themselves f cs vs) made
  passed-end i made le h =
      subst (passed_of (as_themselves f cs vs)) (append-nil made) (h [] (subst (λ ps. passed_of ps []) (sym (none_here cs vs i le)) refl))
