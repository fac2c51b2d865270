-- What a definition becomes that only names an earlier one, with variables for its columns.
use Rattle.std.proofs.Common.{◌≡◌, ℕ, ℤ, zero, suc, ◌+◌, ◌<◌, ◌≤◌, ◌||◌, ◌&&◌, Bool, true, false, cond, Option, Some, None, List, [], ◌∷◌, map, length, take, slice_get, refl, ap, ap₂, sym, subst, ◌∙◌, arith}
use Rattle.std.specs.Prelude.{nat_lt, ◌==◌}
use Rattle.std.proofs.lemmas.List.{length-map, take-map}
use Rattle.std.proofs.lemmas.List.Sums.{sum_by-cons}
use Rattle.lrp_model.specs.DatabaseMeaning.{column_of}
use Rattle.lrp_model.specs.RawQueries.{Operator, RawDefinitionView, RawFileView, RawForm, raw_and, raw_atom, raw_compare, raw_definition_of, raw_exists, raw_forall, raw_form_of, raw_group, raw_implies, raw_member, raw_not, raw_or, raw_paired, raw_ranged}
use Rattle.lrp_model.specs.Rows.{columns_in, relation_named}
use Rattle.lrp_model.specs.Texts.{Identifier}
use Rattle.lrp_model.specs.declared.raw.Paired.TheVariants.{Since, Until}
use Rattle.lrp_model.specs.declared.raw.Ranged.TheVariants.{Once, Always}
use Rattle.lrp_model.specs.declared.raw.RawDefinition.{RawDefinition}
use Rattle.lrp_model.specs.declared.raw.RawTerm.{RawTerm}
use Rattle.lrp_model.specs.declared.relations.Column.{Column}
use Rattle.lrp_model.specs.declared.relations.Relation.{Relation}
use Rattle.lrp_model.specs.declared.tokens.Place.{Place}
use Rattle.lrp_sorts.specs.Definitions.{Defined, definition_number, rowless}
use Rattle.lrp_tense.specs.Expanding.{Naming, expanded, is_before}
use Rattle.lrp_wide.specs.Chains.{ArePlainTextsOf, AreVariables, IsBodyBy, as_themselves, read_by}
use Rattle.lrp_wide.specs.Inlining.{Counted, Known, Passed, UseSetting, atom_numbers, column_added, compared_columns, compared_form, counted_atom, counted_from, counted_in, inlined, inlined_atom, known_of, known_with, meant_by, numbers_before, passed, passed_name, plain_definition, some_each, star_columns, star_total, star_variable, use_form}
use Rattle.lrp_wide.specs.Meaning.{is_star}
use Rattle.lrp_wide.proofs.InlineAtoms.{among_first, names_again}
use Rattle.lrp_wide.proofs.InlineKnown.{known-at, known-length, known-names}
use Rattle.lrp_wide.proofs.MeantNames.{number_there}
use Rattle.lrp_wide.proofs.NumberKnown.{at_below, got-map}
use Rattle.lrp_wide.proofs.NumberPlaces.{before-itself}

-- ---- terms that are variables

-- none of them is a `*`
no_stars : (p : Place) (k : ℕ) (cs : List Column) (ts : List RawTerm) → star_total cs ts ≡ 0 → star_columns p k cs ts ≡ []
no_stars p k [] ts e = refl
no_stars p k (c ∷ cs) [] e = refl
no_stars p k (c ∷ cs) (t ∷ ts) e = by (is_star t) refl e (no_stars p k cs ts)
  where
    by : (b : Bool) → is_star t ≡ b → cond b (suc (star_total cs ts)) (star_total cs ts) ≡ 0 → (star_total cs ts ≡ 0 → star_columns p k cs ts ≡ []) → star_columns p k (c ∷ cs) (t ∷ ts) ≡ []
    by true f h rest = absurd (omega (arith, h))
    by false f h rest = ap (λ b. cond b (column_added p (star_variable k) c.sort ∷ star_columns p (suc k) cs ts) (star_columns p k cs ts)) f ∙ rest h

-- so no column is compared
none_compared : (name : Identifier → Identifier) (cs : List Column) (vs : List Identifier) → compared_columns (as_themselves name cs vs) ≡ []
none_compared name [] vs = refl
none_compared name (c ∷ cs) [] = refl
none_compared name (c ∷ cs) (v ∷ vs) = none_compared name cs vs

-- a use becomes what its definition does
variables-form : (s : UseSetting) (p : Place) (k : ℕ) (d : Known) (ts : List RawTerm) (vs : List Identifier) → AreVariables d.columns ts vs
    → use_form s p k d ts ≡ d.form (read_by (passed_name (as_themselves s.name d.columns vs) k) p (suc k) d.counted)
variables-form s p k d ts vs h =
    let ps : List Passed = passed s p k (suc k) d.columns ts in
    let own : List Passed = as_themselves s.name d.columns vs in
    let is : ps ≡ own = h.passed s p k (suc k) in
    let first : suc k + star_total d.columns ts ≡ suc k = omega (arith, h.stars) in
    let inside : List Passed → ℕ → UseSetting = λ l n. read_by (passed_name l k) p n d.counted in
    let alone : compared_columns ps ≡ [] = ap compared_columns is ∙ none_compared s.name d.columns vs in
    ap₂ (λ x y. some_each p x (compared_form p y ps (d.form (inside ps (suc k + star_total d.columns ts))))) (no_stars p (suc k) d.columns ts h.stars) alone
    ∙ ap₂ (λ l n. d.form (inside l n)) is first

-- ---- a text that is one atom

-- an atom takes no numbers before a place that isn't after its own
none_of : (taken : ℕ) (p q : Place) → is_before p q ≡ false → numbers_before (counted_atom p taken) q ≡ 0
none_of zero p q e = refl
none_of (suc n) p q e =
    sum_by-cons (λ (x : Counted). cond (is_before x.place q) x.numbers 0) (record { place = p; numbers = suc n }) [] ∙ ap (λ b. cond b (suc n) 0 + 0) e

-- it was one before its operators were written out, and nothing is counted before it
alone : (db : List Relation) (ks : List Known) (g : RawForm) (number : Place → ℕ) (names : Naming) (q : Place) (n : Identifier) (ts : List RawTerm) → expanded g number names ≡ raw_atom q n ts → numbers_before (counted_in db ks g) q ≡ 0
alone db ks (raw_atom p m us) number names q n ts e =
    let same : p ≡ q = cc in
    none_of (atom_numbers (columns_in (relation_named db m)) us (meant_by db ks m)) p q (ap (λ x. is_before x q) same ∙ before-itself q)
alone db ks (raw_compare p l op r) number names q n ts e = absurd cc
alone db ks (raw_member p t point) number names q n ts e = absurd cc
alone db ks (raw_not p f) number names q n ts e = absurd cc
alone db ks (raw_and p fs) number names q n ts e = absurd cc
alone db ks (raw_or p fs) number names q n ts e = absurd cc
alone db ks (raw_implies p f g) number names q n ts e = absurd cc
alone db ks (raw_group p f) number names q n ts e = absurd cc
alone db ks (raw_exists p c f) number names q n ts e = absurd cc
alone db ks (raw_forall p c f) number names q n ts e = absurd cc
alone db ks (raw_ranged Once o from to f) number names q n ts e = absurd cc
alone db ks (raw_ranged Always o from to f) number names q n ts e = absurd cc
alone db ks (raw_paired Since o f g) number names q n ts e = absurd cc
alone db ks (raw_paired Until o f g) number names q n ts e = absurd cc

-- ---- one step

module _ (d : Defined) (plain : List RawDefinition) (db : List Relation) (f : RawFileView) (h : ArePlainTextsOf d plain db f) where
  abbrev all : List Known
  all = known_of db [] f.definitions

  names : (i : ℕ) → map (λ (r : Relation). r.name) (take i d.definitions) ≡ map (λ (k : Known). k.name) (take i all)
  names i =
      sym (take-map (λ (r : Relation). r.name) i d.definitions)
      ∙ ap (take i) (ap (map (λ (r : Relation). r.name)) h.names ∙ names_again f.definitions ∙ sym (known-names db f.definitions))
      ∙ take-map (λ (k : Known). k.name) i all

  -- a definition that is known
  record IsKnownAs (n : ℕ) (k : Known) : Type 0 where
    text : RawDefinitionView
    at : slice_get f.definitions n ≡ Some text
    same : k ≡ known_with db (take n all) text

  below : {X : Type 0} (xs : List X) (i : ℕ) (x : X) → slice_get xs i ≡ Some x → i < length xs
  below [] i x e = absurd cc
  below (y ∷ xs) zero x e = omega arith
  below (y ∷ xs) (suc i) x e = let b = below xs i x e in omega (arith, b)

  known-as : (n : ℕ) (k : Known) → slice_get all n ≡ Some k → IsKnownAs n k
  known-as n k e =
      let long = below all n k e in
      let size = known-length db f.definitions in
      let it = at_below f.definitions n (omega (arith, long, size)) in
      let both : Some k ≡ Some (known_with db (take n all) it.entry) = sym e ∙ known-at db f.definitions n it.entry it.is in
      record { text = it.entry; at = it.is; same = cc }

  -- its columns are those of the relation that it is
  columns-as : (n : ℕ) (k : Known) (r : Relation) → slice_get all n ≡ Some k → slice_get d.definitions n ≡ Some r → r.columns ≡ k.columns
  columns-as n k r e er =
      let t = known-as n k e in
      let own : slice_get d.definitions n ≡ Some (rowless t.text.name t.text.columns) = ap (λ l. slice_get l n) h.names ∙ got-map (λ (w : RawDefinitionView). rowless w.name w.columns) f.definitions n t.text t.at in
      let both : Some r ≡ Some (rowless t.text.name t.text.columns) = sym er ∙ own in
      let same : r ≡ rowless t.text.name t.text.columns = cc in
      ap (λ (x : Relation). x.columns) same ∙ ap (λ (x : Known). x.columns) (sym t.same)

  -- its text without operators
  body-as : (n : ℕ) (k : Known) (e : slice_get all n ≡ Some k) (x : RawDefinition) → slice_get plain n ≡ Some x → raw_form_of x.body ≡ (plain_definition (known-as n k e).text).body
  body-as n k e x ex =
      let t = known-as n k e in
      let own : slice_get (map raw_definition_of plain) n ≡ Some (raw_definition_of x) = got-map raw_definition_of plain n x ex in
      let written : slice_get (map plain_definition f.definitions) n ≡ Some (plain_definition t.text) = got-map plain_definition f.definitions n t.text t.at in
      let both : Some (raw_definition_of x) ≡ Some (plain_definition t.text) = sym own ∙ ap (λ l. slice_get l n) h.plain ∙ written in
      let same : raw_definition_of x ≡ plain_definition t.text = cc in
      ap (λ (y : RawDefinitionView). y.body) same

  -- whatever the definition becomes that it names, it becomes
  pub step-is : (i j : ℕ) (x : RawDefinition) (q : Place) (n : Identifier) (ts : List RawTerm) (vs : List Identifier) (r : Relation) → slice_get plain i ≡ Some x → raw_form_of x.body ≡ raw_atom q n ts
      → definition_number d i n ≡ Some j → j < i → slice_get d.definitions j ≡ Some r → AreVariables r.columns ts vs
      → (name : Identifier → Identifier) (p : Place) (first : ℕ) (form : RawForm) → IsBodyBy db f j (read_by (passed_name (as_themselves name r.columns vs) first) p (suc first)) form → IsBodyBy db f i (read_by name p first) form
  step-is i j x q n ts vs r ex atom number lt er vars name p first form of k e =
      let t = known-as i k e in
      let ks : List Known = take i all in
      let u : UseSetting = read_by name p first k.counted in
      let text : (plain_definition t.text).body ≡ raw_atom q n ts = sym (body-as i k e x ex) ∙ atom in
      let long = below all i k e in
      let it = at_below all j (omega (arith, long, lt)) in
      let meant : meant_by db ks n ≡ Some it.entry = ap (λ l. meant_by l ks n) (sym h.database) ∙ number_there d ks i n (names i) j number ∙ among_first all j i lt ∙ it.is in
      let columns : r.columns ≡ it.entry.columns = columns-as j it.entry r it.is er in
      let own : AreVariables it.entry.columns ts vs = subst (λ cs. AreVariables cs ts vs) columns vars in
      let counted : numbers_before k.counted q ≡ 0 = ap (λ (y : Known). numbers_before y.counted q) t.same ∙ alone db ks t.text.body _ _ q n ts text in
      let number_is : u.number q ≡ first = omega (arith, counted) in
      of it.entry it.is
      ∙ ap (λ cs. it.entry.form (read_by (passed_name (as_themselves name cs vs) first) p (suc first) it.entry.counted)) columns
      ∙ sym (variables-form u p first it.entry ts vs own)
      ∙ ap (λ m. use_form u p m it.entry ts) (sym number_is)
      ∙ ap (inlined_atom u p (u.number q) n (columns_in (relation_named db n)) ts) (sym meant)
      ∙ ap (λ g. inlined db ks g u) (sym text)
      ∙ ap (λ (y : Known). y.form (read_by name p first k.counted)) (sym t.same)
