-- A use of a definition.
use mathlib.Core.Path.{fun_ext}
use Rattle.std.proofs.Common.{◌≡◌, ℕ, zero, suc, ◌+◌, Option, Some, None, List, [], ◌∷◌, ◌++◌, map, take, slice_get, refl, ap, ap₂, sym, subst, ◌∙◌, arith}
use Rattle.lrp_model.specs.DatabaseMeaning.{column_of}
use Rattle.lrp_model.specs.RawQueries.{RawDefinitionView, RawFileView, RawForm, raw_definition_of, raw_form_of}
use Rattle.lrp_model.specs.Texts.{Identifier}
use Rattle.lrp_model.specs.declared.raw.RawColumn.{RawColumn}
use Rattle.lrp_model.specs.declared.raw.RawDefinition.{RawDefinition}
use Rattle.lrp_model.specs.declared.relations.Column.{Column}
use Rattle.lrp_model.specs.declared.relations.Relation.{Relation}
use Rattle.lrp_model.specs.declared.tokens.Place.{Place}
use Rattle.lrp_sorts.specs.Definitions.{rowless}
use Rattle.lrp_wide.specs.Counts.{file_numbers, kept_in, stopped_counts}
use Rattle.lrp_wide.specs.Inlining.{Counted, Known, Passed, UseSetting, compared_columns, compared_form, counted_from, known_of, known_with, passed, passed_name, plain_definition, some_each, star_columns, star_total, use_form}
use Rattle.lrp_wide.specs.Inside.{AreArguments, AreBeside}
use Rattle.lrp_wide.specs.Settings.{and_after, name_passed, passed_of}
use Rattle.lrp_wide.specs.declared.atoms.Met.{Met}
use Rattle.lrp_wide.specs.declared.inlining.Written.{Written}
use Rattle.lrp_wide.specs.declared.passing.Arguments.{Arguments}
use Rattle.lrp_wide.specs.declared.uses.Passed.{Passed as PassedOf}
use Rattle.lrp_wide.proofs.InlineKnown.{known-at}
use Rattle.lrp_wide.proofs.InlineNames.{names_are}
use Rattle.lrp_wide.proofs.InlineParts.{compared-is}
use Rattle.lrp_wide.proofs.NumberKnown.{got-map}

-- ---- the setting of a use

-- what a use makes of the names, places and numbers of its definition
pub use-setting : (p : Place) (k first : ℕ) (given : List PassedOf) (ps : List Passed) (start : ℕ) (counted own : List Counted) → passed_of ps given → first ≡ start → counted ≡ own
    → ◌≡◌ {A = UseSetting} (record { name = name_passed given k; place = λ q. p; number = counted_from first counted }) (record { name = passed_name ps k; place = λ q. p; number = counted_from start own })
use-setting p k first given ps start counted own h ef ec =
    let as_setting : (Identifier → Identifier) → (Place → ℕ) → UseSetting = λ f g. record { name = f; place = λ q. p; number = g } in
    let names : name_passed given k ≡ passed_name ps k = fun_ext (λ v. names_are ps given k v h) in
    ap (λ (f : Identifier → Identifier). as_setting f (counted_from first counted)) names ∙ ap₂ (λ x y. as_setting (passed_name ps k) (counted_from x y)) ef ec

-- ---- its formula

-- where its columns, its numbers and its body are those of the definition
pub used-form : (s : UseSetting) (met : Met) (k : Known) (columns : List Column) (a : Arguments) (of : RawForm) (there : UseSetting) → columns ≡ k.columns → AreArguments s met columns a
    → there ≡ record { name = passed_name (passed s met.place met.number (suc met.number) k.columns met.terms.now) met.number; place = λ q. met.place; number = counted_from (suc met.number + star_total k.columns met.terms.now) k.counted }
    → of ≡ k.form there → some_each met.place a.stars.items (some_each met.place a.columns.items (and_after met.place a.comparisons.items of)) ≡ use_form s met.place met.number k met.terms.now
used-form s met k columns a of there ec h es eo =
    let g : AreArguments s met k.columns a = subst (λ cs. AreArguments s met cs a) ec h in
    let p : Place = met.place in
    let ps : List Passed = passed s p met.number (suc met.number) k.columns met.terms.now in
    let stars : List RawColumn = star_columns p (suc met.number) k.columns met.terms.now in
    ap₂ (λ x y. some_each p x (some_each p y (and_after p a.comparisons.items of))) g.stars g.columns
    ∙ ap (some_each p stars) (compared-is p ps a.comparisons.items of g.comparisons)
    ∙ ap (λ f. some_each p stars (compared_form p (compared_columns ps) ps f)) (eo ∙ ap k.form es)

-- ---- its definition

module _ (db : List Relation) (w : Written) (f : RawFileView) (around : AreBeside db w f) (n : ℕ) (d : RawDefinitionView) (there : slice_get f.definitions n ≡ Some d) where
  abbrev all_known : List Known
  all_known = known_of db [] f.definitions

  -- its columns
  pub used-columns : (r : Relation) → slice_get w.definitions.now.definitions n ≡ Some r → r.columns ≡ map column_of d.columns
  used-columns r e =
      let own : slice_get w.definitions.now.definitions n ≡ Some (rowless d.name d.columns) =
      ap (λ l. slice_get l n) around.written.names ∙ got-map (λ (x : RawDefinitionView). rowless x.name x.columns) f.definitions n d there in
      let both : Some r ≡ Some (rowless d.name d.columns) = sym e ∙ own in
      let same : r ≡ rowless d.name d.columns = cc in
      ap (λ (x : Relation). x.columns) same

  -- its body without operators
  pub used-body : (x : RawDefinition) → slice_get w.plain.now n ≡ Some x → raw_form_of x.body ≡ (plain_definition d).body
  used-body x e =
      let own : slice_get (map raw_definition_of w.plain.now) n ≡ Some (raw_definition_of x) = got-map raw_definition_of w.plain.now n x e in
      let plain : slice_get (map plain_definition f.definitions) n ≡ Some (plain_definition d) = got-map plain_definition f.definitions n d there in
      let both : Some (raw_definition_of x) ≡ Some (plain_definition d) = sym own ∙ ap (λ l. slice_get l n) around.written.plain ∙ plain in
      let same : raw_definition_of x ≡ plain_definition d = cc in
      ap (λ (y : RawDefinitionView). y.body) same

  first_of : {X : Type 0} (xs ys : List X) (i : ℕ) (x : X) → slice_get xs i ≡ Some x → slice_get (xs ++ ys) i ≡ Some x
  first_of [] ys i x e = absurd cc
  first_of (y ∷ xs) ys zero x e = e
  first_of (y ∷ xs) ys (suc i) x e = first_of xs ys i x e

  -- its numbers, as they are kept
  pub used-numbers : slice_get w.numbers.now n ≡ Some (kept_in db (take n all_known) d.body)
  used-numbers =
      let k : Known = known_with db (take n (known_of db [] f.definitions)) d in
      let all : w.numbers.now ≡ file_numbers db f = around.written.numbers ∙ ap (λ rs. file_numbers rs f) around.database in
      let kept : Known → List Counted = λ x. stopped_counts x.counted in
      let own : slice_get (map kept (known_of db [] f.definitions)) n ≡ Some (kept k) = got-map kept (known_of db [] f.definitions) n k (known-at db f.definitions n d there) in
      ap (λ l. slice_get l n) all ∙ first_of _ _ n (kept k) own
