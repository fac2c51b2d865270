-- Atoms in a scene: which definition one names, and what a use of it becomes.
use Rattle.std.proofs.Common.{◌≡◌, ℕ, zero, suc, ◌+◌, ◌*◌, ◌<◌, ◌≤◌, Option, Some, None, List, [], ◌∷◌, map, length, take, get_or, slice_get, refl, ap, ap₂, sym, subst, ◌∙◌, arith}
use Rattle.std.specs.List.{AllByRecursion}
use Rattle.std.proofs.lemmas.List.{length-map}
use Rattle.lrp_model.specs.RawQueries.{HasNoOperator, RawDefinitionView, RawFileView, RawForm, raw_form_of}
use Rattle.lrp_model.specs.Rows.{columns_in, relation_named}
use Rattle.lrp_model.specs.Texts.{Identifier}
use Rattle.lrp_model.specs.declared.raw.RawDefinition.{RawDefinition}
use Rattle.lrp_model.specs.declared.raw.RawFormula.{RawFormula}
use Rattle.lrp_model.specs.declared.raw.RawKind.{Atom}
use Rattle.lrp_model.specs.declared.raw.RawTerm.{RawTerm}
use Rattle.lrp_model.specs.declared.relations.Column.{Column}
use Rattle.lrp_model.specs.declared.relations.Relation.{Relation}
use Rattle.lrp_model.specs.declared.tokens.Place.{Place}
use Rattle.lrp_wide.specs.Inlining.{Counted, Known, Passed, UseSetting, compared_form, counted_from, counted_in, inlined, inlined_atom, known_of, known_with, meant_by, passed, passed_name, some_each, star_total, use_form}
use Rattle.lrp_wide.specs.Inside.{AreArguments, AreBeside, AreWritten, HasPlainBody, IsAround, IsUsedBody, IsInsideBody, IsNamedIn, IsUsed, body_setting, inlined_here, known_by, known_here, met_form}
use Rattle.lrp_wide.specs.Counts.{stopped_counts}
use Rattle.lrp_wide.specs.Limits.{depth_of}
use Rattle.lrp_wide.specs.Settings.{and_after, name_passed, setting_of}
use Rattle.lrp_wide.specs.declared.atoms.Met.{Met}
use Rattle.lrp_wide.specs.declared.inlining.UsedBody.{UsedBody}
use Rattle.lrp_wide.specs.declared.inlining.Named.{Named}
use Rattle.lrp_wide.specs.declared.inlining.Scene.{Scene}
use Rattle.lrp_wide.specs.declared.inlining.Written.{Written}
use Rattle.lrp_wide.specs.declared.passing.Arguments.{Arguments}
use Rattle.lrp_wide.specs.declared.uses.Passed.{Passed as PassedOf}
use Rattle.lrp_wide.proofs.InlineAtoms.{atom-used}
use Rattle.lrp_wide.proofs.InlineKnown.{known-at, known-length}
use Rattle.lrp_wide.proofs.InlineMeasures.{earlier-less, work_before, work_of}
use Rattle.lrp_wide.proofs.InlineSteps.{atom_step}
use Rattle.lrp_wide.proofs.InlineUses.{use-setting, used-body, used-columns, used-form, used-numbers}
use Rattle.lrp_wide.proofs.NumberKnown.{at_below}

-- ---- the definition that is named

pub get_of : {X : Type 0} (xs : List X) (i : ℕ) (x : X) → slice_get xs i ≡ Some x → x ≡ get_or xs i x
get_of [] i x e = absurd cc
get_of (y ∷ xs) zero x e = let h : Some y ≡ Some x = e in cc
get_of (y ∷ xs) (suc i) x e = get_of xs i x e

-- its body is less work
pub use-less : (s : Scene) (d : Named) (x : RawDefinition) → IsNamedIn s d → slice_get d.written.plain.now d.number ≡ Some x
    → work_before s.written d.number + 4 * depth_of (raw_form_of x.body) + 3 < work_before s.written s.setting.before
use-less s d x h e =
    let own : work_before s.written d.number ≡ work_of (take d.number d.written.plain.now) = ap (λ o. work_before o d.number) h.written in
    let all : work_before s.written s.setting.before ≡ work_of (take s.setting.before d.written.plain.now) = ap (λ o. work_before o s.setting.before) h.written in
    let less = earlier-less d.written.plain.now d.number s.setting.before x h.before h.there (get_of d.written.plain.now d.number x e) in
    omega (arith, own, all, less)

plain_of : (xs : List RawDefinition) (i : ℕ) (x : RawDefinition) → AllByRecursion HasPlainBody xs → slice_get xs i ≡ Some x → HasPlainBody x
plain_of [] i x h e = absurd cc
plain_of (y ∷ xs) zero x h e = let both : Some y ≡ Some x = e in let same : y ≡ x = cc in subst HasPlainBody same h.0
plain_of (y ∷ xs) (suc i) x h e = plain_of xs i x h.1 e

-- and has no operator
pub use-plain : (s : Scene) (d : Named) (x : RawDefinition) → IsNamedIn s d → slice_get d.written.plain.now d.number ≡ Some x → HasNoOperator (raw_form_of x.body)
use-plain s d x h e = plain_of d.written.plain.now d.number x h.whole.operators e

-- ---- what a use becomes

below_of : {X : Type 0} (xs : List X) (i : ℕ) (x : X) → slice_get xs i ≡ Some x → i < length xs
below_of [] i x e = absurd cc
below_of (y ∷ xs) zero x e = omega arith
below_of (y ∷ xs) (suc i) x e = let h = below_of xs i x e in omega (arith, h)

-- what the body of a use is read by
plain-setting : (s : UseSetting) (d : Named) (met : Met) (a : Arguments) (k : Known) → AreArguments s met k.columns a
    → body_setting (record { named = d; number = met.number; place = met.place; first = a.next; passed = a.passed }) k.counted
    ≡ record { name = passed_name (passed s met.place met.number (suc met.number) k.columns met.terms.now) met.number; place = λ q. met.place; number = counted_from (suc met.number + star_total k.columns met.terms.now) k.counted }
plain-setting s d met a k own =
    use-setting met.place met.number a.next a.passed.items (passed s met.place met.number (suc met.number) k.columns met.terms.now) (suc met.number + star_total k.columns met.terms.now) k.counted k.counted own.passed own.next refl

-- what stands around a use stands around its body
pub around_inside : (s : Scene) (b : UsedBody) (inner : Scene) (file : RawFileView) → IsInsideBody s b inner → IsAround s file → IsAround inner file
around_inside s b inner file h around = subst (λ o. AreWritten inner.catalog.now o file) (sym h.written) (subst (λ l. AreWritten l s.written file) (sym h.catalog) around)

-- what a body is read by, as it is kept
pub body-reads : (b : UsedBody) (given : List PassedOf) (own counted : List Counted) → given ≡ b.passed.items → own ≡ counted
    → ◌≡◌ {A = UseSetting} (record { name = name_passed given b.number; place = λ q. b.place; number = counted_from b.first own }) (body_setting b counted)
body-reads b given own counted eg same =
    let as_setting : List PassedOf → List Counted → UseSetting = λ l c. record { name = name_passed l b.number; place = λ q. b.place; number = counted_from b.first c } in
    ap₂ as_setting eg same

module _ (s : Scene) (file : RawFileView) (w : Written) (is : s.written ≡ Some w) (around : IsAround s file) where
  beside : AreBeside s.catalog.now w file
  beside = subst (λ o. AreWritten s.catalog.now o file) is around

  abbrev all_known : List Known
  all_known = known_of s.catalog.now [] file.definitions

  -- a definition that is known is one of the file, beside those before it
  pub record IsKnownOf (n : ℕ) (k : Known) : Type 0 where
    pub text : RawDefinitionView
    pub at : slice_get file.definitions n ≡ Some text
    pub same : k ≡ known_with s.catalog.now (take n all_known) text

  known-text : (n : ℕ) (k : Known) → slice_get all_known n ≡ Some k → IsKnownOf n k
  known-text n k e =
      let long = below_of all_known n k e in
      let size = known-length s.catalog.now file.definitions in
      let it = at_below file.definitions n (omega (arith, long, size)) in
      let both : Some k ≡ Some (known_with s.catalog.now (take n all_known) it.entry) = sym e ∙ known-at s.catalog.now file.definitions n it.entry it.is in
      record { text = it.entry; at = it.is; same = cc }

  -- its columns
  pub known-columns : (n : ℕ) (k : Known) → slice_get all_known n ≡ Some k → (r : Relation) → slice_get w.definitions.now.definitions n ≡ Some r → r.columns ≡ k.columns
  known-columns n k e r er =
      let t = known-text n k e in
      used-columns s.catalog.now w file beside n t.text t.at r er ∙ ap (λ (y : Known). y.columns) (sym t.same)

  -- what its text becomes inside a body is what the body becomes
  pub body-is : (b : UsedBody) (inner : Scene) → b.named.written ≡ w → IsNamedIn s b.named → IsInsideBody s b inner → (x : RawDefinition) → slice_get w.plain.now b.named.number ≡ Some x → (k : Known) → slice_get all_known b.named.number ≡ Some k
      → inlined_here inner file (raw_form_of x.body) ≡ k.form (body_setting b k.counted)
  body-is b inner ew named h x ex k e =
      let db : List Relation = s.catalog.now in
      let n : ℕ = b.named.number in
      let t = known-text n k e in
      let counted : List Counted = counted_in db (take n all_known) t.text.body in
      let own : slice_get b.named.written.numbers.now n ≡ Some (stopped_counts counted) = ap (λ (y : Written). slice_get y.numbers.now n) ew ∙ used-numbers db w file beside n t.text t.at in
      let here : List Relation → Option Written → ℕ → UseSetting → RawForm = λ r o i u. inlined r (known_here r o file i) (raw_form_of x.body) u in
      ap₂ (λ r o. here r o inner.setting.before (setting_of inner.setting)) h.catalog (h.written ∙ is)
      ∙ ap₂ (here db (Some w)) h.setting.before (h.setting.reads counted own)
      ∙ ap (λ f. inlined db (take n all_known) f (body_setting b counted)) (used-body db w file beside n t.text t.at x ex)
      ∙ ap (λ (y : Known). y.form (body_setting b y.counted)) (sym t.same)

  -- a use becomes what its body becomes, under its quantifiers
  pub used-is : (d : Named) (met : Met) (a : Arguments) (cs : List Column) (r : Relation) (of made : RawForm) → slice_get w.definitions.now.definitions d.number ≡ Some r → cs ≡ r.columns
      → AreArguments (setting_of s.setting) met cs a → IsUsedBody s file (record { named = d; number = met.number; place = met.place; first = a.next; passed = a.passed }) of
      → made ≡ some_each met.place a.stars.items (some_each met.place a.columns.items (and_after met.place a.comparisons.items of)) → IsUsed s file met d.number made
  used-is d met a cs r of made er ec args h em = record {
    used = λ k e.
        let S : UseSetting = setting_of s.setting in
        let columns : cs ≡ k.columns = ec ∙ known-columns d.number k e r er in
        let own : AreArguments S met k.columns a = subst (λ l. AreArguments S met l a) columns args in
        let b : UsedBody = record { named = d; number = met.number; place = met.place; first = a.next; passed = a.passed } in
        em ∙ used-form S met k cs a of (body_setting b k.counted) columns args (plain-setting S d met a k own) (h.body k e);
  }
