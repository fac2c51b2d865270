-- What is known of the texts of a file whose own texts and whose expanded query are well-sorted.
use Rattle.std.proofs.Common.{◌≡◌, Bool, true, false, List, [], ◌∷◌, ◌++◌, None, map, Contains}
use Rattle.std.specs.Prelude.{reverse}
use Rattle.lrp_model.specs.Texts.{Identifier}
use Rattle.lrp_model.specs.Rows.{relation_named, columns_in}
use Rattle.lrp_model.specs.DatabaseMeaning.{column_of}
use Rattle.lrp_model.specs.Satisfaction.{Structure, HaveDistinctNames}
use Rattle.lrp_model.specs.Sorting.{Binders, binder_sort, term_sort, differs, term_faults, time_faults, compare_faults}
use Rattle.lrp_model.specs.RawQueries.{RawForm, RawForms, RawQuestion, RawDefinitionView, raw_atom, raw_compare, raw_member, raw_not, raw_and, raw_or, raw_implies, raw_group, raw_exists, raw_forall, raw_ranged, raw_paired, no_raws, raw}
use Rattle.lrp_model.specs.declared.relations.Sort.{Sort}
use Rattle.lrp_model.specs.declared.relations.Column.{Column}
use Rattle.lrp_model.specs.declared.relations.Relation.{Relation}
use Rattle.lrp_model.specs.declared.raw.RawTerm.{RawTerm}
use Rattle.lrp_model.specs.declared.raw.RawTermKind.{RawTermKind}
use Rattle.lrp_model.specs.declared.raw.RawTermKind.TheVariants.{Int, Text, Var, Shifted}
use Rattle.lrp_tense.specs.Expanding.{HasPlainNames, expanded_question}
use Rattle.lrp_wide.specs.Meaning.{Signature, is_star}
use Rattle.lrp_wide.specs.Stars.{BindsNoStar}
use Rattle.lrp_wide.specs.WideSorting.{defined_relation, query_of}

-- the columns of each name
abbrev pub columns_of : List Relation → Signature
columns_of all n = columns_in (relation_named all n)

-- ---- a formula without operators

-- nothing is asked of a `*`
abbrev pub Unless : Bool → Type 0 → Type 0
Unless true P = Unit {0}
Unless false P = P

-- a term without a fault, of the column's sort
pub record FitsColumn (bs : Binders) (c : Column) (t : RawTerm) : Type 0 where
  pub bound : term_faults bs t ≡ []
  pub sort : differs (term_sort bs t) c.sort ≡ false

-- a term for each column, a `*` or one that fits
abbrev pub FitColumns : Binders → List Column → List RawTerm → Type 0
FitColumns bs [] [] = Unit {0}
FitColumns bs [] (t ∷ ts) = ⊥
FitColumns bs (c ∷ cs) [] = ⊥
FitColumns bs (c ∷ cs) (t ∷ ts) = Unless (is_star t) (FitsColumn bs c t) × FitColumns bs cs ts

-- terms fit their columns, comparisons and points have no fault, and no binder has a name that is bound around it
abbrev mutual
  pub IsFit : RawForm → Signature → Binders → Type 0
  IsFit (raw_atom p n ts) columns bs = FitColumns bs (columns n) ts
  IsFit (raw_compare p l op r) columns bs = (term_faults bs l ≡ []) × ((term_faults bs r ≡ []) × (compare_faults bs l op r ≡ []))
  IsFit (raw_member p t point) columns bs = (term_faults bs t ≡ []) × (time_faults bs t ≡ [])
  IsFit (raw_not p f) columns bs = IsFit f columns bs
  IsFit (raw_and p fs) columns bs = AreFit fs columns bs
  IsFit (raw_or p fs) columns bs = AreFit fs columns bs
  IsFit (raw_implies p f g) columns bs = IsFit f columns bs × IsFit g columns bs
  IsFit (raw_group p f) columns bs = IsFit f columns bs
  IsFit (raw_exists p c f) columns bs = (binder_sort bs c.name ≡ None) × IsFit f columns (c ∷ bs)
  IsFit (raw_forall p c f) columns bs = (binder_sort bs c.name ≡ None) × IsFit f columns (c ∷ bs)
  IsFit (raw_ranged word o from to f) columns bs = ⊥
  IsFit (raw_paired word o f g) columns bs = ⊥

  pub AreFit : RawForms → Signature → Binders → Type 0
  AreFit no_raws columns bs = Unit {0}
  AreFit (raw f fs) columns bs = IsFit f columns bs × AreFit fs columns bs

-- no binder has a name that is bound around it
abbrev mutual
  pub BindsFresh : RawForm → Binders → Type 0
  BindsFresh (raw_atom p n ts) bs = Unit {0}
  BindsFresh (raw_compare p l op r) bs = Unit {0}
  BindsFresh (raw_member p t point) bs = Unit {0}
  BindsFresh (raw_not p f) bs = BindsFresh f bs
  BindsFresh (raw_and p fs) bs = BindFresh fs bs
  BindsFresh (raw_or p fs) bs = BindFresh fs bs
  BindsFresh (raw_implies p f g) bs = BindsFresh f bs × BindsFresh g bs
  BindsFresh (raw_group p f) bs = BindsFresh f bs
  BindsFresh (raw_exists p c f) bs = (binder_sort bs c.name ≡ None) × BindsFresh f (c ∷ bs)
  BindsFresh (raw_forall p c f) bs = (binder_sort bs c.name ≡ None) × BindsFresh f (c ∷ bs)
  BindsFresh (raw_ranged word o from to f) bs = Unit {0}
  BindsFresh (raw_paired word o f g) bs = Unit {0}

  pub BindFresh : RawForms → Binders → Type 0
  BindFresh no_raws bs = Unit {0}
  BindFresh (raw f fs) bs = BindsFresh f bs × BindFresh fs bs

-- ---- a text as it is written

-- a text is one of a column's sort
abbrev pub TextIn : Structure → Sort → RawTermKind → Type 0
TextIn M s (Int x) = Unit {0}
TextIn M s (Text t) = Contains (M.domain s) t
TextIn M s (Var n) = Unit {0}
TextIn M s (Shifted n plus) = Unit {0}

abbrev pub TextsIn : Structure → List Column → List RawTerm → Type 0
TextsIn M [] ts = Unit {0}
TextsIn M (c ∷ cs) [] = Unit {0}
TextsIn M (c ∷ cs) (t ∷ ts) = TextIn M c.sort t.kind × TextsIn M cs ts

-- its atoms name what these names are, and their texts are of their columns' sorts
abbrev mutual
  pub HasTexts : RawForm → (Identifier → Type 0) → Signature → Structure → Type 0
  HasTexts (raw_atom p n ts) R columns M = R n × TextsIn M (columns n) ts
  HasTexts (raw_compare p l op r) R columns M = Unit {0}
  HasTexts (raw_member p t point) R columns M = Unit {0}
  HasTexts (raw_not p f) R columns M = HasTexts f R columns M
  HasTexts (raw_and p fs) R columns M = HaveTexts fs R columns M
  HasTexts (raw_or p fs) R columns M = HaveTexts fs R columns M
  HasTexts (raw_implies p f g) R columns M = HasTexts f R columns M × HasTexts g R columns M
  HasTexts (raw_group p f) R columns M = HasTexts f R columns M
  HasTexts (raw_exists p c f) R columns M = HasTexts f R columns M
  HasTexts (raw_forall p c f) R columns M = HasTexts f R columns M
  HasTexts (raw_ranged word o from to f) R columns M = HasTexts f R columns M
  HasTexts (raw_paired word o f g) R columns M = HasTexts f R columns M × HasTexts g R columns M

  pub HaveTexts : RawForms → (Identifier → Type 0) → Signature → Structure → Type 0
  HaveTexts no_raws R columns M = Unit {0}
  HaveTexts (raw f fs) R columns M = HasTexts f R columns M × HaveTexts fs R columns M

-- a text over these relations, where R are the names that the query names, directly or by others
pub record IsSortedText (all : List Relation) (M : Structure) (R : Identifier → Type 0) (q : RawQuestion) : Type 0 where
  pub names : HasPlainNames q.body
  pub stars : BindsNoStar q.body
  pub fit : IsFit (expanded_question q).body (columns_of all) (reverse q.head)
  pub texts : HasTexts q.body R (columns_of all) M

-- a definition beside these relations, with those before it among them; one that the query does not name is never used
pub record IsSortedDefinition (all : List Relation) (M : Structure) (R : Identifier → Type 0) (d : RawDefinitionView) : Type 0 where
  pub fresh : relation_named all d.name ≡ None
  pub distinct : HaveDistinctNames (map column_of d.columns)
  pub text : R d.name → IsSortedText all M R (query_of d)

abbrev pub AreSortedTexts : List Relation → Structure → (Identifier → Type 0) → List RawDefinitionView → RawQuestion → Type 0
AreSortedTexts all M R [] q = IsSortedText all M R q
AreSortedTexts all M R (d ∷ ds) q = IsSortedDefinition all M R d × AreSortedTexts (all ++ defined_relation d ∷ []) M R ds q
