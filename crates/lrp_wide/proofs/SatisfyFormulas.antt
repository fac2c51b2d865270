-- A formula whose uses and `*` are written out is satisfied exactly where it is satisfied as it is written.
use Rattle.std.proofs.Common.{◌≡◌, ◌↔◌, ℕ, suc, ◌+◌, List, ◌∷◌, Option, Some, None, refl, sym, subst}
use Rattle.lrp_model.specs.Texts.{Identifier}
use Rattle.lrp_model.specs.Rows.{Datum, Holds, relation_named, columns_in}
use Rattle.lrp_model.specs.Satisfaction.{Structure, Assignment, Satisfies, SatisfiesAll, SatisfiesSome, with_value, HaveDistinctNames}
use Rattle.lrp_model.specs.Sorting.{Binders}
use Rattle.lrp_model.specs.Checked.{plain, plain_each}
use Rattle.lrp_model.specs.RawQueries.{RawForm, RawForms, raw_atom, raw_compare, raw_member, raw_not, raw_and, raw_or, raw_implies, raw_group, raw_exists, raw_forall, raw_ranged, raw_paired, no_raws, raw}
use Rattle.lrp_model.specs.declared.tokens.Place.{Place}
use Rattle.lrp_model.specs.declared.relations.Column.{Column}
use Rattle.lrp_model.specs.declared.raw.RawTerm.{RawTerm}
use Rattle.lrp_model.proofs.Logic.{same}
use Rattle.lrp_tense.proofs.Iff.{both_iff, imply_iff, not_iff, either_iff, some_iff, each_iff}
use Rattle.lrp_wide.specs.Meaning.{Interpretation, Signature, WideSatisfies, WideSatisfiesAll, WideSatisfiesSome, HoldsOf}
use Rattle.lrp_wide.specs.Inlining.{UseSetting, Known, set_column, counted_from, star_total, passed, passed_name, compared_columns, compared_form, inlined_atom, meant_by, inlined, inlined_each}
use Rattle.lrp_wide.proofs.SatisfyNotions.{FitColumns, IsFit, AreFit, BindsFresh, BindFresh, TextsIn, HasTexts, HaveTexts}
use Rattle.lrp_wide.proofs.SatisfyTerms.{Carries, carries_on, carries_binder, same_member, same_compare}
use Rattle.lrp_wide.proofs.SatisfyAtoms.{chosen, relation_holds}
use Rattle.lrp_wide.proofs.SatisfyNames.{named}
use Rattle.lrp_wide.proofs.SatisfyUses.{HasValues, use_says}

-- ---- what names mean

-- in each setting a definition's formula says this of the values of its columns
pub record Inlines (M : Structure) (d : Known) (P : List Datum → Type 0) : Type 0 where
  pub says : (s : UseSetting) (cs : Binders) (other : Assignment) (ds : List Datum) → BindsFresh (d.form s) cs → HasValues s.name cs other d.columns ds → P ds ↔ Satisfies (plain (d.form s) cs) M other

-- a name means this definition, if it is one that is used
pub record MeansDefinition (M : Structure) (P : List Datum → Type 0) (R : Type 0) (columns : List Column) (d : Known) : Type 0 where
  pub columns_same : d.columns ≡ columns
  pub distinct : HaveDistinctNames d.columns
  pub inlines : R → Inlines M d P

-- or a relation
pub record MeansRelation (M : Structure) (n : Identifier) (P : List Datum → Type 0) (columns : List Column) : Type 0 where
  pub columns_same : columns_in (relation_named M.relations n) ≡ columns
  pub holds : (ds : List Datum) → P ds ↔ Holds M.relations n ds

abbrev pub Means : Structure → Identifier → (List Datum → Type 0) → Type 0 → List Column → Option Known → Type 0
Means M n P R columns None = MeansRelation M n P columns
Means M n P R columns (Some d) = MeansDefinition M P R columns d

-- ---- formulas

module _ (M : Structure) (I : Interpretation) (ks : List Known) (R : Identifier → Type 0) (columns : Signature) (columns_same : (n : Identifier) → I.columns n ≡ columns n) (means : (n : Identifier) → Means M n (I.holds n) (R n) (columns n) (meant_by M.relations ks n)) where
  atom_same : (s : UseSetting) (p : Place) (k : ℕ) (n : Identifier) (ts : List RawTerm) (o : Option Known) (bs cs : Binders) (env other : Assignment) → Means M n (I.holds n) (R n) (columns n) o → R n → TextsIn M (columns n) ts → FitColumns bs (columns n) ts
      → BindsFresh (inlined_atom s p k n (columns_in (relation_named M.relations n)) ts o) cs → Carries s.name bs cs env other
      → HoldsOf M bs env (I.holds n) (columns n) ts ↔ Satisfies (plain (inlined_atom s p k n (columns_in (relation_named M.relations n)) ts o) cs) M other
  atom_same s p k n ts None bs cs env other m named_there texts fits fresh carried =
      subst (λ all. HoldsOf M bs env (I.holds n) all ts ↔ Satisfies (plain (inlined_atom s p k n (columns_in (relation_named M.relations n)) ts None) cs) M other) m.columns_same
      (relation_holds M s p k n (columns_in (relation_named M.relations n)) ts (I.holds n) bs cs env other carried (subst (λ all. FitColumns bs all ts) (sym m.columns_same) fits) fresh m.holds)
  atom_same s p k n ts (Some d) bs cs env other m named_there texts fits fresh carried =
      let inside : UseSetting = record { name = passed_name (passed s p k (suc k) d.columns ts) k; place = λ q. p; number = counted_from (suc k + star_total d.columns ts) d.counted } in
      subst (λ all. HoldsOf M bs env (I.holds n) all ts ↔ Satisfies (plain (inlined_atom s p k n (columns_in (relation_named M.relations n)) ts (Some d)) cs) M other) m.columns_same
      (chosen M bs env p (compared_form p (compared_columns (passed s p k (suc k) d.columns ts)) (passed s p k (suc k) d.columns ts) (d.form inside)) d.columns ts (suc k) (I.holds n) cs other fresh
      (λ ds last final kept f taken. use_says s p k bs env M last final d.columns ts ds (suc k) (passed_name (passed s p k (suc k) d.columns ts) k) (d.form inside) (I.holds n ds)
      (carries_on s.name bs cs last env other final carried kept) (subst (λ all. FitColumns bs all ts) (sym m.columns_same) fits) (subst (λ all. TextsIn M all ts) (sym m.columns_same) texts) taken
      (named s p k d.columns ts (suc k) m.distinct) f (λ l o b v. (m.inlines named_there).says inside l o ds b v)))

  mutual
    pub satisfied : (f : RawForm) (s : UseSetting) (bs cs : Binders) (env other : Assignment) → IsFit f columns bs → HasTexts f R columns M → BindsFresh (inlined M.relations ks f s) cs → Carries s.name bs cs env other
        → WideSatisfies f I bs M env ↔ Satisfies (plain (inlined M.relations ks f s) cs) M other
    satisfied (raw_atom p n ts) s bs cs env other t x f h =
        subst (λ all. HoldsOf M bs env (I.holds n) all ts ↔ Satisfies (plain (inlined M.relations ks (raw_atom p n ts) s) cs) M other) (sym (columns_same n))
        (atom_same s (s.place p) (s.number p) n ts (meant_by M.relations ks n) bs cs env other (means n) x.0 x.1 t f h)
    satisfied (raw_compare p l op r) s bs cs env other t x f h = same_compare s bs cs env other h op p l r t
    satisfied (raw_member p term point) s bs cs env other t x f h = same_member s bs cs env other h term point t.0 t.1
    satisfied (raw_not p g) s bs cs env other t x f h = not_iff (satisfied g s bs cs env other t x f h)
    satisfied (raw_and p fs) s bs cs env other t x f h = satisfied_all fs s bs cs env other t x f h
    satisfied (raw_or p fs) s bs cs env other t x f h = satisfied_some fs s bs cs env other t x f h
    satisfied (raw_implies p g k) s bs cs env other t x f h = imply_iff (satisfied g s bs cs env other t.0 x.0 f.0 h) (satisfied k s bs cs env other t.1 x.1 f.1 h)
    satisfied (raw_group p g) s bs cs env other t x f h = satisfied g s bs cs env other t x f h
    satisfied (raw_exists p c g) s bs cs env other t x f h =
        some_iff (λ d o. satisfied g s (c ∷ bs) (set_column s c ∷ cs) (with_value c.name d env) (with_value (s.name c.name) d other) t.1 x f.1 (carries_binder M s.name bs cs env other c (set_column s c) refl refl f.0 h d o))
    satisfied (raw_forall p c g) s bs cs env other t x f h =
        each_iff (λ d o. satisfied g s (c ∷ bs) (set_column s c ∷ cs) (with_value c.name d env) (with_value (s.name c.name) d other) t.1 x f.1 (carries_binder M s.name bs cs env other c (set_column s c) refl refl f.0 h d o))
    satisfied (raw_ranged word o from to g) s bs cs env other t x f h = absurd t
    satisfied (raw_paired word o g k) s bs cs env other t x f h = absurd t

    satisfied_all : (fs : RawForms) (s : UseSetting) (bs cs : Binders) (env other : Assignment) → AreFit fs columns bs → HaveTexts fs R columns M → BindFresh (inlined_each M.relations ks fs s) cs → Carries s.name bs cs env other
        → WideSatisfiesAll fs I bs M env ↔ SatisfiesAll (plain_each (inlined_each M.relations ks fs s) cs) M other
    satisfied_all no_raws s bs cs env other t x f h = same
    satisfied_all (raw g fs) s bs cs env other t x f h = both_iff (satisfied g s bs cs env other t.0 x.0 f.0 h) (satisfied_all fs s bs cs env other t.1 x.1 f.1 h)

    satisfied_some : (fs : RawForms) (s : UseSetting) (bs cs : Binders) (env other : Assignment) → AreFit fs columns bs → HaveTexts fs R columns M → BindFresh (inlined_each M.relations ks fs s) cs → Carries s.name bs cs env other
        → WideSatisfiesSome fs I bs M env ↔ SatisfiesSome (plain_each (inlined_each M.relations ks fs s) cs) M other
    satisfied_some no_raws s bs cs env other t x f h = same
    satisfied_some (raw g fs) s bs cs env other t x f h = either_iff (satisfied g s bs cs env other t.0 x.0 f.0 h) (satisfied_some fs s bs cs env other t.1 x.1 f.1 h)
