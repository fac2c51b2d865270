-- Renamed terms have the values of the written ones, and comparisons of them hold alike.
use Rattle.std.proofs.Common.{◌≡◌, ◌↔◌, Bool, true, false, ◌&&◌, List, [], ◌∷◌, map, flat_map, refl, sym, ap, ap₂, subst, ◌∙◌}
use Rattle.std.specs.Prelude.{pos, ◌+ℤ◌, if◌then◌else◌}
use Rattle.std.specs.List.{AllByRecursion}
use Rattle.lrp_model.specs.Rows.{time, text}
use Rattle.lrp_model.specs.Satisfaction.{Assignment, Compares, Passes, time_value, text_value, term_value}
use Rattle.lrp_model.specs.Sorting.{Binders, binder_sort, alone_sort, shifted_sort, kind_sort, term_sort, is_data_term, variable_faults, kind_faults, term_faults, time_faults}
use Rattle.lrp_model.specs.Checked.{term_of, compare_of}
use Rattle.lrp_model.specs.RawTerms.{time_of, data_of, is_equality}
use Rattle.lrp_model.specs.RawQueries.{raw_compare}
use Rattle.lrp_model.specs.declared.tokens.Place.{Place}
use Rattle.lrp_model.specs.declared.relations.RowPoint.{RowPoint}
use Rattle.lrp_model.specs.declared.formulas.Term.TheVariants.{Time as time_term, Data as data_term}
use Rattle.lrp_model.specs.declared.formulas.Op.{Op}
use Rattle.lrp_model.specs.declared.formulas.Test.TheVariants.{Compare, Member, Equal}
use Rattle.lrp_model.specs.declared.raw.RawTerm.{RawTerm}
use Rattle.lrp_model.specs.declared.raw.RawTermKind.{RawTermKind}
use Rattle.lrp_model.specs.declared.raw.RawTermKind.TheVariants.{Int, Text, Var, Shifted}
use Rattle.lrp_tense.specs.Expanding.{Naming, renamed_kind, renamed, IsPlainKind, IsPlainTerm}
use Rattle.lrp_tense.proofs.Scoping.{Follows}
use Rattle.lrp_model.proofs.NoFaults.{both_none, none_if}
use Rattle.lrp_tense.proofs.Timely.{IsTimely, shifted_times, read_times, read_texts}
use Rattle.lrp_theory.specs.Divides.{IsPointMember}

pub by_equal : {A : Type 0} (P : A → Type 0) (x y : A) → x ≡ y → P x ↔ P y
by_equal P x y e = (subst P e, subst P (sym e))

-- the sides of an `=` are both texts
abbrev are_texts : Op → Binders → RawTerm → RawTerm → Bool
are_texts op bs l r = is_equality op && is_data_term (term_sort bs l) && is_data_term (term_sort bs r)

module _ (names : Naming) (bs cs : Binders) (env other : Assignment) (h : Follows names bs cs env other) where
  same_sort : (k : RawTermKind) → IsPlainKind k → kind_sort cs (renamed_kind names k) ≡ kind_sort bs k
  same_sort (Int x) p = refl
  same_sort (Text t) p = refl
  same_sort (Var n) p = ap alone_sort (h.sorts n p)
  same_sort (Shifted n plus) p = ap shifted_sort (h.sorts n p)

  same_time : (k : RawTermKind) (q : Place) → IsPlainKind k → kind_faults cs (renamed_kind names k) q ≡ [] → is_data_term (kind_sort bs k) ≡ false → time_value other (time_of (renamed_kind names k)) ≡ time_value env (time_of k)
  same_time (Int x) q p f e = refl
  same_time (Text t) q p f e = refl
  same_time (Var n) q p f e = ap (λ x. x +ℤ pos 0) (h.times n p e)
  same_time (Shifted n plus) q p f e = ap (λ x. x +ℤ plus) (h.times n p (shifted_times (binder_sort bs n) q (subst (λ o. variable_faults o true q ≡ []) (h.sorts n p) f)))

  same_text : (k : RawTermKind) → IsPlainKind k → is_data_term (kind_sort bs k) ≡ true → text_value other (data_of (renamed_kind names k)) ≡ text_value env (data_of k)
  same_text (Int x) p e = refl
  same_text (Text t) p e = refl
  same_text (Var n) p e = h.texts n p e
  same_text (Shifted n plus) p e = refl

  same_term : (t : RawTerm) → IsPlainTerm t → term_faults cs (renamed names t) ≡ [] → term_value env (term_of bs t) ≡ term_value other (term_of cs (renamed names t))
  same_term t p f = by_kind (is_data_term (term_sort bs t)) (is_data_term (term_sort cs (renamed names t))) refl (ap is_data_term (same_sort t.kind p))
    where
      by_kind : (c b : Bool) → is_data_term (term_sort bs t) ≡ c → b ≡ is_data_term (term_sort bs t)
          → term_value env (if c then data_term (data_of t.kind) else time_term (time_of t.kind)) ≡ term_value other (if b then data_term (data_of (renamed_kind names t.kind)) else time_term (time_of (renamed_kind names t.kind)))
      by_kind true true s e = ap text (sym (same_text t.kind p s))
      by_kind false false s e = ap time (sym (same_time t.kind t.place p f s))
      by_kind true false s e = cc
      by_kind false true s e = cc

  pub same_terms : (ts : List RawTerm) → AllByRecursion IsPlainTerm ts → flat_map (term_faults cs) (map (renamed names) ts) ≡ [] → map (term_value env) (map (term_of bs) ts) ≡ map (term_value other) (map (term_of cs) (map (renamed names) ts))
  same_terms [] p f = refl
  same_terms (t ∷ ts) p f =
      let x = both_none (term_faults cs (renamed names t)) (flat_map (term_faults cs) (map (renamed names) ts)) f in
      ap₂ (λ d ds. d ∷ ds) (same_term t p.0 x.0) (same_terms ts p.1 x.1)

  pub same_member : (t : RawTerm) (point : RowPoint) → IsPlainTerm t → term_faults cs (renamed names t) ≡ [] → time_faults cs (renamed names t) ≡ []
      → Passes env (Member (time_of t.kind) point) ↔ Passes other (Member (time_of (renamed_kind names t.kind)) point)
  same_member t point p f e =
      let k : is_data_term (term_sort bs t) ≡ false = sym (ap is_data_term (same_sort t.kind p)) ∙ none_if (is_data_term (term_sort cs (renamed names t))) _ e in
      by_equal (λ x. IsPointMember point.offset point.period x) (time_value env (time_of t.kind)) (time_value other (time_of (renamed_kind names t.kind))) (sym (same_time t.kind t.place p f k))

  pub same_compare : (op : Op) (q : Place) (l r : RawTerm) → IsPlainTerm l → IsPlainTerm r → IsTimely (raw_compare q (renamed names l) op (renamed names r)) cs
      → Passes env (compare_of bs l op r) ↔ Passes other (compare_of cs (renamed names l) op (renamed names r))
  same_compare op q l r lp rp t = by_kind (are_texts op bs l r) (are_texts op cs (renamed names l) (renamed names r)) refl refl (ap₂ (λ a b. is_equality op && is_data_term a && is_data_term b) (same_sort l.kind lp) (same_sort r.kind rp))
    where
      back : (k : RawTerm) → IsPlainTerm k → (b : Bool) → is_data_term (term_sort cs (renamed names k)) ≡ b → is_data_term (term_sort bs k) ≡ b
      back k p b e = sym (ap is_data_term (same_sort k.kind p)) ∙ e

      by_kind : (c b : Bool) → are_texts op bs l r ≡ c → are_texts op cs (renamed names l) (renamed names r) ≡ b → are_texts op cs (renamed names l) (renamed names r) ≡ are_texts op bs l r
          → Passes env (if c then Equal (data_of l.kind) (data_of r.kind) else Compare (time_of l.kind) op (time_of r.kind))
          ↔ Passes other (if b then Equal (data_of (renamed_kind names l.kind)) (data_of (renamed_kind names r.kind)) else Compare (time_of (renamed_kind names l.kind)) op (time_of (renamed_kind names r.kind)))
      by_kind true true s z e =
          let x = read_texts op bs l r s in
          let a = same_text l.kind lp x.0 in
          let b = same_text r.kind rp x.1 in
          ((λ k. a ∙ k ∙ sym b), λ k. sym a ∙ k ∙ b)
      by_kind false false s z e =
          let x = read_times op cs q (renamed names l) (renamed names r) t z in
          let a = same_time l.kind l.place lp t.0 (back l lp false x.0) in
          let b = same_time r.kind r.place rp t.1.0 (back r rp false x.1) in (
            (λ k. subst (λ v. Compares op v (time_value other (time_of (renamed_kind names r.kind)))) (sym a) (subst (λ v. Compares op (time_value env (time_of l.kind)) v) (sym b) k)),
            λ k. subst (λ v. Compares op v (time_value env (time_of r.kind))) a (subst (λ v. Compares op (time_value other (time_of (renamed_kind names l.kind))) v) b k),
          )
      by_kind true false s z e = cc
      by_kind false true s z e = cc
