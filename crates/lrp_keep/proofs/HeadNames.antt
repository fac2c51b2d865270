-- The variables of a head are among those of a disjunct's last atom, and the disjunct binds none of their names.
use Rattle.std.proofs.Common.{◌≡◌, ◌≢◌, List, [], ◌∷◌, length, true, Contains, Some, inl, inr, sym, ap, subst, ◌∙◌}
use Rattle.std.proofs.lemmas.List.Elements.{Contains-append_cases}
use Rattle.lrp_model.specs.Formulas.{Form, atom, test, sorted, negation, conjunction, disjunction, implication, exists, forall}
use Rattle.lrp_model.specs.Texts.{Identifier}
use Rattle.lrp_model.specs.Variables.{bound_by, data_variable, head_variables, time_variable}
use Rattle.lrp_model.specs.declared.relations.Column.{Column}
use Rattle.lrp_model.specs.declared.relations.Relation.{Relation}
use Rattle.lrp_model.specs.declared.relations.Sort.{Sort}
use Rattle.lrp_model.specs.declared.relations.Sort.TheVariants.{Time, Data, Named}
use Rattle.lrp_model.proofs.Decided.{cons_cases, contains_first, contains_later, contains_none}
use Rattle.lrp_plan_laws.proofs.Members.{all_of}
use Rattle.lrp_tables.specs.Columns.{head_texts, head_times, text_name, with_time_name}
use Rattle.lrp_parts.specs.Derivations.{last_atom}
use Rattle.lrp_parts.specs.Heads.{AreHeadVariables}
use Rattle.lrp_kept.specs.Disjuncts.{IsDisjunctOf, bound_columns}
use Rattle.lrp_kept.specs.KeptForm.{all_occur, is_conjunctive, kept_elements}
use Rattle.lrp_kept.specs.SortedForms.{IsSortedForm}
use Rattle.lrp_kept.specs.declared.disjuncts.Disjunct.{Disjunct}
use Rattle.lrp_kept.specs.declared.disjuncts.JoinedAtom.{JoinedAtom}
use Rattle.lrp_keep.proofs.KeptAnswers.{one_occurs}
use Rattle.lrp_keep.proofs.WholeAtoms.{text_known, time_known}

-- no column of the one list has the name of one of the other
abbrev pub HaveOtherNames : List Column → List Column → Type 0
HaveOtherNames columns bound = (c b : Column) → Contains columns c → Contains bound b → c.name ≢ b.name

-- what is bound within binders of sorted forms has other names than they
pub other_names : (f : Form) (db : List Relation) (bs : List Column) → IsSortedForm f db bs → HaveOtherNames bs (bound_columns f)
other_names (exists v s f) db bs h c b i k e = elim (Contains-append_cases (bound_columns f) (record { name = v; sort = s } ∷ []) b k) [
  | inl inside ↦ other_names f db (record { name = v; sort = s } ∷ bs) h.1 c b (contains_later (record { name = v; sort = s }) c bs i) inside e
  | inr last ↦ elim (cons_cases (record { name = v; sort = s }) b [] last) [
    | inl same ↦ all_of (λ (d : Column). d.name ≢ v) bs c h.0 i (e ∙ ap (λ (d : Column). d.name) (sym same))
    | inr none ↦ absurd (contains_none b none)
  ]
]
other_names (atom name terms) db bs h c b i k e = absurd (contains_none b k)
other_names (test t) db bs h c b i k e = absurd (contains_none b k)
other_names (sorted s v) db bs h c b i k e = absurd (contains_none b k)
other_names (negation f) db bs h c b i k e = absurd (contains_none b k)
other_names (conjunction fs) db bs h c b i k e = absurd (contains_none b k)
other_names (disjunction fs) db bs h c b i k e = absurd (contains_none b k)
other_names (implication f g) db bs h c b i k e = absurd (contains_none b k)
other_names (forall v s f) db bs h c b i k e = absurd (contains_none b k)

-- ---- the columns of a head by their names

-- a variable of the head has the name of a column of it
abbrev IsNamed : List Column → Identifier → Type 0
IsNamed columns v = (c : Column) × Contains columns c × (c.name ≡ v)

named_later : (k : Column) (columns : List Column) (v : Identifier) → IsNamed columns v → IsNamed (k ∷ columns) v
named_later k columns v h = (h.0, contains_later k h.0 columns h.1, h.2)

time_named : (columns : List Column) (v : Identifier) → Contains (head_times columns) v → IsNamed columns v × Contains (head_variables columns) (time_variable v)
time_named [] v i = absurd (contains_none v i)
time_named (k ∷ columns) v i = by k.sort i (λ j. time_named columns v j)
  where
    by : (s : Sort) → Contains (with_time_name s k.name (head_times columns)) v → (Contains (head_times columns) v → IsNamed columns v × Contains (head_variables columns) (time_variable v)) → IsNamed (k ∷ columns) v × Contains (bound_by s k.name ∷ head_variables columns) (time_variable v)
    by Time j rest = elim (cons_cases k.name v (head_times columns) j) [
      | inl same ↦ ((k, contains_first k columns, same), subst (λ n. Contains (time_variable k.name ∷ head_variables columns) (time_variable n)) same (contains_first (time_variable k.name) (head_variables columns)))
      | inr more ↦ let r = rest more in (named_later k columns v r.0, contains_later (time_variable k.name) (time_variable v) (head_variables columns) r.1)
    ]
    by Data j rest = let r = rest j in (named_later k columns v r.0, contains_later (data_variable k.name) (time_variable v) (head_variables columns) r.1)
    by (Named n) j rest = let r = rest j in (named_later k columns v r.0, contains_later (data_variable k.name) (time_variable v) (head_variables columns) r.1)

text_named : (columns : List Column) (v : Identifier) → Contains (head_texts columns) v → IsNamed columns v × Contains (head_variables columns) (data_variable v)
text_named [] v i = absurd (contains_none v i)
text_named (k ∷ columns) v i = by k.sort i (λ j. text_named columns v j)
  where
    first : Contains (k.name ∷ head_texts columns) v → (Contains (head_texts columns) v → IsNamed columns v × Contains (head_variables columns) (data_variable v)) → IsNamed (k ∷ columns) v × Contains (data_variable k.name ∷ head_variables columns) (data_variable v)
    first j rest = elim (cons_cases k.name v (head_texts columns) j) [
      | inl same ↦ ((k, contains_first k columns, same), subst (λ n. Contains (data_variable k.name ∷ head_variables columns) (data_variable n)) same (contains_first (data_variable k.name) (head_variables columns)))
      | inr more ↦ let r = rest more in (named_later k columns v r.0, contains_later (data_variable k.name) (data_variable v) (head_variables columns) r.1)
    ]

    by : (s : Sort) → Contains (text_name s k.name (head_texts columns)) v → (Contains (head_texts columns) v → IsNamed columns v × Contains (head_variables columns) (data_variable v)) → IsNamed (k ∷ columns) v × Contains (bound_by s k.name ∷ head_variables columns) (data_variable v)
    by Time j rest = let r = rest j in (named_later k columns v r.0, contains_later (time_variable k.name) (data_variable v) (head_variables columns) r.1)
    by Data j rest = first j rest
    by (Named n) j rest = first j rest

-- ---- a disjunct in whose atoms the variables of the head occur

module _ (names : List Identifier) (f : Form) (d : Disjunct) (is : IsDisjunctOf names f d) (kept : is_conjunctive (kept_elements f) ≡ true) (columns : List Column) (occur : all_occur (kept_elements f) (head_variables columns) ≡ true) (apart : HaveOtherNames columns (bound_columns f))
    (last : JoinedAtom) (at : last_atom d (length d.atoms.items) ≡ Some last) where
  unbound : (v : Identifier) → IsNamed columns v → (b : Column) → Contains d.bound b → b.name ≡ v → ⊥
  unbound v c b listed named = apart c.0 b c.1 (subst (λ bs. Contains bs b) is.bound_are listed) (c.2 ∙ sym named)

  pub head_variables_are : AreHeadVariables columns d.bound last.vars
  head_variables_are = record {
    times = λ v i. let c = time_named columns v i in (time_known names f d is kept last at v (one_occurs (kept_elements f) (head_variables columns) (time_variable v) occur c.1), λ b. unbound v c.0 b.column b.listed b.named);
    texts = λ v i. let c = text_named columns v i in (text_known names f d is kept last at v (one_occurs (kept_elements f) (head_variables columns) (data_variable v) occur c.1), λ b. unbound v c.0 b.column b.listed b.named);
  }
