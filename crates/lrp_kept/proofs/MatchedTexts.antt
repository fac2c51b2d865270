-- A text variable of an atom that a row matches has a text of its column's sort.
use Rattle.std.proofs.Common.{◌≡◌, ◌<◌, suc, Bool, true, false, List, [], ◌∷◌, length, map, flat_map, filter, Contains, Some, ◌⊎◌, inl, inr, refl, sym, ap, ap₂, subst, ◌∙◌, bytes_eq, arith}
use Rattle.std.specs.Prelude.{if◌then◌else◌}
use Rattle.lrp_model.specs.Domains.{all_texts, database_texts, domain, form_texts, row_texts}
use Rattle.lrp_model.specs.Formulas.{Question}
use Rattle.lrp_model.specs.Rows.{IsOf, relation_named}
use Rattle.lrp_model.specs.Satisfaction.{Assignment, term_value}
use Rattle.lrp_model.specs.Sorts.{same_sort}
use Rattle.lrp_model.specs.Texts.{Identifier, Text}
use Rattle.lrp_model.specs.declared.formulas.DataTerm.TheVariants.{Var as data_var, Const as data_const}
use Rattle.lrp_model.specs.declared.formulas.Term.{Term}
use Rattle.lrp_model.specs.declared.formulas.Term.TheVariants.{Time as time_term, Data as data_term}
use Rattle.lrp_model.specs.declared.relations.Column.{Column}
use Rattle.lrp_model.specs.declared.relations.Relation.{Relation}
use Rattle.lrp_model.specs.declared.relations.Row.{Row}
use Rattle.lrp_model.specs.declared.relations.Sort.{Sort}
use Rattle.lrp_model.specs.declared.relations.Sort.TheVariants.{Time, Data, Named}
use Rattle.lrp_model.specs.declared.relations.Value.{Value}
use Rattle.lrp_model.specs.declared.relations.Value.TheVariants.{Point, Const}
use Rattle.lrp_model.proofs.Decided.{cons_cases, contains_first, contains_later}
use Rattle.lrp_model.proofs.DomainLaws.{contains_in_order}
use Rattle.lrp_plan_laws.proofs.CoreLaws.{own_name}
use Rattle.lrp_plan_laws.proofs.Members.{in_left}
use Rattle.lrp_tables.proofs.Pieced.{in_flat}
use Rattle.lrp_tables.specs.Columns.{texts_of_term}
use Rattle.lrp_kept.specs.SortedForms.{AreSortedTerms}

-- ---- in one row

pub text_in_row : (bs : List Column) (env : Assignment) (v : Identifier) (cs : List Column) (vs : List Value) (ts : List Term) → length ts ≡ length cs → AreSortedTerms bs cs ts → IsOf vs (map (term_value env) ts) → Contains (flat_map texts_of_term ts) v → (b : Column) × Contains bs b × (b.name ≡ v) × Contains (row_texts cs vs) (b.sort, env.texts v)
text_in_row bs env v cs vs [] z s m i = absurd (let l : i.0 < 0 = i.1 in omega (arith, l))
text_in_row bs env v [] vs (t ∷ ts) z s m i = absurd (let e : suc (length ts) ≡ 0 = z in omega (arith, e))
text_in_row bs env v (c ∷ cs) [] (time_term t ∷ ts) z s m i = absurd m
text_in_row bs env v (c ∷ cs) [] (data_term t ∷ ts) z s m i = absurd m
text_in_row bs env v (c ∷ cs) (Const k ∷ vs) (time_term t ∷ ts) z s m i = absurd m
text_in_row bs env v (c ∷ cs) (Point at ∷ vs) (time_term t ∷ ts) z s m i = text_in_row bs env v cs vs ts (let e : suc (length ts) ≡ suc (length cs) = z in omega (arith, e)) s.1 m.1 i
text_in_row bs env v (c ∷ cs) (Point at ∷ vs) (data_term t ∷ ts) z s m i = absurd m
text_in_row bs env v (c ∷ cs) (Const k ∷ vs) (data_term (data_const w) ∷ ts) z s m i =
    let r = text_in_row bs env v cs vs ts (let e : suc (length ts) ≡ suc (length cs) = z in omega (arith, e)) s.1 m.1 i in
    (r.0, r.1, r.2, contains_later (c.sort, k) (r.0.sort, env.texts v) (row_texts cs vs) r.3)
text_in_row bs env v (c ∷ cs) (Const k ∷ vs) (data_term (data_var w) ∷ ts) z s m i = elim (cons_cases w v (flat_map texts_of_term ts) i) [
  | inl same ↦
      let b = s.0.0 in
      let e : (c.sort, k) ≡ (b.sort, env.texts v) = ap₂ (λ x y. (x, y)) (sym s.0.3) (sym m.0 ∙ ap env.texts same) in
      (b, s.0.1, s.0.2 ∙ same, subst (λ x. Contains ((c.sort, k) ∷ row_texts cs vs) x) e (contains_first (c.sort, k) (row_texts cs vs)))
  | inr more ↦
      let r = text_in_row bs env v cs vs ts (let e : suc (length ts) ≡ suc (length cs) = z in omega (arith, e)) s.1 m.1 more in
      (r.0, r.1, r.2, contains_later (c.sort, k) (r.0.sort, env.texts v) (row_texts cs vs) r.3)
]

-- ---- in a database

-- the relation of a name is one of them
pub named_listed : (db : List Relation) (name : Identifier) (r : Relation) → relation_named db name ≡ Some r → Contains db r
named_listed [] name r e = cc
named_listed (s ∷ db) name r e = by (bytes_eq s.name name) e (λ f. named_listed db name r f)
  where
    by : (b : Bool) → (if b then Some s else relation_named db name) ≡ Some r → (relation_named db name ≡ Some r → Contains db r) → Contains (s ∷ db) r
    by true f rest = subst (λ x. Contains (s ∷ db) x) (let y : s ≡ r = cc in y) (contains_first s db)
    by false f rest = contains_later s r db (rest f)

pub in_database : (db : List Relation) (r : Relation) (row : Row) (s : Sort) (t : Text) → Contains db r → Contains r.rows row → Contains (row_texts r.columns row.values) (s, t) → Contains (database_texts db) (s, t)
in_database db r row s t i j k = in_flat (λ (relation : Relation). flat_map (λ (w : Row). row_texts relation.columns w.values) relation.rows) db r (s, t) i (in_flat (λ (w : Row). row_texts r.columns w.values) r.rows row (s, t) j k)

-- ---- in the texts of a sort

same_itself : (s : Sort) → same_sort s s ≡ true
same_itself Time = refl
same_itself Data = refl
same_itself (Named n) = own_name n

sorted_text : (es : List (Sort × Text)) (s : Sort) (t : Text) → Contains es (s, t) → Contains (map (λ entry. entry.1) (filter (λ entry. same_sort entry.0 s) es)) t
sorted_text [] s t i = absurd (let l : i.0 < 0 = i.1 in omega (arith, l))
sorted_text (e ∷ es) s t i = by (same_sort e.0 s) refl (cons_cases e (s, t) es i) (λ j. sorted_text es s t j)
  where
    by : (b : Bool) → same_sort e.0 s ≡ b → (e ≡ (s, t)) ⊎ Contains es (s, t) → (Contains es (s, t) → Contains (map (λ entry. entry.1) (filter (λ entry. same_sort entry.0 s) es)) t) → Contains (map (λ entry. entry.1) (if b then e ∷ filter (λ entry. same_sort entry.0 s) es else filter (λ entry. same_sort entry.0 s) es)) t
    by true q (inl same) rest = subst (λ x. Contains (e.1 ∷ map (λ entry. entry.1) (filter (λ entry. same_sort entry.0 s) es)) x) (ap (λ x. x.1) same) (contains_first e.1 (map (λ entry. entry.1) (filter (λ entry. same_sort entry.0 s) es)))
    by true q (inr more) rest = contains_later e.1 t (map (λ entry. entry.1) (filter (λ entry. same_sort entry.0 s) es)) (rest more)
    by false q (inl same) rest = absurd (let x : true ≡ false = sym (same_itself s) ∙ sym (ap (λ y. same_sort y.0 s) same) ∙ q in cc)
    by false q (inr more) rest = rest more

pub in_domain : (db : List Relation) (q : Question) (s : Sort) (t : Text) → Contains (database_texts db) (s, t) → Contains (domain db q s) t
in_domain db q s t i = (contains_in_order (map (λ entry. entry.1) (filter (λ entry. same_sort entry.0 s) (all_texts db q))) t).1 (sorted_text (all_texts db q) s t (in_left (database_texts db) (form_texts q.body db q.head) (s, t) i))
