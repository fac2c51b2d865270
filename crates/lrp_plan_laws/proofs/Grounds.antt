-- What the plan under guards is made over: each constant is of one of its sorts, an atom's texts are of the sorts of its columns, and a drop of texts is one of constants.
use Rattle.std.proofs.Common.{◌≡◌, ◌↔◌, ⊎_elim, ◌||◌, ◌&&◌, ℕ, Bool, true, false, List, [], ◌∷◌, Option, Some, None, filter, map, flat_map, Contains, refl, sym, ap, subst, ◌∙◌, bytes_eq}
use Rattle.std.specs.List.{AllByRecursion}
use Rattle.std.specs.Cmp.Lexicographic.{bytes_decides}
use Rattle.lrp_model.specs.Texts.{Text, Identifier}
use Rattle.lrp_model.specs.Rows.{Datum, time, text, IsOf, IsInRow, relation_named, columns_in, rows_in}
use Rattle.lrp_model.specs.Sorts.{same_sort, is_data}
use Rattle.lrp_model.specs.Formulas.{Form, Question}
use Rattle.lrp_model.specs.Variables.{data_variable}
use Rattle.lrp_model.specs.Satisfaction.{Structure, Assignment, Satisfies, ForSome, term_value, with_value, structure}
use Rattle.lrp_model.specs.Domains.{row_texts, database_texts, form_texts, all_texts, domain, constants}
use Rattle.lrp_model.specs.Core.{HasElements}
use Rattle.lrp_model.specs.Steps.{PlanStep, step_at, formula_at}
use Rattle.lrp_model.specs.declared.relations.Sort.{Sort}
use Rattle.lrp_model.specs.declared.relations.Sort.TheVariants.{Time, Data, Named}
use Rattle.lrp_model.specs.declared.relations.Column.{Column}
use Rattle.lrp_model.specs.declared.relations.Row.{Row}
use Rattle.lrp_model.specs.declared.relations.Relation.{Relation}
use Rattle.lrp_model.specs.declared.relations.Value.{Value}
use Rattle.lrp_model.specs.declared.relations.Value.TheVariants.{Point, Const}
use Rattle.lrp_model.specs.declared.formulas.DataTerm.TheVariants.{Var as data_var, Const as data_const}
use Rattle.lrp_model.specs.declared.formulas.Term.{Term}
use Rattle.lrp_model.specs.declared.formulas.Term.TheVariants.{Time as time_term, Data as data_term}
use Rattle.lrp_model.proofs.Decided.{cons_cases, contains_first, contains_later, contains_none}
use Rattle.lrp_model.proofs.DomainLaws.{contains_in_order}
use Rattle.lrp_plan_laws.specs.GuardedConjunctions.{SortElement, stands_alone}
use Rattle.lrp_plan_laws.specs.GuardedPlans.{ground, guarded_steps, guarded_plan}
use Rattle.lrp_plan_laws.specs.Settled.{IsTextDrop}
use Rattle.lrp_plan_laws.proofs.Members.{all_of, all_self, in_left}
use Rattle.lrp_plan_laws.proofs.CoreLaws.{own_name}
use Rattle.lrp_plan_laws.proofs.Standings.{kept_has, flat_all}
use Rattle.lrp_plan_laws.proofs.SortedTexts.{found_is}
use Rattle.lrp_plan_laws.proofs.ScanLaws.{in_texts}
use Rattle.lrp_plan_laws.proofs.GuardLaws.{domain_known}
use Rattle.lrp_plan_laws.proofs.Dropping.{IsDrop}
use Rattle.lrp_plan_laws.proofs.Dropped.{IsGround, IsValue, drop_says}
use Rattle.lrp_plan_laws.proofs.RisingLaws.{plan_made}
use Rattle.lrp_plan_laws.proofs.WrittenFront.{Any}
use Rattle.lrp_plan_laws.proofs.GuardedFront.{ground_sorts, DropsEach, over_sorts, guarded_any}
use Rattle.lrp_plan_laws.proofs.GuardedTaking.{StandsFor}

-- ---- each constant is of one of the sorts

-- a sort is the same as itself
same_itself : (s : Sort) → same_sort s s ≡ true
same_itself Time = refl
same_itself Data = refl
same_itself (Named name) = own_name name

-- a text of some entries is that of one of them
entry_of : (es : List (Sort × Text)) (t : Text) → Contains (map (λ entry. entry.1) es) t → (e : Sort × Text) × Contains es e × (e.1 ≡ t)
entry_of [] t c = absurd (contains_none t c)
entry_of (d ∷ ds) t c =
    ⊎_elim (λ q. (d, contains_first d ds, q)) (λ k. let r = entry_of ds t k in (r.0, contains_later d r.0 ds r.1, r.2)) (cons_cases d.1 t (map (λ entry. entry.1) ds) c)

-- the sort of an entry is one of the sorts
sort_of : (es : List (Sort × Text)) (e : Sort × Text) → Contains es e → Contains (map (λ entry. entry.0) es) e.0
sort_of [] e c = absurd (contains_none e c)
sort_of (d ∷ ds) e c = ⊎_elim (λ same. subst (λ x. Contains (d.0 ∷ map (λ entry. entry.0) ds) x.0) same (contains_first d.0 (map (λ entry. entry.0) ds))) (λ k. contains_later d.0 e.0 (map (λ entry. entry.0) ds) (sort_of ds e k)) (cons_cases d e ds c)

-- the text of an entry is of the entry's sort
entry_domain : (db : List Relation) (q : Question) (e : Sort × Text) (s : Sort) → Contains (all_texts db q) e → same_sort e.0 s ≡ true → Contains (domain db q s) e.1
entry_domain db q e s c same =
    (contains_in_order (map (λ entry. entry.1) (filter (λ entry. same_sort entry.0 s) (all_texts db q))) e.1).1
    (in_texts (filter (λ entry. same_sort entry.0 s) (all_texts db q)) e (kept_has (λ entry. same_sort entry.0 s) (all_texts db q) e c same))

-- the ground of a query whose texts are of sorts of texts
pub is_ground : (db : List Relation) (q : Question) → AllByRecursion (λ entry. is_data entry.0 ≡ true) (all_texts db q) → IsGround (ground db q) (constants db q)
is_ground db q texts = record {
  sorts = ground_sorts db q;
  known = λ s t c. domain_known db q s t c;
  sorted = λ t c.
      let sorts : List Sort = map (λ entry. entry.0) (all_texts db q) in
      let x = entry_of (all_texts db q) t ((contains_in_order (map (λ entry. entry.1) (all_texts db q)) t).0 c) in (
        x.0.0,
        contains_later Data x.0.0 (filter is_data sorts) (kept_has is_data sorts x.0.0 (sort_of (all_texts db q) x.0 x.1) (all_of (λ entry. is_data entry.0 ≡ true) (all_texts db q) x.0 texts x.1)),
        subst (Contains (domain db q x.0.0)) x.2 (entry_domain db q x.0 x.0.0 x.1 (same_itself x.0.0)),
      );
}

-- ---- an atom's texts are of the sorts of its columns

-- the text of a variable that stands alone in a column of the sort is one of the row's of that sort
stands_row : (e : SortElement) (env : Assignment) (cs : List Column) (ts : List Term) (values : List Value) → stands_alone e cs ts ≡ true → IsOf values (map (term_value env) ts) → (x : Sort × Text) × Contains (row_texts cs values) x × (same_sort x.0 e.sort ≡ true) × (x.1 ≡ env.texts e.variable)
stands_row e env [] ts values h o = cc
stands_row e env (c ∷ cs) [] values h o = cc
stands_row e env (c ∷ cs) (data_term (data_var v) ∷ ts) [] h o = absurd o
stands_row e env (c ∷ cs) (data_term (data_var v) ∷ ts) (Point at ∷ values) h o = absurd o
stands_row e env (c ∷ cs) (data_term (data_var v) ∷ ts) (Const k ∷ values) h o = by_name (bytes_eq v e.variable) (same_sort c.sort e.sort) refl refl (λ l. stands_row e env cs ts values l o.1) h
  where
    by_name : (a b : Bool) → bytes_eq v e.variable ≡ a → same_sort c.sort e.sort ≡ b
        → (stands_alone e cs ts ≡ true → (x : Sort × Text) × Contains (row_texts cs values) x × (same_sort x.0 e.sort ≡ true) × (x.1 ≡ env.texts e.variable))
        → ((a && b) || stands_alone e cs ts) ≡ true → (x : Sort × Text) × Contains ((c.sort, k) ∷ row_texts cs values) x × (same_sort x.0 e.sort ≡ true) × (x.1 ≡ env.texts e.variable)
    by_name true true p q rest g = ((c.sort, k), contains_first (c.sort, k) (row_texts cs values), q, sym o.0 ∙ ap env.texts ((bytes_decides v e.variable).0 p))
    by_name true false p q rest g = let r = rest g in (r.0, contains_later (c.sort, k) r.0 (row_texts cs values) r.1, r.2, r.3)
    by_name false b p q rest g = let r = rest g in (r.0, contains_later (c.sort, k) r.0 (row_texts cs values) r.1, r.2, r.3)
stands_row e env (c ∷ cs) (data_term (data_const t) ∷ ts) [] h o = absurd o
stands_row e env (c ∷ cs) (data_term (data_const t) ∷ ts) (Point at ∷ values) h o = absurd o
stands_row e env (c ∷ cs) (data_term (data_const t) ∷ ts) (Const k ∷ values) h o = let r = stands_row e env cs ts values h o.1 in (r.0, contains_later (c.sort, k) r.0 (row_texts cs values) r.1, r.2, r.3)
stands_row e env (c ∷ cs) (time_term t ∷ ts) [] h o = absurd o
stands_row e env (c ∷ cs) (time_term t ∷ ts) (Point at ∷ values) h o = stands_row e env cs ts values h o.1
stands_row e env (c ∷ cs) (time_term t ∷ ts) (Const k ∷ values) h o = absurd o

-- a text of a row is one of the database
row_known : (db : List Relation) (r : Relation) (row : Row) (x : Sort × Text) → Contains db r → Contains r.rows row → Contains (row_texts r.columns row.values) x → Contains (database_texts db) x
row_known db r row x c d e =
    let all : List (Sort × Text) = database_texts db in
    let rows = all_of (λ r. AllByRecursion (Contains all) (flat_map (λ row. row_texts r.columns row.values) r.rows)) db r ((flat_all (Contains all) (λ r. flat_map (λ row. row_texts r.columns row.values) r.rows) db).0 (all_self all)) c in
    let one = all_of (λ row. AllByRecursion (Contains all) (row_texts r.columns row.values)) r.rows row ((flat_all (Contains all) (λ row. row_texts r.columns row.values) r.rows).0 rows) d in
    all_of (Contains all) (row_texts r.columns row.values) x one e

-- a sort element stands for itself where an atom has its variable alone in a column of its sort
pub stands_for : (db : List Relation) (q : Question) → StandsFor (structure db q)
stands_for db q a e alone env h = by_relation (relation_named db a.name) refl alone h.0 h.1 h.2
  where
    by_relation : (o : Option Relation) → relation_named db a.name ≡ o → stands_alone e (columns_in o) a.terms ≡ true → (row : Row) → Contains (rows_in o) row → IsInRow row (map (term_value env) a.terms) → Contains (domain db q e.sort) (env.texts e.variable)
    by_relation None found h row c in_row = absurd (contains_none row c)
    by_relation (Some r) found h row c in_row =
        let x = stands_row e env r.columns a.terms row.values h in_row.values in
        let k : Contains (database_texts db) x.0 = row_known db r row x.0 (found_is (Contains db) (λ r. bytes_eq r.name a.name) db r found (all_self db)) c x.1 in
        subst (Contains (domain db q e.sort)) x.3 (entry_domain db q x.0 e.sort (in_left (database_texts db) (form_texts q.body db q.head) x.0 k) x.2)

-- ---- drops of texts

-- some text that is known is some value of a variable for texts
some_text : (texts : List Text) (v : Identifier) (p : Datum → Type 0) → ForSome (λ d. IsValue texts (data_variable v) d × p d) ↔ ForSome (λ t. Contains texts t × p (text t))
some_text texts v p = ((λ h none. h (λ d x. of_value d x none)), λ h none. h (λ t x. none (text t) x))
  where
    of_value : (d : Datum) → IsValue texts (data_variable v) d × p d → ((t : Text) → Contains texts t × p (text t) → ⊥) → ⊥
    of_value (time z) x none = absurd x.0
    of_value (text t) x none = none t x

-- each drop of texts of a plan under guards is one of constants
pub guarded_drops : (db : List Relation) (q : Question) → HasElements q.body → AllByRecursion (λ entry. is_data entry.0 ≡ true) (all_texts db q) → (s : ℕ) (step : PlanStep) → step_at (guarded_plan db q) s ≡ Some step → IsTextDrop (guarded_plan db q) db q step
guarded_drops db q some texts s step e of v kind env =
    let M : Structure = structure db q in
    let f : Form = formula_at (guarded_plan db q) of in
    let drop : DropsEach (ground db q) v f step.formula = subst (λ k. IsDrop (over_sorts db q) (formula_at (guarded_plan db q)) k step.formula) kind (plan_made db q (over_sorts db q) Any (guarded_steps db q) (guarded_any db q some) s step e).drop in
    let d = drop_says (ground db q) (constants db q) (is_ground db q texts) (data_variable v) f env in
    let t = some_text (constants db q) v (λ x. Satisfies f M (with_value v x env)) in
    subst (λ g. Satisfies g M env ↔ ForSome (λ t. Contains (constants db q) t × Satisfies f M (with_value v (text t) env))) (sym drop) ((λ h. t.0 (d.0 h)), λ h. d.1 (t.1 h))
